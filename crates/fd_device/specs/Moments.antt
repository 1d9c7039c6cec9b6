-- What a crash at any moment of a run of disk calls leaves, and how such runs are joined.
use Rattle.std.specs.Prelude.{ℕ, ◌≤◌, ◌⊎◌}
use Rattle.std.proofs.Common.{inl, inr, ⊎_elim, arith}
use Rattle.fd_device.specs.Disks.{Files, Elapses}

-- A crash at any moment since old leaves files that have P.
pub record LeavesOnly {D : Type 0} (moment : D → ℕ) (left_since : D → ℕ → Files → Type 0) (old new : D) (P : Files → Type 0) : Type 0 where
  pub later : moment old ≤ moment new
  pub each : (image : Files) → left_since new (moment old) image → P image
  -- for a run that began earlier
  pub before : (t : ℕ) (image : Files) → t ≤ moment old → left_since new t image → left_since old t image ⊎ P image

module _ {D : Type 0} (moment : D → ℕ) (left_since : D → ℕ → Files → Type 0) where
  -- before the first call
  pub moments_begin : (old : D) (P : Files → Type 0) → ((image : Files) → left_since old (moment old) image → P image) → LeavesOnly moment left_since old old P
  moments_begin old P here = record { later = omega arith; each = here; before = λ t c le left. inl left }

  -- one call more, after which a crash leaves what has P
  pub moments_more : (old mid new : D) (P may_leave : Files → Type 0) → LeavesOnly moment left_since old mid P
      → Elapses (moment mid) (moment new) (left_since mid) (left_since new) may_leave
      → ((image : Files) → may_leave image → P image) → LeavesOnly moment left_since old new P
  moments_more old mid new P may_leave so_far time here = record {
    later = omega (arith, so_far.later, time.later);
    each = λ c left. ⊎_elim (so_far.each c) (here c) (time.nothing_else (moment old) c so_far.later left);
    before = λ t c le left. ⊎_elim (so_far.before t c le) (λ now. inr (here c now)) (time.nothing_else t c (omega (arith, le, so_far.later)) left);
  }

  -- two runs, one after the other
  pub moments_joined : (old mid new : D) (P : Files → Type 0) → LeavesOnly moment left_since old mid P → LeavesOnly moment left_since mid new P → LeavesOnly moment left_since old new P
  moments_joined old mid new P one two = record {
    later = omega (arith, one.later, two.later);
    each = λ c left. ⊎_elim (one.each c) (λ p. p) (two.before (moment old) c one.later left);
    before = λ t c le left. ⊎_elim (one.before t c le) (λ p. inr p) (two.before t c (omega (arith, le, one.later)) left);
  }

  -- what has P has Q
  pub moments_weaker : (old new : D) (P Q : Files → Type 0) → ((image : Files) → P image → Q image) → LeavesOnly moment left_since old new P → LeavesOnly moment left_since old new Q
  moments_weaker old new P Q so run = record {
    later = run.later;
    each = λ c left. so c (run.each c left);
    before = λ t c le left. ⊎_elim (λ l. inl l) (λ p. inr (so c p)) (run.before t c le left);
  }

  -- what holds of each image, and what else holds of it
  pub moments_both : (old new : D) (P Q : Files → Type 0) → LeavesOnly moment left_since old new P → LeavesOnly moment left_since old new Q → LeavesOnly moment left_since old new (λ image. P image × Q image)
  moments_both old new P Q one two = record {
    later = one.later;
    each = λ c left. (one.each c left, two.each c left);
    before = λ t c le left. ⊎_elim (λ l. inl l) (λ p. ⊎_elim (λ l. inl l) (λ q. inr (p, q)) (two.before t c le left)) (one.before t c le left);
  }
