-- Calls that change no file.
use Rattle.std.proofs.Common.{◌≡◌, ◌↔◌, ℕ, refl, sym, ◌∙◌, ap}
use Rattle.fd_device.specs.Disks.{Files, Elapses, Settled, NoneNew}
use Rattle.fd_device.specs.Moments.{moments_begin, moments_more, moments_joined, moments_weaker}
use Rattle.fd_open.specs.Barriers.{Quiet}

module _ {D : Type 0} (honest : D → Type 0) (seen : D → Files) (may_leave : D → Files → Type 0) (moment : D → ℕ) (left_since : D → ℕ → Files → Type 0)
    (only_now : (disk : D) (image : Files) → honest disk → left_since disk (moment disk) image → may_leave disk image) where
  -- no call at all
  pub quiet_none : (disk : D) → Quiet honest seen may_leave moment left_since disk disk
  quiet_none disk = record {
    honesty = (λ h. h, λ h. h);
    same = λ h. refl;
    fewer = λ h image left. left;
    moments = λ h. moments_begin moment left_since disk (may_leave disk) (λ image left. only_now disk image h left);
  }

  -- one call
  pub quiet_call : (old new : D) → honest old ↔ honest new → (honest old → seen new ≡ seen old) → (honest old → NoneNew (may_leave old) (may_leave new))
      → (honest old → Elapses (moment old) (moment new) (left_since old) (left_since new) (may_leave new)) → Quiet honest seen may_leave moment left_since old new
  quiet_call old new honesty same fewer time = record {
    honesty = honesty;
    same = same;
    fewer = fewer;
    moments = λ h. moments_more moment left_since old old new (may_leave old) (may_leave new) (moments_begin moment left_since old (may_leave old) (λ image left. only_now old image h left)) (time h) (fewer h);
  }

module _ {D : Type 0} (honest : D → Type 0) (seen : D → Files) (may_leave : D → Files → Type 0) (moment : D → ℕ) (left_since : D → ℕ → Files → Type 0) where
  -- two runs of them
  pub quiet_then : (old mid new : D) → Quiet honest seen may_leave moment left_since old mid → Quiet honest seen may_leave moment left_since mid new → Quiet honest seen may_leave moment left_since old new
  quiet_then old mid new one two = record {
    honesty = (λ h. two.honesty.0 (one.honesty.0 h), λ h. one.honesty.1 (two.honesty.1 h));
    same = λ h. two.same (one.honesty.0 h) ∙ one.same h;
    fewer = λ h image left. one.fewer h image (two.fewer (one.honesty.0 h) image left);
    moments = λ h. moments_joined moment left_since old mid new (may_leave old) (one.moments h) (moments_weaker moment left_since mid new (may_leave mid) (may_leave old) (one.fewer h) (two.moments (one.honesty.0 h)));
  }

  -- what nothing is pending in stays so
  pub quiet_settled : (old new : D) → Quiet honest seen may_leave moment left_since old new → honest old → Settled (seen old) (may_leave old) → Settled (seen new) (may_leave new)
  quiet_settled old new quiet h settled image left f = settled image (quiet.fewer h image left) f ∙ sym (ap (λ (g : Files). g f) (quiet.same h))
