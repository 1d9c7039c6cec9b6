-- What a crash leaves of calls one after the other.
use Rattle.std.specs.Prelude.{◌≡◌, ◌⊎◌, ◌↔◌, ℕ, Bool, false, List, [], ◌∷◌, ◌++◌, refl}
use Rattle.std.proofs.Common.{ap, sym, ◌∙◌, subst, inl, inr, append_assoc}
use Rattle.std.proofs.lemmas.List.{append-nil}
use Rattle.fd_kinds.specs.History.{History}
use Rattle.fd_kinds.specs.Stores.{Grows}
use Rattle.fd_device.specs.Disks.{Files, Settled}
use Rattle.fd_device.specs.Moments.{LeavesOnly, moments_weaker, moments_joined}
use Rattle.fd_durable.specs.Durable.{Held, held_history, Between, Whole, Moved, Moves}

pub grows_on : (a b c : History) → Grows a b → Grows b c → Grows a c
grows_on a b c f g = record { more = f.more ++ g.more; joined = g.joined ∙ (ap (λ (l : History). l ++ g.more) f.joined ∙ append_assoc a f.more g.more) }

module _ {D : Type 0} (honest : D → Type 0) (seen : D → Files) (may_leave : D → Files → Type 0) (moment : D → ℕ) (left_since : D → ℕ → Files → Type 0) where
  -- one after the other, where nothing is pending between them
  moved_on : (old mid new : Held D) (later : History) → Moved honest seen may_leave moment left_since old mid [] → Moved honest seen may_leave moment left_since mid new later → Moved honest seen may_leave moment left_since old new later
  moved_on old mid new later one two =
      let last = held_history new ++ later in
      let end : Grows (held_history new) last = record { more = later; joined = refl } in
      let wider : (image : Files) → Between (held_history old) (held_history mid ++ []) image → Between (held_history old) last image = λ image b. record {
        history = b.history;
        recovers = b.recovers;
        begins = b.begins;
        ends = grows_on b.history (held_history mid) last (subst (λ (l : History). Grows b.history l) (append-nil (held_history mid)) b.ends) (grows_on (held_history mid) (held_history new) last two.grows end);
      } in
      let earlier : (image : Files) → Between (held_history mid) last image → Between (held_history old) last image = λ image b. record {
        history = b.history;
        recovers = b.recovers;
        begins = grows_on (held_history old) (held_history mid) b.history one.grows b.begins;
        ends = b.ends;
      } in
      record {
        healthy = one.healthy;
        grows = grows_on (held_history old) (held_history mid) (held_history new) one.grows two.grows;
        honesty = (λ h. two.honesty.0 (one.honesty.0 h), λ h. one.honesty.1 (two.honesty.1 h));
        moments = λ h. moments_joined moment left_since old.disk mid.disk new.disk (Between (held_history old) last)
            (moments_weaker moment left_since old.disk mid.disk (Between (held_history old) (held_history mid ++ [])) (Between (held_history old) last) wider (one.moments h))
            (moments_weaker moment left_since mid.disk new.disk (Between (held_history mid) last) (Between (held_history old) last) earlier (two.moments (one.honesty.0 h)));
        now = λ h. two.now (one.honesty.0 h);
        clean = two.clean;
        settled = λ h before fine. two.settled (one.honesty.0 h) (one.settled h before two.healthy) fine;
      }

  pub stays : (held : Held D) → Moves honest seen may_leave moment left_since held held []
  stays held = inl (refl, refl)

  -- After a disk fault nothing more is done, so that one batch at most is pending.
  pub moves_on : (old mid new : Held D) (first later : History) → Moves honest seen may_leave moment left_since old mid first → Moves honest seen may_leave moment left_since mid new later → Moves honest seen may_leave moment left_since old new (first ++ later)
  moves_on old mid new first later (inl (same, none)) two =
      subst (λ (p : History). Moves honest seen may_leave moment left_since old new (p ++ later)) (sym none) (subst (λ (h : Held D). Moves honest seen may_leave moment left_since h new later) same two)
  moves_on old mid new first later (inr one) (inl (same, none)) =
      subst (λ (p : History). Moves honest seen may_leave moment left_since old new (first ++ p)) (sym none)
      (subst (λ (p : History). Moves honest seen may_leave moment left_since old new p) (sym (append-nil first)) (subst (λ (h : Held D). Moves honest seen may_leave moment left_since old h first) (sym same) (inr one)))
  moves_on old mid new first later (inr one) (inr two) =
      let none : first ≡ [] = one.clean two.healthy in
      subst (λ (p : History). Moves honest seen may_leave moment left_since old new (p ++ later)) (sym none)
      (inr (moved_on old mid new later (subst (λ (p : History). Moved honest seen may_leave moment left_since old mid p) none one) two))
