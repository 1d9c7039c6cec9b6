-- What a crash leaves of one write.
use Rattle.std.specs.Prelude.{◌≡◌, ◌⊎◌, ◌↔◌, ◌≤◌, ℕ, Bool, true, false, List, [], ◌∷◌, ◌++◌, refl}
use Rattle.std.proofs.Common.{ap, sym, ◌∙◌, subst, inl, inr, ⊎_elim, true≢false}
use Rattle.std.proofs.lemmas.List.{append-nil}
use Rattle.fd_kinds.specs.declared.row.Row.{Row}
use Rattle.fd_kinds.specs.History.{History}
use Rattle.fd_kinds.specs.Stores.{Grows}
use Rattle.fd_device.specs.Disks.{Files, Settled}
use Rattle.fd_device.specs.Moments.{LeavesOnly, moments_weaker}
use Rattle.fd_keeper.specs.Blocks.{RecoversTo}
use Rattle.fd_durable.specs.Durable.{Held, held_history, Between, Whole, Moved}

grows_same : (history : History) → Grows history history
grows_same history = record { more = []; joined = sym (append-nil history) }

-- the whole of a history is between it and what grows from it
between_first : (first last : History) → Grows first last → (image : Files) → RecoversTo first image → Between first last image
between_first first last grows image is = record { history = first; recovers = is; begins = grows_same first; ends = grows }

between_last : (first last : History) → Grows first last → (image : Files) → RecoversTo last image → Between first last image
between_last first last grows image is = record { history = last; recovers = is; begins = grows; ends = grows_same last }

whole_between : (first more : History) (image : Files) → Whole first more image → Between first (first ++ more) image
whole_between first more image (inl is) = between_first first (first ++ more) (record { more = more; joined = refl }) image is
whole_between first more image (inr is) = between_last first (first ++ more) (record { more = more; joined = refl }) image is

module _ {D : Type 0} (honest : D → Type 0) (seen : D → Files) (may_leave : D → Files → Type 0) (moment : D → ℕ) (left_since : D → ℕ → Files → Type 0)
    (old new : Held D) (history : History) (is : held_history old ≡ history) (healthy : old.failed ≡ false) (honesty : honest old.disk ↔ honest new.disk) where
  -- the batch is in the logs
  pub wrote : (rows : List Row) → held_history new ≡ history ++ rows ∷ []
      → (honest old.disk → LeavesOnly moment left_since old.disk new.disk (Whole history (rows ∷ [])))
      → (honest old.disk → (image : Files) → may_leave new.disk image → RecoversTo (history ++ rows ∷ []) image)
      → (honest old.disk → Settled (seen old.disk) (may_leave old.disk) → Settled (seen new.disk) (may_leave new.disk))
      → Moved honest seen may_leave moment left_since old new []
  wrote rows gained moments now settled = record {
    healthy = healthy;
    grows = record { more = rows ∷ []; joined = gained ∙ ap (λ (h : History). h ++ rows ∷ []) (sym is) };
    honesty = honesty;
    moments = λ h.
        let ends : history ++ rows ∷ [] ≡ held_history new ++ [] = sym gained ∙ sym (append-nil (held_history new)) in
        subst (λ (last : History). LeavesOnly moment left_since old.disk new.disk (Between (held_history old) last)) ends
        (subst (λ (first : History). LeavesOnly moment left_since old.disk new.disk (Between first (history ++ rows ∷ []))) (sym is)
        (moments_weaker moment left_since old.disk new.disk (Whole history (rows ∷ [])) (Between history (history ++ rows ∷ [])) (whole_between history (rows ∷ [])) (moments h)));
    now = λ h image left. inl (subst (λ (whole : History). RecoversTo whole image) (sym gained) (now h image left));
    clean = λ no. refl;
    settled = λ h before fine. settled h before;
  }

  -- the disk failed, and may have it or not
  pub failed : (rows : List Row) → held_history new ≡ history → new.failed ≡ true
      → (counts_now : (disk : D) (t : ℕ) (image : Files) → honest disk → t ≤ moment disk → may_leave disk image → left_since disk t image)
      → (honest old.disk → LeavesOnly moment left_since old.disk new.disk (Whole history (rows ∷ [])))
      → Moved honest seen may_leave moment left_since old new (rows ∷ [])
  failed rows same fault counts_now moments = record {
    healthy = healthy;
    grows = record { more = []; joined = same ∙ sym is ∙ sym (append-nil (held_history old)) };
    honesty = honesty;
    moments = λ h.
        subst (λ (last : History). LeavesOnly moment left_since old.disk new.disk (Between (held_history old) (last ++ rows ∷ []))) (sym same)
        (subst (λ (first : History). LeavesOnly moment left_since old.disk new.disk (Between first (history ++ rows ∷ []))) (sym is)
        (moments_weaker moment left_since old.disk new.disk (Whole history (rows ∷ [])) (Between history (history ++ rows ∷ [])) (whole_between history (rows ∷ [])) (moments h)));
    now = λ h image left.
        let run = moments h in
        subst (λ (whole : History). Whole whole (rows ∷ []) image) (sym same) (run.each image (counts_now new.disk (moment old.disk) image (honesty.0 h) run.later left));
    clean = λ no. absurd (true≢false (sym fault ∙ no));
    settled = λ h before no. absurd (true≢false (sym fault ∙ no));
  }

  -- nothing of it was written
  pub left_out : held_history new ≡ history
      → (honest old.disk → LeavesOnly moment left_since old.disk new.disk (RecoversTo history))
      → (honest old.disk → (image : Files) → may_leave new.disk image → RecoversTo history image)
      → (honest old.disk → Settled (seen old.disk) (may_leave old.disk) → Settled (seen new.disk) (may_leave new.disk))
      → Moved honest seen may_leave moment left_since old new []
  left_out same moments now settled = record {
    healthy = healthy;
    grows = record { more = []; joined = same ∙ sym is ∙ sym (append-nil (held_history old)) };
    honesty = honesty;
    moments = λ h.
        let ends : history ≡ held_history new ++ [] = sym same ∙ sym (append-nil (held_history new)) in
        subst (λ (last : History). LeavesOnly moment left_since old.disk new.disk (Between (held_history old) last)) ends
        (subst (λ (first : History). LeavesOnly moment left_since old.disk new.disk (Between first history)) (sym is)
        (moments_weaker moment left_since old.disk new.disk (RecoversTo history) (Between history history) (between_first history history (grows_same history)) (moments h)));
    now = λ h image left. inl (subst (λ (whole : History). RecoversTo whole image) (sym same) (now h image left));
    clean = λ no. refl;
    settled = λ h before fine. settled h before;
  }
