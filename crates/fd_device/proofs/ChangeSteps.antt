-- One change more of a disk in memory.
use Rattle.std.proofs.Common.{◌≡◌, ℕ, ◌+◌, ◌-◌, ◌≤◌, List, [], ◌∷◌, ◌++◌, length, take, drop, ◌⊎◌, inl, inr, append_assoc, length-append, length-drop, refl, sym, ◌∙◌, ap, subst, arith}
use Rattle.std.proofs.lemmas.Bool.{cond-true, cond-false, cases_lt}
use Rattle.std.proofs.lemmas.List.{take_at, drop_at, drop-drop, length-take-le, take-append-le}
use Rattle.std.proofs.Math.Seq.{take-length}
use Rattle.fd_device.specs.Disks.{Files, no_files, changed, written, same_file, Cut, Torn, Steps, Follows, Elapses}
use Rattle.fd_device.specs.Changes.{apply, replay, state_at, WasAt}
use Rattle.fd_device.specs.declared.changes.Change.{Change}
use Rattle.fd_device.specs.declared.files.FileId.{FileId}
use Rattle.fd_device.proofs.DiskSteps.{same_file-refl, Torn-refl}

pub replay-push : (changes : List Change) (change : Change) (files : Files) → replay (changes ++ change ∷ []) files ≡ apply change (replay changes files)
replay-push [] change files = refl
replay-push (first ∷ changes) change files = replay-push changes change (apply first files)

-- the invariant of a disk after a change
pub keeps_contents : (base now next : Files) (changes later : List Change) (change : Change) → now ≡ replay changes base → next ≡ apply change now → later ≡ changes ++ change ∷ [] → next ≡ replay later base
keeps_contents base now next changes later change same is pushed =
    is ∙ ap (apply change) same ∙ sym (replay-push changes change base) ∙ ap (λ (l : List Change). replay l base) (sym pushed)

pub noted_is : (base : Files) (changes later : List Change) (change : Change) → later ≡ changes ++ change ∷ [] → replay later base ≡ apply change (replay changes base)
noted_is base changes later change is = ap (λ (l : List Change). replay l base) is ∙ replay-push changes change base

-- bytes that are written whole, or in part, are one outcome of a write that is cut short
pub torn_part : (at n : ℕ) (piece old : List ℕ) → at ≤ length old → length piece ≤ n → Torn at n old (written at piece old)
torn_part at n piece old fits less =
    let front : length (take at old) ≡ at = omega (arith, length-take-le at old fits) in
    let grouped : written at piece old ≡ take at old ++ (piece ++ drop (at + length piece) old) = append_assoc (take at old) piece (drop (at + length piece) old) in
    let size : length (written at piece old) ≡ at + (length piece + (length old - (at + length piece))) =
    omega (arith, front, ap length grouped, length-append (take at old) (piece ++ drop (at + length piece) old), length-append piece (drop (at + length piece) old), length-drop (at + length piece) old) in
    let both : length (take at old ++ piece) ≡ at + length piece = omega (arith, front, length-append (take at old) piece) in
    let rest : drop (at + length piece) (written at piece old) ≡ drop (at + length piece) old = drop_at (take at old ++ piece) (drop (at + length piece) old) (at + length piece) both in
    record {
      before = ap (λ (l : List ℕ). take at l) grouped ∙ take_at (take at old) (piece ++ drop (at + length piece) old) at front;
      after = further (written at piece old) old (at + length piece) (at + n) rest (omega (arith, less));
      no_shorter = omega (arith, size);
      no_longer = omega (arith, size, less);
    }
  where
    further : (a b : List ℕ) (j k : ℕ) → drop j a ≡ drop j b → j ≤ k → drop k a ≡ drop k b
    further a b j k same le =
        let sum : j + (k - j) ≡ k = omega arith in
        ap (λ (i : ℕ). drop i a) (sym sum) ∙ sym (drop-drop (k - j) j a) ∙ ap (drop (k - j)) same ∙ drop-drop (k - j) j b ∙ ap (λ (i : ℕ). drop i b) sum

-- a copy is one outcome
pub torn_copy : (at n : ℕ) (old new : List ℕ) → new ≡ old → Torn at n old new
torn_copy at n old new same = subst (λ (l : List ℕ). Torn at n old l) (sym same) (Torn-refl at n old)

pub torn_writes : (at n : ℕ) (part old copy new : List ℕ) → copy ≡ old → at ≤ length old → length part ≤ n → new ≡ written at part copy → Torn at n old new
torn_writes at n part old copy new same fits less is = subst (λ (l : List ℕ). Torn at n old l) (sym (is ∙ ap (written at part) same)) (torn_part at n part old fits less)

-- a cut that is done at once is one outcome of it
pub cut_done : (size : ℕ) (old : List ℕ) → size ≤ length old → Cut size old (take size old)
cut_done size old fits =
    let n : length (take size old) ≡ size = length-take-le size old fits in
    record { no_shorter = omega (arith, n, fits); front = ap (λ (k : ℕ). take k old) n }

-- one file's change is a step of that file
pub steps_changed : (file : FileId) (step : List ℕ → List ℕ → Type 0) (change : List ℕ → List ℕ) (files : Files) → step (files file) (change (files file)) → Steps file step files (changed file change files)
steps_changed file step change files here = record {
  here = subst (λ (l : List ℕ). step (files file) l) (sym (cond-true (same_file file file) (change (files file)) (files file) (same_file-refl file))) here;
  others = λ f other. cond-false (same_file f file) (change (files f)) (files f) other;
}

-- where a crash leaves what is there, a step of what is there is followed
pub follows_now : (step : Files → Files → Type 0) (old new : Files) → step old new → Follows step (λ image. image ≡ old) (λ image. image ≡ new)
follows_now step old new done = λ image is. (old, refl, subst (λ (f : Files). step old f) (sym is) done)

-- time goes on by one change
pub elapses_push : (changes later : List Change) (change : Change) → later ≡ changes ++ change ∷ []
    → Elapses (length changes) (length later) (λ t image. WasAt changes t image) (λ t image. WasAt later t image) (λ image. image ≡ replay later no_files)
elapses_push changes later change is = record {
  later = omega (arith, size);
  nothing_else = λ t image le was. early t image was;
  keeps = λ t image le was. record { k = was.k; late = was.late; early = omega (arith, size, was.early); is = was.is ∙ sym (before was.k was.early) };
}
  where
    size : length later ≡ length changes + 1
    size = omega (arith, ap length is, length-append changes (change ∷ []))

    before : (k : ℕ) → k ≤ length changes → state_at later k ≡ state_at changes k
    before k le = ap (λ (l : List Change). replay l no_files) (ap (λ (l : List Change). take k l) is ∙ take-append-le k changes (change ∷ []) le)

    early : (t : ℕ) (image : Files) → WasAt later t image → WasAt changes t image ⊎ (image ≡ replay later no_files)
    early t image was = elim (cases_lt was.k (length later)) [
      | inl lt ↦ let le : was.k ≤ length changes = omega (arith, lt, size) in inl (record { k = was.k; late = was.late; early = le; is = was.is ∙ before was.k le })
      | inr ge ↦ let last : was.k ≡ length later = omega (arith, ge, was.early) in
          inr (was.is ∙ ap (λ (k : ℕ). state_at later k) last ∙ ap (λ (l : List Change). replay l no_files) (take-length later))
    ]
