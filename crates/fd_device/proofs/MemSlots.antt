-- A change of the slot of a file, which was made where there was none.
use Rattle.std.proofs.Common.{◌≡◌, ℕ, zero, suc, ◌+◌, ◌<◌, List, [], ◌∷◌, length, get_or, set, ◌⊎◌, inl, inr, ⊎_elim, refl, sym, ◌∙◌, ap, subst, arith, if◌then◌else◌}
use Rattle.std.proofs.lemmas.Bool.{cond-true, cond-false, cases_Bool}
use Rattle.fd_device.specs.Disks.{Files, changed, same_file, Steps}
use Rattle.fd_device.specs.Slots.{lookup, IsPlace, Grows}
use Rattle.fd_device.specs.MemFiles.{now_of, base_of, lost_of, torn_of, files_of, bases, Restarts, RestartsUpto}
use Rattle.fd_device.specs.declared.files.FileId.{FileId}
use Rattle.fd_device.specs.declared.slots.Slot.{Slot}
use Rattle.fd_device.specs.declared.mem_file.MemFile.{MemFile}
use Rattle.fd_device.proofs.SlotPlaces.{bytes_at, set_changes, set_same, grows_same}
use Rattle.fd_device.proofs.ChangeSteps.{steps_changed}

module _ {T : Type 0} (get : T → List ℕ) (old mid : List (Slot T)) (file : FileId) (empty : T) (i : ℕ) (slot : Slot T) (held : T) where
  pub placed_changes : (change : List ℕ → List ℕ) → get empty ≡ [] → Grows file empty old mid → IsPlace mid i file → slot ≡ get_or mid i slot → get held ≡ change (get slot.held)
      → lookup get (set mid i (record { file = slot.file; held = held })) ≡ changed file change (lookup get old)
  placed_changes change none grown place is made =
      set_changes get mid i file slot held change place is made ∙ ap (λ (g : Files). changed file change g) (grows_same get old mid file empty none grown)

  pub placed_same : get empty ≡ [] → Grows file empty old mid → IsPlace mid i file → slot ≡ get_or mid i slot → get held ≡ get slot.held
      → lookup get (set mid i (record { file = slot.file; held = held })) ≡ lookup get old
  placed_same none grown place is made = set_same get mid i file slot held place is made ∙ grows_same get old mid file empty none grown

  pub placed_steps : (step : List ℕ → List ℕ → Type 0) → get empty ≡ [] → Grows file empty old mid → IsPlace mid i file → slot ≡ get_or mid i slot → step (get slot.held) (get held)
      → Steps file step (lookup get old) (lookup get (set mid i (record { file = slot.file; held = held })))
  placed_steps step none grown place is here =
      let same : lookup get mid ≡ lookup get old = grows_same get old mid file empty none grown in
      let was : lookup get old file ≡ get slot.held = ap (λ (g : Files). g file) (sym same) ∙ bytes_at get mid i file slot place ∙ ap (λ (s : Slot T). get s.held) (sym is) in
      let next : lookup get (set mid i (record { file = slot.file; held = held })) ≡ changed file (λ l. get held) (lookup get old) = placed_changes (λ l. get held) none grown place is refl in
      subst (λ (g : Files). Steps file step (lookup get old) g) (sym next) (steps_changed file step (λ l. get held) (lookup get old) (subst (λ (l : List ℕ). step l (get held)) (sym was) here))

-- one slot more that began anew
pub restarts_more : (n : ℕ) (old new : List (Slot MemFile)) (slot : Slot MemFile) (held : MemFile) → n < length new → RestartsUpto n old new → slot ≡ get_or new n slot → Restarts slot.held held
    → RestartsUpto (n + 1) old (set new n (record { file = slot.file; held = held }))
restarts_more n old [] slot held below all is step = absurd (omega arith)
restarts_more zero old (b ∷ new) slot held below all is step =
    subst (λ (o : List (Slot MemFile)). RestartsUpto 1 o (record { file = slot.file; held = held } ∷ new)) all
    (ap (λ (s : Slot MemFile). s.file) is, subst (λ (s : Slot MemFile). Restarts s.held held) is step, refl)
restarts_more (suc n) [] (b ∷ new) slot held below all is step = absurd all
restarts_more (suc n) (a ∷ old) (b ∷ new) slot held below all is step =
    let same : suc (n + 1) ≡ suc n + 1 = omega arith in
    subst (λ (k : ℕ). RestartsUpto k (a ∷ old) (b ∷ set new n (record { file = slot.file; held = held }))) same
    (all.0, all.1, restarts_more n old new slot held (omega arith) all.2 is step)

pub restarts_length : (n : ℕ) (old new : List (Slot MemFile)) → RestartsUpto n old new → length new ≡ length old
restarts_length zero old new all = ap length all
restarts_length (suc n) [] new all = absurd all
restarts_length (suc n) (a ∷ old) [] all = absurd all
restarts_length (suc n) (a ∷ old) (b ∷ new) all = omega (arith, restarts_length n old new all.2)

-- each file is what it was, or one of its images
pub restarts_is : (old new : List (Slot MemFile)) (f : FileId) → RestartsUpto (length old) old new
    → (lookup now_of new f ≡ lookup now_of old f) ⊎ (lookup now_of new f ≡ lookup lost_of old f) ⊎ (lookup now_of new f ≡ lookup torn_of old f)
restarts_is [] new f all = inl (ap (λ (l : List (Slot MemFile)). lookup now_of l f) all)
restarts_is (a ∷ old) [] f all = absurd all
restarts_is (a ∷ old) (b ∷ new) f all = elim (cases_Bool (same_file f a.file)) [
  | inl same ↦
      let first : lookup now_of (b ∷ new) f ≡ b.held.bytes = cond-true (same_file f b.file) b.held.bytes (lookup now_of new f) (ap (λ (k : FileId). same_file f k) all.0 ∙ same) in
      let was : (x rest : List ℕ) → x ≡ (if same_file f a.file then x else rest) = λ x rest. sym (cond-true (same_file f a.file) x rest same) in
      ⊎_elim (λ e. inl (first ∙ e ∙ was (now_of a.held) (lookup now_of old f)))
      (λ r. ⊎_elim (λ e. inr (inl (first ∙ e ∙ was (lost_of a.held) (lookup lost_of old f)))) (λ e. inr (inr (first ∙ e ∙ was (torn_of a.held) (lookup torn_of old f)))) r)
      all.1.is
  | inr other ↦
      let rest : lookup now_of (b ∷ new) f ≡ lookup now_of new f = cond-false (same_file f b.file) b.held.bytes (lookup now_of new f) (ap (λ (k : FileId). same_file f k) all.0 ∙ other) in
      let was : (x y : List ℕ) → y ≡ (if same_file f a.file then x else y) = λ x y. sym (cond-false (same_file f a.file) x y other) in
      ⊎_elim (λ e. inl (rest ∙ e ∙ was (now_of a.held) (lookup now_of old f)))
      (λ r. ⊎_elim (λ e. inr (inl (rest ∙ e ∙ was (lost_of a.held) (lookup lost_of old f)))) (λ e. inr (inr (rest ∙ e ∙ was (torn_of a.held) (lookup torn_of old f)))) r)
      (restarts_is old new f all.2)
]

-- and nothing is pending
pub restarts_same : (get : MemFile → List ℕ) → ((a b : MemFile) → Restarts a b → get b ≡ now_of b) → (old new : List (Slot MemFile)) (f : FileId) → RestartsUpto (length old) old new → lookup get new f ≡ lookup now_of new f
restarts_same get so [] new f all = ap (λ (l : List (Slot MemFile)). lookup get l f) all ∙ sym (ap (λ (l : List (Slot MemFile)). lookup now_of l f) all)
restarts_same get so (a ∷ old) [] f all = absurd all
restarts_same get so (a ∷ old) (b ∷ new) f all =
    ap (λ (x : List ℕ). if same_file f b.file then x else lookup get new f) (so a.held b.held all.1)
    ∙ ap (λ (y : List ℕ). if same_file f b.file then now_of b.held else y) (restarts_same get so old new f all.2)

pub bases_at : (slots : List (Slot MemFile)) (f : FileId) → files_of (bases slots) f ≡ lookup base_of slots f
bases_at [] f = refl
bases_at (slot ∷ slots) f = ap (λ (y : List ℕ). if same_file f slot.file then base_of slot.held else y) (bases_at slots f)

pub bases_are : (slots : List (Slot MemFile)) → files_of (bases slots) ≡ lookup base_of slots
bases_are slots = λ j f. bases_at slots f j
