-- Places of files among slots.
use Rattle.std.proofs.Common.{◌≡◌, ℕ, zero, suc, ◌+◌, ◌<◌, List, [], ◌∷◌, ◌++◌, length, take, get_or, set, inl, inr, refl, sym, ◌∙◌, ap, subst, arith, Bool, true, false, if◌then◌else◌}
use Rattle.std.proofs.lemmas.Bool.{cond-true, cond-false, cases_Bool}
use Rattle.std.proofs.lemmas.List.{take_all}
use Rattle.fd_device.specs.Disks.{Files, changed, same_file}
use Rattle.fd_device.specs.Slots.{lookup, IsPlace, IsAbsent, Grows}
use Rattle.fd_device.specs.declared.files.FileId.{FileId}
use Rattle.fd_device.specs.declared.slots.Slot.{Slot}
use Rattle.fd_device.proofs.DiskSteps.{same_file-eq, same_file-refl}

twice : (b : Bool) (x y z : List ℕ) → (if b then x else y) ≡ (if b then x else (if b then z else y))
twice true x y z = refl
twice false x y z = refl

swapped : (b c : Bool) (x z y : List ℕ) → (b ≡ true → c ≡ true → ⊥) → (if b then x else (if c then z else y)) ≡ (if c then z else (if b then x else y))
swapped true true x z y apart = absurd (apart refl refl)
swapped true false x z y apart = refl
swapped false true x z y apart = refl
swapped false false x z y apart = refl

-- a file is not two that differ
apart : (f a file : FileId) → same_file file a ≡ false → same_file f a ≡ true → same_file f file ≡ true → ⊥
apart f a file differ is_a is_file =
    let same : file ≡ a = sym (same_file-eq f file is_file) ∙ same_file-eq f a is_a in
    let both : true ≡ false = sym (same_file-refl a) ∙ ap (λ (k : FileId). same_file k a) (sym same) ∙ differ in
    cc both

-- under the test that f is the file, what is said of the file holds of f
pub under_test : (f file : FileId) (x y : List ℕ) (g : Files) → x ≡ g file → (if same_file f file then x else y) ≡ (if same_file f file then g f else y)
under_test f file x y g is = elim (cases_Bool (same_file f file)) [
  | inl is_file ↦ cond-true (same_file f file) x y is_file ∙ is ∙ ap g (sym (same_file-eq f file is_file)) ∙ sym (cond-true (same_file f file) (g f) y is_file)
  | inr other ↦ cond-false (same_file f file) x y other ∙ sym (cond-false (same_file f file) (g f) y other)
]

module _ {T : Type 0} where
  pub place_below : (slots : List (Slot T)) (i : ℕ) (file : FileId) → IsPlace slots i file → i < length slots
  place_below [] i file place = absurd place
  place_below (slot ∷ slots) zero file place = omega arith
  place_below (slot ∷ slots) (suc i) file place = omega (arith, place_below slots i file place.1)

  pub place_file : (slots : List (Slot T)) (i : ℕ) (file : FileId) (d : Slot T) → IsPlace slots i file → (get_or slots i d).file ≡ file
  place_file [] i file d place = absurd place
  place_file (slot ∷ slots) zero file d place = sym (same_file-eq file slot.file place)
  place_file (slot ∷ slots) (suc i) file d place = place_file slots i file d place.1

  -- a loop over slots that has met none of the file
  pub absent_more : (slots : List (Slot T)) (i : ℕ) (file : FileId) (d : Slot T) → i < length slots → IsAbsent (take i slots) file → same_file file (get_or slots i d).file ≡ false → IsAbsent (take (i + 1) slots) file
  absent_more [] i file d below absent other = absurd (omega arith)
  absent_more (slot ∷ slots) zero file d below absent other = (other, tt)
  absent_more (slot ∷ slots) (suc i) file d below absent other =
      let same : suc (i + 1) ≡ suc i + 1 = omega arith in
      subst (λ (k : ℕ). IsAbsent (take k (slot ∷ slots)) file) same (absent.0, absent_more slots i file d (omega arith) absent.1 other)

  pub found_at : (slots : List (Slot T)) (i : ℕ) (file : FileId) (d : Slot T) → i < length slots → IsAbsent (take i slots) file → same_file file (get_or slots i d).file ≡ true → IsPlace slots i file
  found_at [] i file d below absent same = absurd (omega arith)
  found_at (slot ∷ slots) zero file d below absent same = same
  found_at (slot ∷ slots) (suc i) file d below absent same = (absent.0, found_at slots i file d (omega arith) absent.1 same)

  -- a slot that is put behind the others
  pub place_push : (slots : List (Slot T)) (file : FileId) (held : T) → IsAbsent slots file → IsPlace (slots ++ record { file = file; held = held } ∷ []) (length slots) file
  place_push [] file held absent = same_file-refl file
  place_push (slot ∷ slots) file held absent = (absent.0, place_push slots file held absent.1)

module _ {T : Type 0} (get : T → List ℕ) where
  pub bytes_at : (slots : List (Slot T)) (i : ℕ) (file : FileId) (d : Slot T) → IsPlace slots i file → lookup get slots file ≡ get (get_or slots i d).held
  bytes_at [] i file d place = absurd place
  bytes_at (slot ∷ slots) zero file d place = cond-true (same_file file slot.file) (get slot.held) (lookup get slots file) place
  bytes_at (slot ∷ slots) (suc i) file d place = cond-false (same_file file slot.file) (get slot.held) (lookup get slots file) place.0 ∙ bytes_at slots i file d place.1

  pub nothing_at : (slots : List (Slot T)) (file : FileId) → IsAbsent slots file → lookup get slots file ≡ []
  nothing_at [] file absent = refl
  nothing_at (slot ∷ slots) file absent = cond-false (same_file file slot.file) (get slot.held) (lookup get slots file) absent.0 ∙ nothing_at slots file absent.1

  -- a slot with other bytes in the place of a file's first
  lookup-set : (slots : List (Slot T)) (i : ℕ) (file f : FileId) (next : Slot T) → IsPlace slots i file → next.file ≡ file → lookup get (set slots i next) f ≡ (if same_file f file then get next.held else lookup get slots f)
  lookup-set [] i file f next place is = absurd place
  lookup-set (slot ∷ slots) zero file f next place is =
      ap (λ (k : FileId). if same_file f k then get next.held else lookup get slots f) is
      ∙ twice (same_file f file) (get next.held) (lookup get slots f) (get slot.held)
      ∙ ap (λ (k : FileId). if same_file f file then get next.held else (if same_file f k then get slot.held else lookup get slots f)) (same_file-eq file slot.file place)
  lookup-set (slot ∷ slots) (suc i) file f next place is =
      ap (λ (l : List ℕ). if same_file f slot.file then get slot.held else l) (lookup-set slots i file f next place.1 is)
      ∙ swapped (same_file f slot.file) (same_file f file) (get slot.held) (get next.held) (lookup get slots f) (apart f slot.file file place.0)

  lookup-push : (slots : List (Slot T)) (file f : FileId) (held : T) → IsAbsent slots file → lookup get (slots ++ record { file = file; held = held } ∷ []) f ≡ (if same_file f file then get held else lookup get slots f)
  lookup-push [] file f held absent = refl
  lookup-push (slot ∷ slots) file f held absent =
      ap (λ (l : List ℕ). if same_file f slot.file then get slot.held else l) (lookup-push slots file f held absent.1)
      ∙ swapped (same_file f slot.file) (same_file f file) (get slot.held) (get held) (lookup get slots f) (apart f slot.file file absent.0)

  -- one slot is changed, and so is one file
  pub set_changes : (slots : List (Slot T)) (i : ℕ) (file : FileId) (slot : Slot T) (held : T) (change : List ℕ → List ℕ) → IsPlace slots i file → slot ≡ get_or slots i slot → get held ≡ change (get slot.held)
      → lookup get (set slots i (record { file = slot.file; held = held })) ≡ changed file change (lookup get slots)
  set_changes slots i file slot held change place is made =
      let was : lookup get slots file ≡ get slot.held = bytes_at slots i file slot place ∙ ap (λ (s : Slot T). get s.held) (sym is) in
      let named : slot.file ≡ file = ap (λ (s : Slot T). s.file) is ∙ place_file slots i file slot place in
      let each : (f : FileId) → lookup get (set slots i (record { file = slot.file; held = held })) f ≡ changed file change (lookup get slots) f =
      λ f. lookup-set slots i file f (record { file = slot.file; held = held }) place named
      ∙ under_test f file (get held) (lookup get slots f) (λ k. change (lookup get slots k)) (made ∙ ap change (sym was)) in
      λ j f. each f j

  itself : (files : Files) (file f : FileId) → files f ≡ (if same_file f file then files file else files f)
  itself files file f = elim (cases_Bool (same_file f file)) [
    | inl is_file ↦ ap files (same_file-eq f file is_file) ∙ sym (cond-true (same_file f file) (files file) (files f) is_file)
    | inr other ↦ sym (cond-false (same_file f file) (files file) (files f) other)
  ]

  -- one slot is changed, and no file
  pub set_same : (slots : List (Slot T)) (i : ℕ) (file : FileId) (slot : Slot T) (held : T) → IsPlace slots i file → slot ≡ get_or slots i slot → get held ≡ get slot.held
      → lookup get (set slots i (record { file = slot.file; held = held })) ≡ lookup get slots
  set_same slots i file slot held place is made =
      set_changes slots i file slot held (λ l. l) place is made ∙ λ j f. same f j
    where
      same : (f : FileId) → changed file (λ l. l) (lookup get slots) f ≡ lookup get slots f
      same f = elim (cases_Bool (same_file f file)) [
        | inl is_file ↦ cond-true (same_file f file) (lookup get slots f) (lookup get slots f) is_file
        | inr other ↦ cond-false (same_file f file) (lookup get slots f) (lookup get slots f) other
      ]

  -- a slot without bytes changes no file
  pub grows_same : (old new : List (Slot T)) (file : FileId) (empty : T) → get empty ≡ [] → Grows file empty old new → lookup get new ≡ lookup get old
  grows_same old new file empty none (inl same) = ap (lookup get) same
  grows_same old new file empty none (inr pushed) =
      let start : lookup get old file ≡ [] = nothing_at old file pushed.0 in
      let each : (f : FileId) → lookup get (old ++ record { file = file; held = empty } ∷ []) f ≡ lookup get old f =
      λ f. lookup-push old file f empty pushed.0 ∙ under_test f file (get empty) (lookup get old f) (lookup get old) (none ∙ sym start) ∙ same f in
      ap (lookup get) pushed.1 ∙ λ j f. each f j
    where
      same : (f : FileId) → (if same_file f file then lookup get old f else lookup get old f) ≡ lookup get old f
      same f = elim (cases_Bool (same_file f file)) [
        | inl is_file ↦ cond-true (same_file f file) (lookup get old f) (lookup get old f) is_file
        | inr other ↦ cond-false (same_file f file) (lookup get old f) (lookup get old f) other
      ]

  -- a file that is not there has no bytes to change
  pub absent_changes : (slots : List (Slot T)) (file : FileId) (bytes : List ℕ) → IsAbsent slots file → bytes ≡ [] → lookup get slots ≡ changed file (λ l. bytes) (lookup get slots)
  absent_changes slots file bytes absent is =
      let each : (f : FileId) → lookup get slots f ≡ changed file (λ l. bytes) (lookup get slots) f =
      λ f. itself (lookup get slots) file f ∙ under_test f file (lookup get slots file) (lookup get slots f) (λ k. bytes) (nothing_at slots file absent ∙ sym is) in
      λ j f. each f j

  -- a file that is not there has nothing to cut
  pub absent_cut : (slots : List (Slot T)) (file : FileId) (size : ℕ) → IsAbsent slots file → lookup get slots ≡ changed file (take size) (lookup get slots)
  absent_cut slots file size absent =
      let none : lookup get slots file ≡ [] = nothing_at slots file absent in
      let cut : lookup get slots file ≡ take size (lookup get slots file) = none ∙ sym (take_all size [] (omega arith)) ∙ ap (take size) (sym none) in
      let each : (f : FileId) → lookup get slots f ≡ changed file (take size) (lookup get slots) f = λ f. itself (lookup get slots) file f ∙ under_test f file (lookup get slots file) (lookup get slots f) (λ k. take size (lookup get slots k)) cut in
      λ j f. each f j
