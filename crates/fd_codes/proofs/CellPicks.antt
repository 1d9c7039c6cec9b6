-- The picks of cells, one after the other.
use Rattle.std.proofs.Common.{◌≡◌, ℕ, zero, suc, ◌+◌, ◌-◌, ◌<◌, ◌≤◌, Bool, List, [], ◌∷◌, ◌++◌, length, map, take, get_or, refl, sym, ap, subst, ◌∙◌, arith}
use Rattle.std.specs.Prelude.{All, slice_range}
use Rattle.std.specs.List.{AllByRecursion}
use Rattle.std.proofs.lemmas.List.{map-append, map_more, take_more, length-map, get_or-map}
use Rattle.std.proofs.lemmas.List.Elements.{All-from_recursion, recursion_from_All}
use Rattle.fd_pages.specs.declared.cell.Cell.{Cell}
use Rattle.fd_pages.specs.declared.cell.Cell.TheVariants.{Absent, Whole, Bytes}
use Rattle.fd_pages.specs.Dictionaries.{texts_in, IsCodePage}
use Rattle.fd_codes.specs.Picks.{picked_cell, picked_cells, IsPick}
use Rattle.fd_codes.specs.Places.{Stands, IsPickPage, IsCodePageOf}

known_by : (P : List ℕ → Type 0) (cells : List Cell) (i : ℕ) (d : Cell) → i < length cells → AllByRecursion P (texts_in cells) → AllByRecursion P (texts_in (get_or cells i d ∷ []))
known_by P [] i d lt h = absurd (omega (arith, lt))
known_by P (Absent ∷ cells) zero d lt h = tt
known_by P (Whole n ∷ cells) zero d lt h = tt
known_by P (Bytes b ∷ cells) zero d lt h = (h.0, tt)
known_by P (Absent ∷ cells) (suc i) d lt h = known_by P cells i d (omega (arith, lt)) h
known_by P (Whole n ∷ cells) (suc i) d lt h = known_by P cells i d (omega (arith, lt)) h
known_by P (Bytes b ∷ cells) (suc i) d lt h = known_by P cells i d (omega (arith, lt)) h.1

-- what holds of each text holds of that of one cell
pub known_at : (P : List ℕ → Type 0) (cells : List Cell) (i : ℕ) (d : Cell) → i < length cells → All P (texts_in cells) → All P (texts_in (get_or cells i d ∷ []))
known_at P cells i d lt h = All-from_recursion P (texts_in (get_or cells i d ∷ [])) (known_by P cells i d lt (recursion_from_All P (texts_in cells) h))

pub cells_more : (texts : List (List ℕ)) (picks : List ℕ) (pick : ℕ) (cells : List Cell) (i : ℕ) (d : Cell) → i < length cells → picked_cells texts picks ≡ take i cells → picked_cell texts pick ≡ get_or cells i d
    → picked_cells texts (picks ++ pick ∷ []) ≡ take (i + 1) cells
cells_more texts picks pick cells i d lt so_far e =
    map-append (picked_cell texts) picks (pick ∷ []) ∙ ap (λ (cs : List Cell). cs ++ picked_cell texts pick ∷ []) so_far ∙ ap (λ (c : Cell). take i cells ++ c ∷ []) e ∙ sym (take_more cells i d lt)

pub picks_more : (texts : List (List ℕ)) (picks : List ℕ) (cells : List Cell) (cell : Cell) (i : ℕ) → i < length picks → cells ≡ picked_cells texts (take i picks) → cell ≡ picked_cell texts (get_or picks i 0)
    → cells ++ cell ∷ [] ≡ picked_cells texts (take (i + 1) picks)
picks_more texts picks cells cell i lt so_far e =
    ap (λ (cs : List Cell). cs ++ cell ∷ []) so_far ∙ ap (λ (c : Cell). picked_cells texts (take i picks) ++ c ∷ []) e ∙ sym (map_more (picked_cell texts) picks i 0 lt)

pub picked_at : (texts : List (List ℕ)) (index : ℕ) (text : List ℕ) → get_or texts index [] ≡ text → picked_cell texts (index + 1) ≡ Bytes text
picked_at texts index text e =
    let one : index + 1 ≡ suc index = omega arith in
    ap (picked_cell texts) one ∙ ap Bytes e

-- a pick is the index of a text, or 0
pub upto : (required : Bool) (size : ℕ) (picks : List ℕ) → All (IsPick required size) picks → All (λ pick. pick ≤ size) picks
upto required size picks h k d lt = by (get_or picks k d) (h k d lt)
  where
    by : (pick : ℕ) → IsPick required size pick → pick ≤ size
    by zero p = omega arith
    by (suc index) p = omega (arith, p)

pub stands_cells : (required : Bool) (texts : List (List ℕ)) (size count : ℕ) (picks bytes : List ℕ) (at end : ℕ) (cells : List Cell) → length texts ≡ size → Stands (IsPickPage required size count picks) bytes at end → cells ≡ picked_cells texts picks
    → Stands (IsCodePageOf required texts count cells) bytes at end
stands_cells required texts size count picks bytes at end cells same s e = record {
  begin = s.begin;
  within = s.within;
  page = subst (λ (cs : List Cell). IsCodePageOf required texts count cs (slice_range bytes at end)) (sym e) (s.page.cells texts same);
}

pub picks_counted : (texts : List (List ℕ)) (picks : List ℕ) (cells : List Cell) → picked_cells texts picks ≡ cells → length picks ≡ length cells
picks_counted texts picks cells e = sym (length-map picks (picked_cell texts)) ∙ ap length e

-- the cell of a pick that is not 0
pub picked_text : {X : Type 0} (xs : List X) (f : X → List ℕ) (pick : ℕ) (d : X) (text : List ℕ) → 0 < pick → pick ≤ length xs → text ≡ f (get_or xs (pick - 1) d) → Bytes text ≡ picked_cell (map f xs) pick
picked_text xs f zero d text some within e = absurd (omega (arith, some))
picked_text xs f (suc index) d text some within e =
    let place : suc index - 1 ≡ index = omega arith in
    ap Bytes (e ∙ ap (λ (n : ℕ). f (get_or xs n d)) place ∙ sym (get_or-map f xs index d [] (omega (arith, within))))
