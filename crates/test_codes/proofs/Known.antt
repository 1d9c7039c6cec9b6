-- The texts of cells that a page was read to are among those of its dictionary.
use Rattle.std.proofs.Common.{◌≡◌, ℕ, ◌<◌, ◌≤◌, ◌+◌, Bool, true, false, List, [], ◌∷◌, length, get_or, refl, sym, subst}
use Rattle.std.specs.Prelude.{Option, Some, None, MatchOption, Contains, All, slice_get, slice_range}
use Rattle.std.specs.List.{AllZip}
use Rattle.std.specs.Option.{IsSomeAnd}
use Rattle.std.proofs.lemmas.Slice.Zip.{AllZip-right}
use Rattle.std.proofs.lemmas.Option.{slice_get_within, get_or_from_slice_get, slice_get-get_or}
use Rattle.fd_pages.specs.declared.cell.Cell.{Cell}
use Rattle.fd_pages.specs.Dictionaries.{texts_in, IsCodeBody}
use Rattle.fd_codes.specs.Places.{IsCodePageAt}

contains : {X : Type 0} (xs : List X) (k : ℕ) (x : X) → slice_get xs k ≡ Some x → Contains xs x
contains xs k x e = (k, slice_get_within xs k x e, get_or_from_slice_get xs k x x e)

known_at : (texts : List (List ℕ)) (index : Option ℕ) (text : List ℕ) → IsSomeAnd index (λ i. slice_get texts i ≡ Some text) → Contains texts text
known_at texts None text is = absurd is
known_at texts (Some index) text is = contains texts index text is

all_known : (texts : List (List ℕ)) (indexes : List ℕ) (found : List (List ℕ)) → AllZip (λ index text. slice_get texts index ≡ Some text) indexes found → All (Contains texts) found
all_known texts indexes found are = λ k d within.
    known_at texts (slice_get indexes k) (get_or found k d)
    (subst (λ (o : Option (List ℕ)). MatchOption o (Unit {0}) (λ text. IsSomeAnd (slice_get indexes k) (λ index. slice_get texts index ≡ Some text))) (slice_get-get_or found k d within)
    (AllZip-right (λ (index : ℕ) (text : List ℕ). slice_get texts index ≡ Some text) indexes found are k))

body_known : (required : Bool) (texts : List (List ℕ)) (cells : List Cell) (body : List ℕ) → IsCodeBody required texts cells body → All (Contains texts) (texts_in cells)
body_known true texts cells body spelled = all_known texts spelled.indexes (texts_in cells) spelled.are
body_known false texts cells body (levels, indexes, runs, spelled, whole) = all_known texts spelled.indexes (texts_in cells) spelled.are

three : (cells : List Cell) → length cells ≡ 3 → slice_range cells 0 3 ≡ cells
three [] e = cc
three (a ∷ []) e = cc
three (a ∷ b ∷ []) e = cc
three (a ∷ b ∷ c ∷ []) e = refl
three (a ∷ b ∷ c ∷ d ∷ cells) e = cc

-- so it is of three cells that are read
pub are_known : (required : Bool) (texts : List (List ℕ)) (bytes : List ℕ) (at : ℕ) (cells : List Cell) (end : ℕ) → IsCodePageAt required texts 3 bytes at cells end
    → All (Contains texts) (texts_in (slice_range cells 0 3))
are_known required texts bytes at cells end stands =
    subst (λ (cs : List Cell). All (Contains texts) (texts_in cs)) (sym (three cells stands.page.counted))
    (body_known required texts cells stands.page.page.body stands.page.page.spelled)
