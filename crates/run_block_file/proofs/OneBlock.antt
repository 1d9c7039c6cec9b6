-- The parts of a book that has one block.
use Rattle.std.specs.Prelude.{◌≡◌, ◌≢◌, ℕ, ◌<◌, List, [], ◌∷◌, length, map, refl}
use Rattle.std.proofs.Common.{arith, ap, sym, ◌∙◌, subst}
use Rattle.std.proofs.lemmas.List.{length-map}
use Rattle.fd_kinds.specs.Parts.{PartMeaning}
use Rattle.fd_shelf.specs.Books.{Book, settled_parts}
use Rattle.fd_shelf.specs.Runs.{AreSealable}

one_block_by : (closed : List (List PartMeaning)) (active stragglers : List PartMeaning) → length closed ≡ 0 → settled_parts (record { closed = closed; active = active; stragglers = stragglers }) ≡ active
one_block_by [] active stragglers one = refl
one_block_by (b ∷ bs) active stragglers one = absurd (omega (arith, one))

-- they are those of the active block
one_block : (book : Book) → length book.closed ≡ 0 → settled_parts book ≡ book.active
one_block book one = one_block_by book.closed book.active book.stragglers one

some_picked : {I : Type 0} (means : I → PartMeaning) (picked : List I) (parts : List PartMeaning) → map means picked ≡ parts → 0 < length picked → parts ≢ []
some_picked means picked parts is some none =
    let counted : length picked ≡ 0 = sym (length-map picked means) ∙ ap length (is ∙ none) in omega (arith, counted, some)

-- All parts that are picked of it can be sealed.
pub picked_sealable : {I : Type 0} (means : I → PartMeaning) (picked : List I) (book : Book) (told : List PartMeaning) → length book.closed ≡ 0
    → map means picked ≡ told → told ≡ settled_parts book → 0 < length picked → (book.active ≢ [] → AreSealable book.active) → AreSealable (map means picked)
picked_sealable means picked book told one is all some sealable =
    let active : map means picked ≡ book.active = is ∙ all ∙ one_block book one in
    subst AreSealable (sym active) (sealable (some_picked means picked book.active active some))
