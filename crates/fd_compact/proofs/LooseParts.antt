-- How many loose parts were picked, and how many are left.
use Rattle.std.specs.Prelude.{◌≡◌, ◌≢◌, ◌≤◌, ◌<◌, List, [], length, map, filter}
use Rattle.std.proofs.Common.{arith, ap, sym, ◌∙◌}
use Rattle.std.proofs.lemmas.List.{length-map}
use Rattle.fd_kinds.specs.Parts.{PartMeaning}
use Rattle.fd_shelf.specs.Books.{Shelved, IsSealed}
use Rattle.fd_shelf.specs.Steps.{lowest, highest, is_loose}
use Rattle.fd_shelf.specs.Replacement.{put_over, replaced}
use Rattle.fd_compact.specs.declared.compaction.Compaction.{Compaction}
use Rattle.fd_compact.specs.declared.compaction.Compaction.TheVariants.{Compacted, Nothing, Overtaken, Changed}
use Rattle.fd_compact.specs.Compactions.{Compacts, loose_parts}

-- two parts or more are some
pub two_are_some : {I : Type 0} (f : I → PartMeaning) (picked : List I) (parts : List PartMeaning) → map f picked ≡ parts → 1 < length picked → parts ≢ []
two_are_some f picked parts is two none =
    let counted : length picked ≡ 0 = sym (length-map picked f) ∙ ap length (is ∙ none) in omega (arith, counted, two)

-- after a compaction of sixteen parts or more, fewer are loose
pub fewer_left : (parts : List PartMeaning) (old : Shelved) (done : Compaction) (new : Shelved) → 16 ≤ length parts
    → (parts ≢ [] → (part : PartMeaning) → IsSealed part → part.lo ≡ lowest parts → part.hi ≡ highest parts → filter is_loose (put_over part old.book.active) ≡ [])
    → Compacts parts old done new → length (loose_parts new) < 16
fewer_left parts old (Compacted lo hi rows) new many none_left did =
    let over = did.put in
    let seal = over.seals in
    let some : parts ≢ [] = λ none. (let counted : length parts ≡ 0 = ap length none in omega (arith, counted, many)) in
    let none : loose_parts (replaced over.part old) ≡ [] = none_left some over.part seal.sealed seal.lo seal.hi in
    let counted : length (loose_parts new) ≡ 0 = ap (λ shelf. length (loose_parts shelf)) over.placed ∙ ap length none in
    omega (arith, counted)
fewer_left parts old (Nothing count) new many none_left did = absurd (omega (arith, many, did.0))
fewer_left parts old (Overtaken block) new many none_left did = absurd did
fewer_left parts old (Changed at) new many none_left did = absurd did
