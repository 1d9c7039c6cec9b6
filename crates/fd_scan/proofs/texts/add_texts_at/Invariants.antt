use Rattle.std.proofs.Common.{◌≡◌, ℕ, List, ◌++◌, take}
use Rattle.fd_kinds.specs.Meaning.{distinct}
use Rattle.fd_lists.specs.Texts.{text_cmp}
use Rattle.fd_scan.specs.DistinctTexts.{SeesTexts, texts_at}
use Rattle.fd_scan.proofs.texts.add_texts_at.Given as goal

abbrev pub invariant-loop-at : goal.invariant-loop-at
invariant-loop-at l = (items : List (List ℕ)) → l.initial.found.keys ≡ distinct text_cmp items → SeesTexts l.cells l.found.keys l.seen.items (items ++ texts_at l.cells (take l.at-index l.places))
