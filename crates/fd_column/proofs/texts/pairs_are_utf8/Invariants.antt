use Rattle.std.proofs.Common.{take}
use Rattle.std.specs.Prelude.{All}
use Rattle.fd_column.specs.Texts.{IsTextPair}
use Rattle.fd_column.proofs.texts.pairs_are_utf8.Given as goal

abbrev pub invariant-loop-pair : goal.invariant-loop-pair
invariant-loop-pair l = All IsTextPair (take l.pair-index l.pairs)
