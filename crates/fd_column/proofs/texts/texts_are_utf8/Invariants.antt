use Rattle.std.proofs.Common.{take}
use Rattle.std.specs.Prelude.{All, IsUtf8}
use Rattle.fd_column.proofs.texts.texts_are_utf8.Given as goal

abbrev pub invariant-loop-text : goal.invariant-loop-text
invariant-loop-text l = All IsUtf8 (take l.text-index l.texts)
