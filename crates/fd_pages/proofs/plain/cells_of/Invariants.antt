use Rattle.std.proofs.Common.{◌≡◌, drop}
use Rattle.fd_pages.specs.Reader.{cells_at, with_front}
use Rattle.fd_pages.proofs.plain.cells_of.Given as goal

abbrev pub invariant-loop-level : goal.invariant-loop-level
invariant-loop-level l = with_front l.cells (cells_at l.kind (drop l.level-index l.levels) l.rest) ≡ cells_at l.kind l.levels l.bytes
