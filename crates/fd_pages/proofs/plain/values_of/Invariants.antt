use Rattle.std.proofs.Common.{◌≡◌, ◌-◌, replicate}
use Rattle.fd_pages.specs.Reader.{cells_at, with_front}
use Rattle.fd_pages.proofs.plain.values_of.Given as goal

abbrev pub invariant-loop : goal.invariant-loop
invariant-loop l = with_front l.cells (cells_at l.kind (replicate (l.count - l.counter) 1) l.rest) ≡ cells_at l.kind (replicate l.count 1) l.bytes
