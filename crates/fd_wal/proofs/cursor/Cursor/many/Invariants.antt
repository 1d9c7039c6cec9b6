use Rattle.std.proofs.Common.{◌≡◌, ◌-◌}
use Rattle.fd_wal.specs.Reading.{many_at, with_front}
use Rattle.fd_wal.proofs.cursor.Cursor.many.Given as goal

abbrev pub invariant-loop : goal.invariant-loop
invariant-loop g l = with_front l.items (many_at g.T.Spelled.read_at (l.count - l.counter) l.self) ≡ many_at g.T.Spelled.read_at l.count l.fn.self
