use Rattle.std.proofs.Common.{◌≤◌, ◌+◌, length}
use Rattle.std.specs.Prelude.{vec_len, vec_capacity}
use Rattle.fd_rule.specs.Seats.{base_seats, base_table}
use Rattle.fd_pool.proofs.Gathered.{Readying}
use Rattle.fd_pool.proofs.endings.ready_all.Given as goal

abbrev pub invariant-loop-pass : goal.invariant-loop-pass
invariant-loop-pass g l = Readying (base_table l.fn.base) (base_seats l.fn.base) l.fn.passes l.left l.done.items l.enough × (vec_len l.done + length l.left ≤ vec_capacity l.done)

abbrev pub decreases-loop-pass : goal.decreases-loop-pass
decreases-loop-pass g l = length l.left
