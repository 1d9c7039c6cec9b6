use Rattle.std.proofs.Common.{◌≡◌, ◌≤◌}
use Rattle.fd_pool.specs.Finishes.{absent_of}
use Rattle.fd_pool.specs.Pools.{views_of}
use Rattle.fd_pool.proofs.endings.absent.Given as goal

abbrev pub invariant-loop-at : goal.invariant-loop-at
invariant-loop-at l = (l.absent ≤ l.at) × (l.absent ≡ absent_of l.at (views_of l.fn.passes))
