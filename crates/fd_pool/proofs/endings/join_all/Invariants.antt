use Rattle.std.proofs.Common.{◌≡◌, List, [], ◌++◌, length}
use Rattle.fd_shelf.specs.Books.{Each}
use Rattle.fd_rule.specs.Seats.{base_seats, base_table}
use Rattle.fd_rule.specs.View.{View}
use Rattle.fd_pool.specs.Gathers.{Gathers, IsReady}
use Rattle.fd_pool.specs.Pools.{IsPassAt, views_of}
use Rattle.fd_pool.proofs.endings.join_all.Given as goal

abbrev pub invariant-loop-pass : goal.invariant-loop-pass
invariant-loop-pass g l =
    ((taken : List View) × (views_of l.fn.passes ≡ views_of l.passes ++ taken) × Gathers taken l.seat.inner.me.0)
    × Each (IsPassAt (base_table l.fn.base) (base_seats l.fn.base)) l.passes
    × Each IsReady (views_of l.passes)
    × (l.seat.inner.me.1 ≡ [])
    × (l.seat.inner.table_id ≡ base_table l.fn.base)

abbrev pub decreases-loop-pass : goal.decreases-loop-pass
decreases-loop-pass g l = length l.passes
