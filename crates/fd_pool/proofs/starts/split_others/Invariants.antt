use Rattle.std.proofs.Common.{◌≡◌, ◌<◌, ◌+◌}
use Rattle.std.specs.Prelude.{vec_len, vec_capacity}
use Rattle.fd_shelf.specs.Books.{Each}
use Rattle.fd_rule.specs.Seats.{IsSameSeat, seat_count, seat_table}
use Rattle.fd_pool.specs.Pools.{IsPassAt, views_of}
use Rattle.fd_pool.specs.Starts.{split_off, with_next}
use Rattle.fd_pool.proofs.starts.split_others.Given as goal

abbrev pub invariant-loop-at : goal.invariant-loop-at
invariant-loop-at g l =
    (l.seat.inner.me ≡ (with_next (l.fn.seat.inner.me.0.place.next + l.at) l.fn.seat.inner.me.0, l.fn.seat.inner.me.1))
    × (l.seat.inner.table_id ≡ l.fn.seat.inner.table_id)
    × IsSameSeat l.fn.seat l.seat
    × (views_of l.passes.items ≡ split_off l.fn.seat.inner.me.0 l.at)
    × Each (IsPassAt (seat_table l.fn.seat) (seat_count l.fn.seat)) l.passes.items
    × (vec_len l.passes ≡ l.at)
    × (l.fn.others < vec_capacity l.passes)
