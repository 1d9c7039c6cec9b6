-- What a pin makes of a seat.
use Rattle.std.specs.Prelude.{ℕ}
use Rattle.fd_rule.specs.Kinds.MarkLoad.{with_mark}
use Rattle.fd_rule.specs.Kinds.PinArrival.{with_arrival}
use Rattle.fd_rule.specs.Kinds.PinSettlement.{with_pin}
use Rattle.fd_rule.specs.View.{View}

-- The seat has arrived, has loaded w as the mark, and has settled at it.
abbrev pub with_pinned : ℕ → View → View
with_pinned w v = with_pin w (with_mark w (with_arrival v))
