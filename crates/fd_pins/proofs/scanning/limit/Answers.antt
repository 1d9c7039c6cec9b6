use Rattle.std.proofs.Common.{rules, ap, ◌∙◌}
use Rattle.fd_rule.specs.Tables.{Seated}
use Rattle.fd_pins.proofs.ScanSteps.{scan_more}
use Rattle.fd_pins.proofs.scanning.limit.Goals as goal

pub loop-at-preserved : goal.loop-at-preserved
loop-at-preserved g c = let i = c.loop-at.invariant in let me = c.scan_pin.ensures.me in (
  scan_more c.loop-at.at c.scan_pin.result c.loop-at.l c.min-l.result c.args.seat.now.inner.me.0 c.loop-at.seat.inner.me c.scan_pin.new.seat.inner.me i.0 me (search rules),
  ap (λ (m : Seated g.row.P.Denot). m.1) me ∙ i.1,
  (search rules, search rules),
)
