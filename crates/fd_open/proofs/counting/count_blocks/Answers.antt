use Rattle.std.proofs.Common.{◌≡◌, ◌∙◌, Bool, true, subst}
use Rattle.fd_open.specs.Counting.{CountsBlock}
use Rattle.fd_open.proofs.CountWalks.{count_on}
use Rattle.fd_open.proofs.counting.count_blocks.Goals as goal

pub loop-found-preserved : goal.loop-found-preserved
loop-found-preserved g c =
    let d = g.D.Disk in
    let laws = c.recovery_laws.ensures in
    let one = c.in-Ok-true.ensures in
    let was = c.loop-found.invariant in
    let more : c.in-Ok-true.field-0 ≡ true = cc in
    record {
      walked =
          count_on d.honest d.seen d.may_leave d.moment d.left_since c.args.disk.now c.loop-found.disk c.count_block.new.disk c.loop-found.found c.count_block.new.found was.walked one.quiet one.blocks laws.further laws.history one.below
          (one.goes_on more)
          (λ h. subst (λ (b : Bool). CountsBlock (d.seen c.loop-found.disk) c.loop-found.found c.count_block.new.found b) more (one.counts h));
      faults = one.cause ∙ was.faults;
    }
