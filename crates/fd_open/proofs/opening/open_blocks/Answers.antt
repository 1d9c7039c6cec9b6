use Rattle.std.proofs.Common.{refl, subst, ◌∙◌}
use Rattle.std.specs.Prelude.{Option}
use Rattle.fd_open.specs.declared.tail.Tail.{Tail}
use Rattle.fd_open.specs.Shelving.{AddsBlock, GoesOn}
use Rattle.fd_open.proofs.Calls.{quiet_none}
use Rattle.fd_open.proofs.Walking.{walk_begins, walk_on, walk_ends, walk_damaged}
use Rattle.fd_open.proofs.opening.open_blocks.Goals as goal

pub loop-tail-init : goal.loop-tail-init
loop-tail-init g c =
    let d = g.D.Disk in
    record {
      walked =
          walk_begins d.honest d.seen d.may_leave d.moment d.left_since c.args.disk.now c.args.shelf.now
          (quiet_none d.honest d.seen d.may_leave d.moment d.left_since g.met.D.Disk.only_now c.args.disk.now)
          c.requires.empty c.requires.mark;
      faults = refl;
    }

pub loop-tail-preserved : goal.loop-tail-preserved
loop-tail-preserved g c =
    let d = g.D.Disk in
    let laws = c.recovery_laws.ensures in
    let none = c.in-Ok-None in
    let one = none.ensures in
    let was = c.loop-tail.invariant in
    let now = c.loop-tail.disk in
    let shelf = c.loop-tail.shelf in
    let after = c.open_block.new.shelf in
    record {
      walked =
          walk_on d.honest d.seen d.may_leave d.moment d.left_since c.args.disk.now now c.open_block.new.disk shelf after was.walked one.quiet one.durable laws.further laws.history
          (subst (λ (t : Option Tail). GoesOn shelf t after) none.field-0-is one.next).0 one.alone
          (λ h. subst (λ (t : Option Tail). AddsBlock (d.seen now) shelf after t) none.field-0-is (one.adds h));
      faults = one.cause ∙ was.faults;
    }

pub returns-in-Ok-Some-clause-read : goal.returns-in-Ok-Some-clause-read
returns-in-Ok-Some-clause-read g c =
    let d = g.D.Disk in
    let some = c.in-Ok-Some in
    let one = some.ensures in
    let now = c.loop-tail.disk in
    let shelf = c.loop-tail.shelf in
    let after = c.open_block.new.shelf in
    walk_ends d.honest d.seen d.may_leave d.moment d.left_since c.args.disk.now now c.open_block.new.disk shelf after c.loop-tail.invariant.walked one.quiet one.durable some.tail
    (λ h. subst (λ (t : Option Tail). AddsBlock (d.seen now) shelf after t) some.field-0-is (one.adds h))

pub returns-in-Err-clause-damaged : goal.returns-in-Err-clause-damaged
returns-in-Err-clause-damaged g c = λ h.
    let d = g.D.Disk in
    walk_damaged d.honest d.seen d.may_leave d.moment d.left_since c.args.disk.now c.loop-tail.disk c.loop-tail.shelf c.loop-tail.invariant.walked c.in-Err.cause c.in-Err.ensures.damaged h
