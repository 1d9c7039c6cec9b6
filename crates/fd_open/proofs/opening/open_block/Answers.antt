use Rattle.fd_open.proofs.Calls.{quiet_then}
use Rattle.fd_open.proofs.Walking.{durable_here, adds_here, told_here, shelves_alone}
use Rattle.fd_open.proofs.opening.open_block.Goals as goal

pub returns-in-Err-clause-quiet : goal.returns-in-Err-clause-quiet
returns-in-Err-clause-quiet g c =
    let d = g.D.Disk in
    quiet_then d.honest d.seen d.may_leave d.moment d.left_since c.args.disk.now c.sync_block.new.disk c.read_block.new.disk c.in_ok-sync_block.ensures.quiet c.in-Err.ensures.quiet

pub returns-in_err-tail-clause-quiet : goal.returns-in_err-tail-clause-quiet
returns-in_err-tail-clause-quiet g c =
    let d = g.D.Disk in
    quiet_then d.honest d.seen d.may_leave d.moment d.left_since c.args.disk.now c.sync_block.new.disk c.read_block.new.disk c.in_ok-sync_block.ensures.quiet c.in-Ok.ensures.quiet

pub returns-clause-quiet : goal.returns-clause-quiet
returns-clause-quiet g c =
    let d = g.D.Disk in
    quiet_then d.honest d.seen d.may_leave d.moment d.left_since c.args.disk.now c.sync_block.new.disk c.read_block.new.disk c.in_ok-sync_block.ensures.quiet c.in-Ok.ensures.quiet

pub returns-clause-durable : goal.returns-clause-durable
returns-clause-durable g c = λ h.
    let d = g.D.Disk in
    let one = c.in_ok-sync_block.ensures in
    durable_here d.honest d.seen d.may_leave d.moment d.left_since c.args.disk.now c.sync_block.new.disk one.quiet c.args.shelf.now c.active-block.result c.next_number-first.result c.active-block.ensures c.read_block.new.disk c.in-Ok.ensures.quiet h (one.durable h)

pub returns-clause-adds : goal.returns-clause-adds
returns-clause-adds g c = λ h.
    let d = g.D.Disk in
    let read = c.in-Ok.ensures in
    let added = c.in_ok-tail.ensures in
    adds_here d.honest d.seen d.may_leave d.moment d.left_since c.args.disk.now c.sync_block.new.disk c.in_ok-sync_block.ensures.quiet c.args.shelf.now c.active-block.result c.next_number-first.result c.active-block.ensures c.next_number-first.ensures.value
    c.add_block.new.shelf c.in-Ok.found c.in_ok-tail.tail h read.unsealed read.found added.shelves added.tail

pub returns-clause-alone : goal.returns-clause-alone
returns-clause-alone g c = shelves_alone _ _ c.args.shelf.now c.add_block.new.shelf c.in_ok-tail.ensures.shelves c.requires.alone

pub returns-in-Err-clause-damaged : goal.returns-in-Err-clause-damaged
returns-in-Err-clause-damaged g c = λ h.
    let d = g.D.Disk in
    told_here d.honest d.seen d.may_leave d.moment d.left_since c.args.disk.now c.sync_block.new.disk c.in_ok-sync_block.ensures.quiet c.args.shelf.now c.active-block.result c.next_number-first.result c.active-block.ensures c.next_number-first.ensures.value
    c.in-Err.cause h c.in-Err.ensures.damaged
