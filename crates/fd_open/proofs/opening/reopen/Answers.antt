use Rattle.std.proofs.Common.{◌+◌, length, sym, subst}
use Rattle.fd_device.specs.Disks.{Settled}
use Rattle.fd_device.specs.Moments.{LeavesOnly}
use Rattle.fd_keeper.specs.Blocks.{RecoversTo}
use Rattle.fd_open.proofs.Damage.{names_damage, names_none}
use Rattle.fd_open.proofs.Openings.{at_rest, is_opened, settled_from}
use Rattle.fd_open.proofs.Calls.{quiet_settled}
use Rattle.fd_open.proofs.opening.reopen.Goals as goal

pub resume-keeper-requires-clause-rests : goal.resume-keeper-requires-clause-rests
resume-keeper-requires-clause-rests g c = λ h_new.
    let d = g.D.Disk in
    let done = c.in-Ok.ensures in
    at_rest d.seen d.may_leave c.args.disk c.open_in_place.new.disk c.open_in_place.new.shelf c.in-Ok.gate c.active-block.result c.last_number-synced.result
    (done.opens (done.honesty.1 h_new)) c.active-block.ensures c.last_number-synced.ensures.value

pub returns-in-Ok-clause-opened : goal.returns-in-Ok-clause-opened
returns-in-Ok-clause-opened g c = λ h.
    let d = g.D.Disk in
    let done = c.in-Ok.ensures in
    let kept = c.resume-keeper.ensures in
    is_opened d.seen d.may_leave c.args.disk c.open_in_place.new.disk c.open_in_place.new.shelf c.in-Ok.gate c.active-block.result c.last_number-synced.result
    (done.opens h) c.active-block.ensures c.last_number-synced.ensures.value c.is_in_order.ensures.well_formed.used c.resume-keeper.result kept.disk kept.block kept.gate kept.synced kept.healthy

pub returns-in-Ok-clause-damaged_only : goal.returns-in-Ok-clause-damaged_only
returns-in-Ok-clause-damaged_only g c = λ h file at is.
    let opens = c.in-Ok.ensures.opens h in
    c.recovery_or_damage.ensures (g.D.Disk.seen c.args.disk) opens.closed opens.active file at opens.recovers is

pub returns-in-Err-clause-damaged_only : goal.returns-in-Err-clause-damaged_only
returns-in-Err-clause-damaged_only g c = λ h file at is.
    names_damage c.one_damaged_place.ensures.file c.one_damaged_place.ensures.place (g.D.Disk.seen c.args.disk) file at c.in-Err.cause (c.in-Err.ensures.damaged h) is

pub returns-in-Err-clause-opened_only : goal.returns-in-Err-clause-opened_only
returns-in-Err-clause-opened_only g c = λ h closed active is.
    names_none c.recovery_or_damage.ensures (g.D.Disk.seen c.args.disk) closed active c.in-Err.cause (c.in-Err.ensures.damaged h) is

pub returns-in-Ok-clause-still_settled : goal.returns-in-Ok-clause-still_settled
returns-in-Ok-clause-still_settled g c = λ h settled.
    let d = g.D.Disk in
    let done = c.in-Ok.ensures in
    subst (λ (disk : _). Settled (d.seen disk) (d.may_leave disk)) (sym c.resume-keeper.ensures.disk)
    (done.settled h (settled_from (d.seen c.args.disk) (d.may_leave c.args.disk) (length c.open_in_place.new.shelf.book.closed + 1) settled))

pub returns-in-Err-clause-still_settled : goal.returns-in-Err-clause-still_settled
returns-in-Err-clause-still_settled g c = λ h settled other.
    let d = g.D.Disk in
    quiet_settled d.honest d.seen d.may_leave d.moment d.left_since c.args.disk c.open_in_place.new.disk (c.in-Err.ensures.unwritten other) h settled

pub returns-in-Ok-clause-any_moment : goal.returns-in-Ok-clause-any_moment
returns-in-Ok-clause-any_moment g c = λ h settled history is.
    let d = g.D.Disk in
    subst (λ (disk : _). LeavesOnly d.moment d.left_since c.args.disk disk (RecoversTo history)) (sym c.resume-keeper.ensures.disk)
    (c.in-Ok.ensures.any_moment h settled history is)
