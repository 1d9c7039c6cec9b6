use Rattle.fd_open.proofs.Damage.{count_told, damage_told}
use Rattle.fd_open.proofs.counting.inspect.Goals as goal

pub returns-clause-counts_only : goal.returns-clause-counts_only
returns-clause-counts_only g c = λ honest closed active is.
    let files = g.D.Disk.seen c.args.disk.now in
    let told = c.count_blocks.ensures in
    count_told c.one_recovery.ensures.closed c.one_recovery.ensures.active c.recovery_or_damage.ensures files closed active c.count_blocks.result (told.counts honest) (told.damaged honest) is

pub returns-clause-damaged_only : goal.returns-clause-damaged_only
returns-clause-damaged_only g c = λ honest file at is.
    let files = g.D.Disk.seen c.args.disk.now in
    let told = c.count_blocks.ensures in
    damage_told c.one_damaged_place.ensures.file c.one_damaged_place.ensures.place c.recovery_or_damage.ensures files file at c.count_blocks.result (told.counts honest) (told.damaged honest) is
