use Rattle.fd_open.proofs.CountWalks.{counts_block}
use Rattle.fd_open.proofs.counting.count_block.Goals as goal

pub returns-clause-counts : goal.returns-clause-counts
returns-clause-counts g c = λ honest.
    let d = g.D.Disk in
    let read = c.in-Ok.ensures in
    let counted = c.in_ok-count_log.ensures in
    counts_block (d.seen c.args.disk.now) c.args.found.now c.count_log.new.found c.in-Ok.log (read.unsealed honest) (read.found honest) counted.numbers counted.rows
