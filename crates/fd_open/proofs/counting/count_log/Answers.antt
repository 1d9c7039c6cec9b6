use Rattle.std.proofs.Common.{arith, length, ap}
use Rattle.fd_open.proofs.LogLimits.{found_fits, found_some}
use Rattle.fd_open.proofs.counting.count_log.Goals as goal

pub returns-clause-below : goal.returns-clause-below
returns-clause-below c =
    let fits = found_fits c.args.found.now.numbers c.args.log.now c.requires.log c.requires.below in
    let below = fits.below in
    let same = ap length c.as_slice-batches.ensures in
    omega (arith, below, same)

pub returns-clause-goes_on : goal.returns-clause-goes_on
returns-clause-goes_on c = λ rotated.
    let some = found_some c.args.found.now.numbers c.args.log.now c.requires.log rotated in
    let same = ap length c.as_slice-batches.ensures in
    omega (arith, some, same)
