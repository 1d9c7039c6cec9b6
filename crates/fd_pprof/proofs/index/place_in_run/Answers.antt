use Rattle.std.proofs.Common.{◌≡◌, ◌<◌, ◌≤◌, length, arith}
use Rattle.fd_pprof.proofs.IdRuns.{found_in_run, past_run, none_in_run}
use Rattle.fd_pprof.proofs.index.place_in_run.Goals as goal

pub returns-then-id-eq0 : goal.returns-then-id-eq0
returns-then-id-eq0 c = λ ids size run. none_in_run ids c.args.id run (omega arith)

pub returns-then-id-count : goal.returns-then-id-count
returns-then-id-count c = λ ids size run.
    let more : length ids < c.args.id = omega (arith, size) in
    past_run ids c.args.id run more

pub returns : goal.returns
returns c = λ ids size run.
    let some : 0 < c.args.id = omega arith in
    let within : c.args.id ≤ length ids = omega (arith, size) in
    found_in_run ids c.args.id run some within
