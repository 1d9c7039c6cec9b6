use Rattle.std.proofs.Common.{rules, ◌≡◌, ◌-◌, ◌<◌, ◌+◌, [], arith, ◌∙◌}
use Rattle.fd_http.specs.declared.limits.TheConstants.{MOST_REQUESTS}
use Rattle.fd_api.proofs.RunLaws.{session}
use Rattle.fd_api.proofs.SessionSteps.{none_yet, turn_ends, turn_goes_on, limit_ends, last_of, not_faulted}
use Rattle.fd_api.proofs.sessions.session.Goals as goal

pub loop-served-init : goal.loop-served-init
loop-served-init g c =
    let none : c.new-notes.result.items ≡ [] = c.new-notes.ensures in
    let empty : c.in-Ok.inbox ≡ [] = c.in-Ok.ensures.empty in
    record {
      so_far = rw empty (none_yet g.T.Store.write_gives g.T.Store.read_gives g.T.Store.stand_gives _ _ _ none);
      source = search rules;
      sink = search rules;
      disk = search rules;
      healthy = c.requires;
    }

pub returns-in-Some-clause-ends : goal.returns-in-Some-clause-ends
returns-in-Some-clause-ends g c =
    let below : c.loop-served.served < MOST_REQUESTS = c.loop-served-test.true in
    let some : 0 < MOST_REQUESTS - c.loop-served.served = omega arith in
    rw c.of-in-Some.ensures
    (turn_ends g.T.Store.write_gives g.T.Store.read_gives g.T.Store.stand_gives _ _ _ _ _ c.loop-served.invariant.so_far some c.loop-served.invariant.sink _ c.in-Some.end (last_of c.loop-served.served below) c.in-Some.ensures.turned).0

pub returns-in-Some-clause-sink : goal.returns-in-Some-clause-sink
returns-in-Some-clause-sink g c =
    let below : c.loop-served.served < MOST_REQUESTS = c.loop-served-test.true in
    let some : 0 < MOST_REQUESTS - c.loop-served.served = omega arith in
    (turn_ends g.T.Store.write_gives g.T.Store.read_gives g.T.Store.stand_gives _ _ _ _ _ c.loop-served.invariant.so_far some c.loop-served.invariant.sink _ c.in-Some.end (last_of c.loop-served.served below) c.in-Some.ensures.turned).1

pub loop-served-preserved : goal.loop-served-preserved
loop-served-preserved g c =
    let below : c.loop-served.served < MOST_REQUESTS = c.loop-served-test.true in
    let some : 0 < MOST_REQUESTS - c.loop-served.served = omega arith in
    let on = turn_goes_on g.T.Store.write_gives g.T.Store.read_gives g.T.Store.stand_gives _ _ _ _ _ c.loop-served.invariant.so_far some c.loop-served.invariant.sink _ (last_of c.loop-served.served below) c.in_default.ensures.turned in
    let fewer : MOST_REQUESTS - c.loop-served.served - 1 ≡ MOST_REQUESTS - (c.loop-served.served + 1) = omega arith in
    record {
      so_far = rw (← fewer) on.0;
      source = c.in_default.ensures.source ∙ c.loop-served.invariant.source;
      sink = on.1;
      disk = c.in_default.ensures.disk ∙ c.loop-served.invariant.disk;
      healthy = c.in_default.ensures.healthy not_faulted;
    }

pub returns-clause-ends : goal.returns-clause-ends
returns-clause-ends g c =
    let none : MOST_REQUESTS - c.loop-served.served ≡ 0 = omega arith in
    let so_far = rw none at c.loop-served.invariant.so_far in
    rw c.of-2.ensures (limit_ends g.T.Store.write_gives g.T.Store.read_gives g.T.Store.stand_gives _ _ _ so_far)

pub returns-in-Some-clause-law : goal.returns-in-Some-clause-law
returns-in-Some-clause-law g c =
    session g.T.Store.write_gives g.T.Store.read_gives g.T.Store.stand_gives g.T.Store.sees g.T.Store.write_law g.T.Store.read_law g.T.Store.stand_law
    _ _ _ _ _ _ (returns-in-Some-clause-ends g c)

pub returns-clause-law : goal.returns-clause-law
returns-clause-law g c =
    session g.T.Store.write_gives g.T.Store.read_gives g.T.Store.stand_gives g.T.Store.sees g.T.Store.write_law g.T.Store.read_law g.T.Store.stand_law
    _ _ _ _ _ _ (returns-clause-ends g c)
