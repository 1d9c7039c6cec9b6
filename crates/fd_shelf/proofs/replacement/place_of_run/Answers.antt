use Rattle.std.proofs.Common.{arith, map, ◌≡◌}
use Rattle.fd_shelf.proofs.Runs.{loose_numbers, least_where_sealed, least_below, least_first, least_above, none_changed, run_at}
use Rattle.fd_shelf.proofs.replacement.place_of_run.Goals as goal

pub returns-in_default-clause-place : goal.returns-in_default-clause-place
returns-in_default-clause-place g c = least_where_sealed c.args.lo c.args.hi (map g.P.Held.means c.args.active.now) c.in_default.ensures c.requires.range

pub returns-then-first-lo-clause-place : goal.returns-then-first-lo-clause-place
returns-then-first-lo-clause-place g c =
    let loose = loose_numbers (map g.P.Held.means c.args.active.now) c.args.mark c.in-Some.at c.in-Some.first c.requires.order c.in-Some.ensures in
    least_below c.args.lo c.args.hi c.args.mark c.in-Some.at c.in-Some.first (map g.P.Held.means c.args.active.now) loose c.if-first-lo.true

pub returns-then-lo-first-clause-place : goal.returns-then-lo-first-clause-place
returns-then-lo-first-clause-place g c =
    let loose = loose_numbers (map g.P.Held.means c.args.active.now) c.args.mark c.in-Some.at c.in-Some.first c.requires.order c.in-Some.ensures in
    least_first c.args.lo c.args.hi c.args.mark c.in-Some.at c.in-Some.first (map g.P.Held.means c.args.active.now) loose c.requires.range c.if-lo-first.true

pub returns-then-mark-hi-clause-place : goal.returns-then-mark-hi-clause-place
returns-then-mark-hi-clause-place g c =
    let loose = loose_numbers (map g.P.Held.means c.args.active.now) c.args.mark c.in-Some.at c.in-Some.first c.requires.order c.in-Some.ensures in
    let same : c.args.lo ≡ c.in-Some.first = omega (arith, c.if-first-lo.false, c.if-lo-first.false) in
    least_above c.args.lo c.args.hi c.args.mark c.in-Some.at c.in-Some.first (map g.P.Held.means c.args.active.now) loose same c.if-mark-hi.true

pub returns-clause-place : goal.returns-clause-place
returns-clause-place g c =
    let loose = loose_numbers (map g.P.Held.means c.args.active.now) c.args.mark c.in-Some.at c.in-Some.first c.requires.order c.in-Some.ensures in
    let same : c.args.lo ≡ c.in-Some.first = omega (arith, c.if-first-lo.false, c.if-lo-first.false) in
    run_at c.args.lo c.args.hi c.args.mark c.in-Some.at c.in-Some.first (map g.P.Held.means c.args.active.now) loose c.requires.range same c.if-mark-hi.false

pub returns-clause-free : goal.returns-clause-free
returns-clause-free g c =
    let loose = loose_numbers (map g.P.Held.means c.args.active.now) c.args.mark c.in-Some.at c.in-Some.first c.requires.order c.in-Some.ensures in
    let same : c.args.lo ≡ c.in-Some.first = omega (arith, c.if-first-lo.false, c.if-lo-first.false) in
    none_changed c.args.lo c.args.hi c.args.mark c.in-Some.at c.in-Some.first (map g.P.Held.means c.args.active.now) loose same c.if-mark-hi.false
