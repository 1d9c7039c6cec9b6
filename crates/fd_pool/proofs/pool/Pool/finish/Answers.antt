use Rattle.std.proofs.Common.{arith, ◌≡◌, refl, ap, ◌∙◌}
use Rattle.fd_rule.specs.Seats.{base_seats, base_shelf, pass_view}
use Rattle.fd_pool.specs.Finishes.{absent_of}
use Rattle.fd_pool.specs.Pools.{views_of}
use Rattle.fd_pool.proofs.Gathered.{all_seated, finished, kept_absent, some_left}
use Rattle.fd_pool.proofs.pool.Pool.finish.Goals as goal

-- src/endings.rt:172:29
pub end-requires-clause-seats : goal.end-requires-clause-seats
end-requires-clause-seats g c κs within = let seats = base_seats c.args.self.base in let vs = views_of c.args.passes in let ws = views_of c.ready_all-ready.result.0 in let all = c.in-Some.all in
    let a : c.absent-absent.result ≡ absent_of c.count.result vs = c.absent-absent.ensures ∙ ap (λ ps. absent_of c.count.result (views_of ps)) c.as_slice.ensures in let n = c.count.ensures.count in let low = c.if-absent-gt0.false in
    let same : absent_of c.count.result vs ≡ absent_of seats vs = ap (λ k. absent_of k vs) n in
    let none : absent_of seats vs ≡ 0 = omega (arith, a, low, same) in
    all_seated seats ws (pass_view all) all.here (kept_absent seats vs ws c.ready_all-ready.ensures.kept ∙ none) c.in-Some.ensures.0

-- src/endings.rt:173:21
pub unreachable-requires : goal.unreachable-requires
unreachable-requires g c = let seats = base_seats c.args.self.base in let vs = views_of c.args.passes in let passes = c.ready_all-ready.result.0 in
    let a : c.absent-absent.result ≡ absent_of c.count.result vs = c.absent-absent.ensures ∙ ap (λ ps. absent_of c.count.result (views_of ps)) c.as_slice.ensures in let n = c.count.ensures.count in let low = c.if-absent-gt0.false in let some = c.count.ensures.some in
    let same : absent_of c.count.result vs ≡ absent_of seats vs = ap (λ k. absent_of k vs) n in
    let none : absent_of seats vs ≡ 0 = omega (arith, a, low, same) in
    some_left seats vs (views_of passes) passes refl c.in-None.ensures c.ready_all-ready.ensures.kept none (omega (arith, some, n))

-- src/endings.rt:147:5
pub returns-clause-ok : goal.returns-clause-ok
returns-clause-ok g c = finished (base_shelf c.args.self.base) (views_of c.args.passes) (views_of c.ready_all-ready.result.0) (pass_view c.in-Some.all) c.end.result c.ready_all-ready.ensures.kept c.in-Some.ensures.0 c.end.ensures
