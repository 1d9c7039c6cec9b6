use Rattle.std.proofs.Common.{rules, sym, ap, ◌∙◌, subst, ◌+◌, ◌∷◌, ◌≢◌, arith}
use Rattle.atomic_table.specs.Table.{rest}
use Rattle.fd_shelf.specs.Books.{Book, Each, all_parts}
use Rattle.fd_shelf.specs.Numbers.{IsIn}
use Rattle.fd_rule.specs.Kinds.LaneClearance.{with_cleared}
use Rattle.fd_rule.specs.Tables.{Seated}
use Rattle.fd_rule.specs.declared.slot.SlotValue.TheVariants.{Empty}
use Rattle.fd_pool.proofs.SweptLanes.{held_first, same_part, sweep_none, sweep_some}
use Rattle.fd_pool.proofs.sweeps.gather_one.Goals as goal

pub returns-then-load_lane-eq0-clause-so_far : goal.returns-then-load_lane-eq0-clause-so_far
returns-then-load_lane-eq0-clause-so_far g c = sweep_none g.P.Held.means _ c.args.seat.now.inner.me _ c.args.shelf.now c.args.lane c.requires.so_far (c.load_lane.ensures.loaded.empty c.requires.so_far.holds (search rules))

pub lane_part-part-requires-clause-filled : goal.lane_part-part-requires-clause-filled
lane_part-part-requires-clause-filled g c lives longer = let t = c.load_lane.ensures.loaded.filled c.requires.so_far.holds (search rules) in (t.0, held_first (ap (λ (m : Seated g.row.P.Denot). m.1) t.3))

pub admit-requires-clause-free : goal.admit-requires-clause-free
admit-requires-clause-free g c lives longer = let t = c.load_lane.ensures.loaded.filled c.requires.so_far.holds (search rules) in let me = ap (λ (m : Seated g.row.P.Denot). m.1) t.3 in let same = same_part t.0 c.lane_part-part.result _ _ _ _ _ me c.lane_part-part.ensures.part in
    let is = ap (λ p. (g.P.Held.means p).lo) (sym same) ∙ ap (λ m. m.lo) t.2.part in
    subst (λ z. Each (λ q. q.lo ≢ z) c.args.shelf.now.book.stragglers) (sym is)
    (c.straggler_laws.ensures.free c.args.shelf.now.book c.args.shelf.now.mark c.load_lane.result c.is_in_order.ensures.book (λ h. t.2.outside (subst (λ (b : Book). IsIn c.load_lane.result (all_parts b)) (sym c.requires.so_far.book) h)))

pub returns-clause-so_far : goal.returns-clause-so_far
returns-clause-so_far g c = let t = c.load_lane.ensures.loaded.filled c.requires.so_far.holds (search rules) in let me = ap (λ (m : Seated g.row.P.Denot). m.1) t.3 in let same = same_part t.0 c.lane_part-part.result _ _ _ _ _ me c.lane_part-part.ensures.part in
    let took = c.lane_part-part.ensures.me ∙ ap (λ (m : Seated g.row.P.Denot). (m.0, (1 + c.args.lane, Empty) ∷ rest m.1)) t.3 in
    let v = c.args.seat.now.inner.me.0 in let above = t.2.above in let number = t.2.number in
    sweep_some g.P.Held.means _ c.args.seat.now.inner.me c.clear_lane.new.seat.inner.me c.args.shelf.now c.admit.new.self c.args.lane c.load_lane.result t.1 t.0 (g.P.Held.means c.lane_part-part.result) c.requires.so_far t.2 (ap g.P.Held.means (sym same)) (search rules) c.admit.ensures.admitted
    (c.straggler_laws.ensures.history v.turn.book v.turn.mark t.1.number t.1.rows (omega (arith, above, number)))
    (c.clear_lane.ensures.me t.1 (ap (λ (m : Seated g.row.P.Denot). m.0.turn.hand) took) ∙ ap (λ (m : Seated g.row.P.Denot). (with_cleared c.args.lane t.1 m.0, rest m.1)) took)
