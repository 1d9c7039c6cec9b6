use Rattle.std.proofs.Common.{rules, sym, ap, ◌∙◌, subst, ◌+◌, ◌∷◌, ◌≢◌}
use Rattle.atomic_table.specs.Table.{rest}
use Rattle.fd_shelf.specs.Books.{Book, Each, all_parts}
use Rattle.fd_shelf.specs.Numbers.{IsIn}
use Rattle.fd_rule.specs.Kinds.LaneClearance.{with_cleared}
use Rattle.fd_rule.specs.Tables.{Seated}
use Rattle.fd_rule.specs.declared.slot.SlotValue.TheVariants.{Empty}
use Rattle.stubs.specs.declared.stub.Stub.{Stub}
use Rattle.stubs.specs.Stubs.{stub_meaning}
use Rattle.test_table.proofs.SeatSteps.{found_none, found_some, held_first, same_part}
use Rattle.test_table.proofs.sweeps.gather_one.Goals as goal

pub returns-then-load_lane-eq0-clause-hand : goal.returns-then-load_lane-eq0-clause-hand
returns-then-load_lane-eq0-clause-hand c = found_none stub_meaning c.args.lane c.args.shelf.now c.args.seat.now.inner.me _ c.requires.hand (c.load_lane.ensures.loaded.empty c.requires.hand.holds (search rules))

pub lane_part-part-requires-clause-filled : goal.lane_part-part-requires-clause-filled
lane_part-part-requires-clause-filled c lives = let t = c.load_lane.ensures.loaded.filled c.requires.hand.holds (search rules) in (t.0, held_first (ap (λ (m : Seated Stub). m.1) t.3))

pub admit-requires-clause-free : goal.admit-requires-clause-free
admit-requires-clause-free c lives = let t = c.load_lane.ensures.loaded.filled c.requires.hand.holds (search rules) in let me = ap (λ (m : Seated Stub). m.1) t.3 in let same = same_part t.0 c.lane_part-part.result _ _ _ _ _ me c.lane_part-part.ensures.part in
    let is = ap (λ p. (stub_meaning p).lo) (sym same) ∙ ap (λ m. m.lo) t.2.part in
    subst (λ z. Each (λ q. q.lo ≢ z) c.args.shelf.now.book.stragglers) (sym is)
    (c.straggler_laws.ensures.free c.args.shelf.now.book c.args.shelf.now.mark c.load_lane.result c.is_in_order.ensures.book (λ h. t.2.outside (subst (λ (b : Book). IsIn c.load_lane.result (all_parts b)) (sym c.requires.hand.book) h)))

pub returns-clause-hand : goal.returns-clause-hand
returns-clause-hand c = let t = c.load_lane.ensures.loaded.filled c.requires.hand.holds (search rules) in let me = ap (λ (m : Seated Stub). m.1) t.3 in let same = same_part t.0 c.lane_part-part.result _ _ _ _ _ me c.lane_part-part.ensures.part in
    let took = c.lane_part-part.ensures.me ∙ ap (λ (m : Seated Stub). (m.0, (1 + c.args.lane, Empty) ∷ rest m.1)) t.3 in
    found_some stub_meaning c.args.lane c.load_lane.result t.1 t.0 (stub_meaning c.lane_part-part.result) c.args.shelf.now c.admit.new.self c.args.seat.now.inner.me c.clear_lane.new.seat.inner.me c.requires.hand t.2 (ap stub_meaning (sym same)) c.admit.ensures.admitted
    (c.clear_lane.ensures.me t.1 (ap (λ (m : Seated Stub). m.0.turn.hand) took) ∙ ap (λ (m : Seated Stub). (with_cleared c.args.lane t.1 m.0, rest m.1)) took)

pub returns-clause-place : goal.returns-clause-place
returns-clause-place c = let t = c.load_lane.ensures.loaded.filled c.requires.hand.holds (search rules) in
    let took = c.lane_part-part.ensures.me ∙ ap (λ (m : Seated Stub). (m.0, (1 + c.args.lane, Empty) ∷ rest m.1)) t.3 in
    ap (λ (m : Seated Stub). m.0.place) (c.clear_lane.ensures.me t.1 (ap (λ (m : Seated Stub). m.0.turn.hand) took) ∙ ap (λ (m : Seated Stub). (with_cleared c.args.lane t.1 m.0, rest m.1)) took)
