use Rattle.std.proofs.Common.{rules, arith, get_or, get_or-set_other, sym, ap, subst, ◌∙◌, ◌≡◌, ℕ, ◌<◌, false, true}
use mathlib.Core.Option.{some-injective}
use Rattle.fd_shelf.specs.Books.{Shelved}
use Rattle.fd_rule.specs.View.{View}
use Rattle.fd_rule.specs.Passes.{view_of}
use Rattle.fd_rule.specs.Slots.{IsHome}
use Rattle.fd_rule.specs.Closing.{IsClosed}
use Rattle.fd_rule.specs.Rule.{seated}
use Rattle.fd_rule.specs.declared.slot.SlotValue.{SlotValue}
use Rattle.fd_rule.specs.declared.slot.SlotValue.TheVariants.{Home}
use Rattle.fd_rule.proofs.Closes.{closes}
use Rattle.fd_rule.proofs.base.Base.close.Goals as goal

pub home_shelf-requires : goal.home_shelf-requires
home_shelf-requires g c = let v : View = view_of c.args.all.badge.views in let e : v ≡ c.into_seat.result.me.0 = ap view_of c.into_seat.ensures.2 in
    let known = subst (λ (w : View). (w.place.spent ≡ false) × (w.turn.holds ≡ false) × (w.draws.flight ≡ 0) × (w.draws.empty ≡ true) × ((k : ℕ) → k < c.args.self.board.shared.key.seats → 0 < seated k w)) e (c.args.all.here, c.requires.turn, c.requires.flight, c.requires.empty, (λ k h. c.requires.seats k (let count = c.args.self.counted in omega (arith, h, count)))) in
    let t = closes _ _ _ _ _ _ _ _ known.0 known.1 known.2 known.3 known.4 c.close_with-closed.ensures.values.2 in
    (search rules, subst (λ (x : SlotValue g.row.P.Denot). IsHome x) (some-injective (Home t.0) c.take-first.result (sym t.1 ∙ c.take-first.ensures.value)) tt)

pub returns : goal.returns
returns g c = let v : View = view_of c.args.all.badge.views in let e : v ≡ c.into_seat.result.me.0 = ap view_of c.into_seat.ensures.2 in
    let known = subst (λ (w : View). (w.place.spent ≡ false) × (w.turn.holds ≡ false) × (w.draws.flight ≡ 0) × (w.draws.empty ≡ true) × ((k : ℕ) → k < c.args.self.board.shared.key.seats → 0 < seated k w)) e (c.args.all.here, c.requires.turn, c.requires.flight, c.requires.empty, (λ k h. c.requires.seats k (let count = c.args.self.counted in omega (arith, h, count)))) in
    let t = closes _ _ _ _ _ _ _ _ known.0 known.1 known.2 known.3 known.4 c.close_with-closed.ensures.values.2 in
    let is : Home t.0 ≡ Home c.home_shelf.result = some-injective (Home t.0) c.take-first.result (sym t.1 ∙ c.take-first.ensures.value) ∙ c.home_shelf.ensures in
    let same : t.0 ≡ c.home_shelf.result = cc in
    subst (λ (z : Shelved × View). IsClosed c.args.self.board.shared.key.shelf.value z.1 z.0) (λ i. (same i, sym e i)) t.2

pub dispose-requires-clause-filled : goal.dispose-requires-clause-filled
dispose-requires-clause-filled g c lives longer k a b = let full = c.close_with-closed.ensures.values.1 in let len = c.take-first.ensures.others.2 in
    ap (λ l. get_or l k false) c.take-first.ensures.others.1 ∙ (get_or-set_other _ 0 k false false (λ e. omega arith) ∙ full k (omega arith) (omega (arith, b, len)))
