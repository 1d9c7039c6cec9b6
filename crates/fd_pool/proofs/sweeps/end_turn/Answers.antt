use Rattle.std.proofs.Common.{rules, sym, ap, ◌∙◌, subst, ℕ, ◌+◌, ◌<◌, ◌≤◌, true, arith, ◌≡◌}
use Rattle.atomic_table.specs.Table.{rest}
use Rattle.fd_kinds.specs.Stores.{Holds}
use Rattle.fd_shelf.specs.Books.{Book, all_parts}
use Rattle.fd_shelf.specs.Histories.{hist}
use Rattle.fd_shelf.specs.Numbers.{IsIn}
use Rattle.fd_rule.specs.Kinds.MarkRaise.{MayRaise, with_raised}
use Rattle.fd_rule.specs.Kinds.TurnReturn.{MayReturn, with_given}
use Rattle.fd_rule.specs.Lists.{AllAsDrawn, AllHeld}
use Rattle.fd_rule.specs.Tables.{Seated}
use Rattle.fd_rule.specs.View.{View}
use Rattle.fd_pool.specs.Kept.{HasDrawn, in_order}
use Rattle.fd_pool.proofs.DrawnRows.{drawn_held}
use Rattle.fd_pool.proofs.SweptLanes.{may_raise, may_return, sweep_hand}
use Rattle.fd_pool.proofs.sweeps.end_turn.Goals as goal

pub raise_mark-requires-clause-may : goal.raise_mark-requires-clause-may
raise_mark-requires-clause-may g c lives longer = let new = c.advance-mark.new.self in let hand = sweep_hand g.P.Held.means _ _ _ c.args.shelf _ c.requires.so_far in
    subst (λ (n : ℕ). MayRaise n c.args.seat.now.inner.me.0.turn) (sym c.advance-mark.ensures.mark)
    (may_raise g.P.Held.means 0 c.args.shelf new c.args.seat.now.inner.me hand c.advance-mark.ensures.kept c.advance-mark.ensures.rises (λ n a b. c.book_laws.ensures.held new.book new.mark n c.is_in_order.ensures.book a b))

pub give_turn-requires-clause-may : goal.give_turn-requires-clause-may
give_turn-requires-clause-may g c lives longer = let new = c.advance-mark.new.self in let hand = sweep_hand g.P.Held.means _ _ _ c.args.shelf _ c.requires.so_far in
    subst (λ (m : Seated g.row.P.Denot). MayReturn new m.0) (sym (c.raise_mark.ensures.me ∙ ap (λ n. (with_raised n c.args.seat.now.inner.me.0, c.args.seat.now.inner.me.1)) c.advance-mark.ensures.mark))
    (may_return g.P.Held.means 0 c.args.shelf new c.args.seat.now.inner.me hand c.advance-mark.ensures.kept c.advance-mark.ensures.history c.advance-mark.ensures.numbers)

pub returns-clause-whole : goal.returns-clause-whole
returns-clause-whole g c = let r = c.requires.so_far in let book = c.advance-mark.new.self.book in let up = c.raise_mark.ensures.me in let mark = c.advance-mark.result in let v : View = c.args.seat.now.inner.me.0 in
    let number : v.place.number ≡ c.args.seat.now.number = search rules in let inside : c.args.seat.now.number < c.args.seat.now.board.now.shared.key.seats = search rules in
    let empty : v.draws.empty ≡ true = r.lane (omega (arith, number, inside)) in (
      book,
      c.give_turn.ensures.me ∙ (ap (λ (m : Seated g.row.P.Denot). (with_given book m.0, rest m.1)) up ∙ ap (λ l. (with_given book (with_raised mark v), rest l)) r.slots),
      c.advance-mark.ensures.history mark ∙ ap (λ (b : Book). hist b mark) (sym r.book),
      record {
        lanes = r.looked;
        own = subst (λ (m : Seated g.row.P.Denot). m.0.draws.empty ≡ true → AllHeld m.0.draws.flight book m.0.draws.own) up c.give_turn.ensures.held empty;
        gap = λ h. c.book_laws.ensures.gap c.advance-mark.new.self c.is_in_order.ensures.book c.advance-mark.ensures.gap (subst (λ n. IsIn (n + 1) (all_parts book)) c.advance-mark.ensures.mark h);
      },
    )

pub returns-clause-drawn : goal.returns-clause-drawn
returns-clause-drawn g c before = let new = c.advance-mark.new.self in let book = new.book in let mark = c.advance-mark.result in let v : View = c.args.seat.now.inner.me.0 in let up = c.raise_mark.ensures.me in
    let seen : hist book mark ≡ hist v.turn.book mark = c.advance-mark.ensures.history mark ∙ ap (λ (b : Book). hist b mark) (sym c.requires.so_far.book) in
    let drawn : AllAsDrawn book v.draws.own = subst (λ (m : Seated g.row.P.Denot). AllAsDrawn book m.0.draws.own) up c.give_turn.ensures.drawn in
    subst (λ (m : Seated g.row.P.Denot). HasDrawn m.0) (sym (c.give_turn.ensures.me ∙ ap (λ (m : Seated g.row.P.Denot). (with_given book m.0, rest m.1)) up))
    (subst (λ h. Holds h (in_order v.draws.own)) seen
    (drawn_held book mark (c.book_laws.ensures.count book mark) (λ n a b. c.book_laws.ensures.held book new.mark n c.is_in_order.ensures.book a (subst (λ m. n ≤ m) c.advance-mark.ensures.mark b)) v.seen.history v.draws.own drawn before))
