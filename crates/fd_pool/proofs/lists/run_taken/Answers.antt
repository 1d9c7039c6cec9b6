use Rattle.std.proofs.Common.{arith, ℕ, ◌≡◌, ◌+◌, ◌<◌, ◌≤◌, sym, subst}
use Rattle.fd_shelf.specs.Marks.{IsBook}
use Rattle.fd_shelf.specs.Numbers.{first_unsealed}
use Rattle.fd_shelf.specs.Steps.{loose_upto}
use Rattle.fd_pool.proofs.LooseRuns.{picked_of, some_upto}
use Rattle.fd_pool.proofs.Replaced.{seen_rows}
use Rattle.fd_pool.proofs.lists.run_taken.Goals as goal

pub returns-clause-run : goal.returns-clause-run
returns-clause-run g c = let count = c.history_laws.ensures.count in let e = c.level0_laws.ensures in let book = c.args.shelf.book in let l = c.args.l in let mark : c.args.shelf.mark ≡ c.args.seat.now.inner.me.0.turn.mark = sym c.requires.hand.mark in
    let order : IsBook book c.args.seat.now.inner.me.0.turn.mark = subst (λ (m : ℕ). IsBook book m) mark c.is_in_order.ensures.book in record {
      order = order;
      range = λ has. let r = e.range has in let high = r.2 in (r.0, r.1, omega (arith, high, count));
      sealable = e.sealable;
      rows = λ has part lo hi same. let r = e.range has in
          seen_rows c.args.shelf.book c.args.shelf.mark part count (subst (λ (n : ℕ). 0 < n) (sym lo) r.0) (subst (λ (n : ℕ). n ≤ c.args.shelf.mark) (sym hi) r.2) (e.rows part lo hi same);
      count = λ under. (picked_of l c.args.seat.now.inner.me.0.turn.mark under book order).count;
      first = λ under some. let is = picked_of l c.args.seat.now.inner.me.0.turn.mark under book order in is.first (some_upto l c.args.seat.now.inner.me.0.turn.mark under (loose_upto book l) (first_unsealed (c.args.seat.now.inner.me.0.turn.mark + 1) book.active) is some);
      last = λ under some. let is = picked_of l c.args.seat.now.inner.me.0.turn.mark under book order in is.last (some_upto l c.args.seat.now.inner.me.0.turn.mark under (loose_upto book l) (first_unsealed (c.args.seat.now.inner.me.0.turn.mark + 1) book.active) is some);
    }
