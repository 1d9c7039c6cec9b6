use Rattle.std.proofs.Common.{arith, ◌≡◌, ◌-◌, ◌≤◌, List, sym, subst, Some, slice_get, IsPermutation}
use Rattle.fd_kinds.specs.History.{upto}
use Rattle.fd_kinds.specs.Parts.{PartMeaning, rows_of}
use Rattle.fd_shelf.specs.Books.{rows_in}
use Rattle.fd_shelf.specs.Histories.{hist, batch_at}
use Rattle.fd_rule.specs.Kinds.TurnTry.{Below}
use Rattle.fd_pool.proofs.Replaced.{settled_whole}
use Rattle.fd_pool.proofs.TurnSteps.{if_ok_then, in_hand, in_upto}
use Rattle.fd_pool.proofs.lists.list_taken.Goals as goal

pub parts_upto-picked-requires-clause-marked : goal.parts_upto-picked-requires-clause-marked
parts_upto-picked-requires-clause-marked g c lives longer = let t = c.requires.taken in in_upto c.args.shelf.mark c.args.w t.view.seen.marks t.loaded t.later.marks

pub parts_upto-picked-requires-clause-whole : goal.parts_upto-picked-requires-clause-whole
parts_upto-picked-requires-clause-whole g c lives longer = let t = c.requires.taken in settled_whole c.args.shelf.book c.args.shelf.mark c.args.w c.is_in_order.ensures.book (λ n h. subst (λ s. Below n s) t.pinned (t.later.sealed n h))

pub give_up-requires-clause-hand : goal.give_up-requires-clause-hand
give_up-requires-clause-hand g c lives longer = let t = c.requires.taken in in_hand c.args.shelf t.view c.args.seat.now.inner.me t.me

pub returns-clause-parts : goal.returns-clause-parts
returns-clause-parts g c = let t = c.requires.taken in let w = c.args.w in let book = c.args.shelf.book in let history = hist book c.args.shelf.mark in let count = c.history_laws.ensures.count in
    let low : w ≤ c.args.shelf.mark = in_upto c.args.shelf.mark w t.view.seen.marks t.loaded t.later.marks in
    let whole = settled_whole book c.args.shelf.mark w c.is_in_order.ensures.book (λ n h. subst (λ s. Below n s) t.pinned (t.later.sealed n h)) in
    if_ok_then c.parts_upto-picked.result
    (λ picked is. record {
      low = omega (arith, low, count);
      those = is;
      batches = λ n a b. subst (λ (ps : List PartMeaning). slice_get history (n - 1) ≡ Some (batch_at ps n)) (sym is) (c.history_laws.ensures.batches w n low a b);
      rows = subst (λ (ps : List PartMeaning). IsPermutation (rows_of (rows_in ps)) (upto history w)) (sym is) (c.history_laws.ensures.whole w low whole);
    })
    c.parts_upto-picked.ensures.parts
