use Rattle.std.proofs.Common.{arith}
use Rattle.fd_pool.proofs.Replaced.{has_rows, may_go_home}
use Rattle.fd_pool.proofs.replacements.swap_taken.Goals as goal

pub replace-requires-clause-rows : goal.replace-requires-clause-rows
replace-requires-clause-rows g c lives longer = has_rows c.args.shelf.book c.args.shelf.mark (g.P.Held.means c.args.part) c.history_laws.ensures.count c.requires.rows

pub give_turn-requires-clause-may : goal.give_turn-requires-clause-may
give_turn-requires-clause-may g c lives longer = let r = c.requires.rows in let count = c.history_laws.ensures.count in let reaches = r.reaches in let hi = c.requires.hi in let floor = c.requires.floor in
    may_go_home c.args.shelf c.replace.new.self (g.P.Held.means c.args.part) c.args.seat.now.inner.me c.requires.hand c.in-Ok.ensures.replaced c.replace.ensures.history c.replace.ensures.numbers
    (λ n a b. c.book_laws.ensures.held c.args.shelf.book c.args.shelf.mark n c.is_in_order.ensures.book a b) r.counted (omega (arith, reaches, count)) (omega (arith, hi, floor))
