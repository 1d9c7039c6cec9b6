use Rattle.fd_rule.specs.Seats.{base_shelf, pass_view}
use Rattle.fd_pool.proofs.Gathered.{ended}
use Rattle.fd_pool.proofs.endings.end.Goals as goal

pub returns : goal.returns
returns g c = let old = c.close-shelf.result in let new = c.advance.new.self in
    ended (base_shelf c.args.base) (pass_view c.args.all) old new c.close-shelf.ensures c.is_in_order.ensures.book c.advance.ensures.kept c.advance.ensures.rises (c.book_laws.ensures.gap new c.is_in_order.ensures.book c.advance.ensures.gap) c.advance.ensures.history c.advance.ensures.numbers
    (λ n a b. c.book_laws.ensures.held new.book new.mark n c.is_in_order.ensures.book a b)
