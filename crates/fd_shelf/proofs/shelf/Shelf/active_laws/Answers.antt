use Rattle.fd_shelf.proofs.Stretches.{stretch_range, stretch_rows, active_stretch, active_sealable}
use Rattle.fd_shelf.proofs.shelf.Shelf.active_laws.Goals as goal

pub returns-clause-range : goal.returns-clause-range
returns-clause-range g c =
    let book = c.args.self.now.book in
    stretch_range book c.args.self.now.mark book.active (active_stretch book c.args.self.now.mark c.is_in_order.ensures.book)

pub returns-clause-sealable : goal.returns-clause-sealable
returns-clause-sealable g c = active_sealable c.args.self.now.book c.args.self.now.mark c.is_in_order.ensures.book

pub returns-clause-rows : goal.returns-clause-rows
returns-clause-rows g c =
    let book = c.args.self.now.book in
    let mark = c.args.self.now.mark in
    let order = c.is_in_order.ensures.book in
    stretch_rows book mark book.active c.row_order_laws.ensures.total c.row_order_laws.ensures.same order (active_stretch book mark order)
