use Rattle.fd_shelf.proofs.Stretches.{stretch_range, stretch_rows, closed_stretch, closed_some, closed_sealable}
use Rattle.fd_shelf.proofs.shelf.Shelf.closed_laws.Goals as goal

pub returns-clause-range : goal.returns-clause-range
returns-clause-range g c = λ block parts here.
    let book = c.args.self.now.book in
    let mark = c.args.self.now.mark in
    let order = c.is_in_order.ensures.book in
    stretch_range book mark parts (closed_stretch book mark block parts order here) (closed_some book mark block parts order here)

pub returns-clause-sealable : goal.returns-clause-sealable
returns-clause-sealable g c = λ block parts here.
    closed_sealable c.args.self.now.book c.args.self.now.mark block parts c.is_in_order.ensures.book here

pub returns-clause-rows : goal.returns-clause-rows
returns-clause-rows g c = λ block parts here.
    let book = c.args.self.now.book in
    let order = c.is_in_order.ensures.book in
    stretch_rows book c.args.self.now.mark parts c.row_order_laws.ensures.total c.row_order_laws.ensures.same order (closed_stretch book c.args.self.now.mark block parts order here)
