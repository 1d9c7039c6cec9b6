use Rattle.fd_shelf.proofs.FirstLoose.{loose_unheld, loose_below}
use Rattle.fd_shelf.proofs.shelf.Shelf.first_laws.Goals as goal

pub returns-clause-unheld : goal.returns-clause-unheld
returns-clause-unheld g c = loose_unheld c.args.self.now c.is_in_order.ensures.book

pub returns-clause-below : goal.returns-clause-below
returns-clause-below g c = loose_below c.args.self.now c.is_in_order.ensures.book
