use Rattle.fd_shelf.proofs.Batches.{hist_length, history_rows}
use Rattle.fd_shelf.proofs.Watermarks.{history_batch, history_upto, history_push}
use Rattle.fd_shelf.proofs.shelf.Shelf.history_laws.Goals as goal

pub returns-clause-count : goal.returns-clause-count
returns-clause-count g c = hist_length c.args.self.now.book c.args.self.now.mark

pub returns-clause-rows : goal.returns-clause-rows
returns-clause-rows g c = history_rows c.args.self.now.book c.args.self.now.mark c.is_in_order.ensures.book

pub returns-clause-batches : goal.returns-clause-batches
returns-clause-batches g c = history_batch c.args.self.now.book c.args.self.now.mark c.is_in_order.ensures.book

pub returns-clause-whole : goal.returns-clause-whole
returns-clause-whole g c = history_upto c.args.self.now.book c.args.self.now.mark c.is_in_order.ensures.book

pub returns-clause-push : goal.returns-clause-push
returns-clause-push g c = history_push c.args.self.now.book
