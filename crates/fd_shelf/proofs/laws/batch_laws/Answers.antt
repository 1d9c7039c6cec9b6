use Rattle.fd_shelf.proofs.HistoryLaws.{batch_of_part}
use Rattle.fd_shelf.proofs.RowPermutations.{same_rows_in_order}
use Rattle.fd_shelf.proofs.Watermarks.{in_order_of_sorted}
use Rattle.fd_shelf.proofs.laws.batch_laws.Goals as goal

pub returns-clause-same : goal.returns-clause-same
returns-clause-same c = same_rows_in_order c.row_order_laws.ensures.total c.row_order_laws.ensures.same

pub returns-clause-sorted : goal.returns-clause-sorted
returns-clause-sorted c = in_order_of_sorted

pub returns-clause-part : goal.returns-clause-part
returns-clause-part c = batch_of_part
