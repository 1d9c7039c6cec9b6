use Rattle.fd_part.proofs.BatchLists.{listed_batches}
use Rattle.fd_part.proofs.batch_list.batches_of.Goals as goal

pub returns : goal.returns
returns c = listed_batches c.in_ok-map.map c.args.table.now c.in_ok-batches.batches c.in_ok-map.ensures c.in_ok-batches.ensures
