use Rattle.std.proofs.Common.{List, subst}
use Rattle.fd_kinds.specs.declared.batch.NumberedBatch.{NumberedBatch}
use Rattle.fd_open.proofs.Shelves.{Adding, adding_more}
use Rattle.fd_open.proofs.shelving.add_batches.Goals as goal

pub loop-batch-preserved : goal.loop-batch-preserved
loop-batch-preserved c =
    let added = c.in_ok-add_batch.ensures in
    let so_far = subst (λ (l : List NumberedBatch). Adding c.args.shelf.now c.args.batches.now c.loop-batch.shelf l) c.in-Some.ensures.cases.0 c.loop-batch.invariant in
    adding_more c.args.shelf.now c.args.batches.now c.loop-batch.shelf c.in-Some.batch.now c.in-Some.others.now so_far c.add_batch.new.shelf added.closed added.alone added.active added.mark added.history
