use Rattle.std.proofs.Common.{length}
use Rattle.fd_hybrid.proofs.WholeLoop.{none_there}
use Rattle.fd_hybrid.proofs.RunWrites.{run_put, all_put}
use Rattle.fd_hybrid.proofs.packer.pack.Goals as goal

pub loop-rest-preserved : goal.loop-rest-preserved
loop-rest-preserved c = record {
  fit = c.in_ok-rest.ensures.fit;
  so_far = run_put c.args.width c.args.values.now c.loop-rest.out c.push_run.new.out c.loop-rest.rest.now _ c.loop-rest.invariant.so_far c.in_ok-rest.ensures.run;
}

pub returns : goal.returns
returns c = all_put c.args.width c.args.values.now c.loop-rest.out c.loop-rest.rest.now c.loop-rest.invariant.so_far
    (none_there _ (length c.loop-rest.rest.now) c.is_empty.ensures c.loop-rest-test.false)
