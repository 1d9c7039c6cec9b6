use Rattle.std.proofs.Common.{List, subst, sym}
use Rattle.fd_shelf.specs.declared.picks.InBlock.{InBlock}
use Rattle.stubs.specs.Stubs.{stub_meaning}
use Rattle.stubs.specs.declared.stub.Stub.{Stub}
use Rattle.std.specs.Prelude.{map}
use Rattle.test_pool.specs.Rests.{IsRunOf}
use Rattle.test_pool.proofs.PoolSteps.{run_of}
use Rattle.test_pool.proofs.runs.compact_one.Goals as goal

pub put_run-requires-clause-run : goal.put_run-requires-clause-run
put_run-requires-clause-run g c = let t = c.in-Ok.ensures.parts in let history = c.run_upto.new.seat.inner.me.0.seen.history in
    subst (λ (ps : List (InBlock Stub)). IsRunOf history (map (λ i. stub_meaning i.part) ps)) (sym c.as_slice.ensures) (run_of t.0 c.lift-least.result.l history c.in-Ok.picked t.3 t.4)
