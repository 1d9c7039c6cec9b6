use Rattle.std.specs.Vec.Iter.{into_iter_items}
use Rattle.fd_json.proofs.BodySteps.{Collects}
use Rattle.fd_json.proofs.body.bodies_of.Given as goal

abbrev pub invariant-loop-labels : goal.invariant-loop-labels
invariant-loop-labels l = Collects l.fn.sent l.number l.series (into_iter_items l.labels-iterator)
