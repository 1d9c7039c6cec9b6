use Rattle.std.specs.Vec.Iter.{into_iter_items}
use Rattle.fd_json.proofs.BodySteps.{Decodes}
use Rattle.fd_json.proofs.body.profiles_of.Given as goal

abbrev pub invariant-loop-one : goal.invariant-loop-one
invariant-loop-one l = Decodes l.fn.series l.fn.sent l.sample l.profiles (into_iter_items l.one-iterator)
