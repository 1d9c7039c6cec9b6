use Rattle.fd_json.proofs.EachSteps.{Gathers}
use Rattle.fd_json.proofs.shape.each_of.Given as goal

abbrev pub invariant-loop-item : goal.invariant-loop-item
invariant-loop-item g l = Gathers g.T.ReadsJson.meaning l.items l.item-index l.list
