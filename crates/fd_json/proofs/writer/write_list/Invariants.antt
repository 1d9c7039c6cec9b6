use Rattle.fd_json.proofs.TokenSteps.{Writing}
use Rattle.fd_json.proofs.writer.write_list.Given as goal

abbrev pub invariant-loop-item : goal.invariant-loop-item
invariant-loop-item g l = Writing g.T.WritesJson.json l.items l.item-index l.fn.out l.out
