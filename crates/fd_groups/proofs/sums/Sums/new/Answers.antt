use Rattle.fd_groups.proofs.SlotLaws.{no_sums}
use Rattle.fd_groups.proofs.sums.Sums.new.Goals as goal

pub returns : goal.returns
returns c = no_sums c.new.result c.new-2.result.items c.new.ensures.empty
