use Rattle.fd_thrift.proofs.Roundtrips.{tree_again}
use Rattle.fd_thrift.proofs.Soundness.{tree_takes}
use Rattle.fd_thrift.proofs.laws.spellings_are_read.Goals as goal

pub returns-clause-only : goal.returns-clause-only
returns-clause-only c = tree_again

pub returns-clause-found : goal.returns-clause-found
returns-clause-found c = tree_takes
