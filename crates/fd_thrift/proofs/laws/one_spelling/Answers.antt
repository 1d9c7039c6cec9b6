use Rattle.fd_thrift.proofs.Places.{one_of}
use Rattle.fd_thrift.proofs.laws.one_spelling.Goals as goal

pub returns : goal.returns
returns c = one_of
