use Rattle.fd_hybrid.proofs.OneSpelling.{one_spelling}
use Rattle.fd_hybrid.proofs.laws.one_spelling.Goals as goal

pub returns : goal.returns
returns c = one_spelling
