use Rattle.fd_pages.proofs.Lengths.{body_within}
use Rattle.fd_pages.proofs.laws.levels_are_short.Goals as goal

pub returns : goal.returns
returns c = body_within
