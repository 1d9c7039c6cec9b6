use Rattle.fd_pages.proofs.OneCodePage as pages
use Rattle.fd_pages.proofs.laws.one_coding.Goals as goal

pub returns : goal.returns
returns c = pages.one_coding c.one_spelling.ensures
