use Rattle.fd_pages.proofs.OnePage as pages
use Rattle.fd_pages.proofs.laws.one_page.Goals as goal

pub returns : goal.returns
returns c = pages.one_page c.one_spelling.ensures
