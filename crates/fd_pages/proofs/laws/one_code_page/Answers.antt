use Rattle.fd_pages.proofs.OneCodePage as pages
use Rattle.fd_pages.proofs.laws.one_code_page.Goals as goal

pub returns : goal.returns
returns c = pages.one_code_page c.one_spelling.ensures c.one_reading.ensures.values
