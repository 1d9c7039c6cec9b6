use Rattle.fd_select.proofs.Parts.{opens_cut}
use Rattle.fd_select.proofs.selectors.open_brace.Goals as goal

pub returns : goal.returns
returns c = opens_cut c.args.text.now c.split_once.result c.split_once.ensures.cases
