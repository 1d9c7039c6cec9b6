use Rattle.fd_select.proofs.Parts.{parts_of_cut}
use Rattle.fd_select.proofs.kind.next_part.Goals as goal

pub returns : goal.returns
returns c = parts_of_cut c.args.text.now c.split_once.result c.split_once.ensures.cases
