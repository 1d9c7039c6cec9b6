use Rattle.fd_footer.proofs.NumberWidths.{footer_spelled}
use Rattle.fd_footer.proofs.laws.footers_are_spelled.Goals as goal

pub returns : goal.returns
returns c = footer_spelled
