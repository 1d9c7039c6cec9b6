use Rattle.fd_footer.proofs.ShapeLaws.{footer_shaped}
use Rattle.fd_footer.proofs.Roundtrips.{footer_told}
use Rattle.fd_footer.proofs.laws.footers_are_read.Goals as goal

pub returns : goal.returns
returns c = record { shape = footer_shaped; table = footer_told }
