use Rattle.std.proofs.Common.{[], refl}
use Rattle.fd_footer.specs.Footers.{footer_value}
use Rattle.fd_footer.proofs.Injectivity.{same_footer}
use Rattle.fd_footer.proofs.laws.one_footer.Goals as goal

pub returns : goal.returns
returns c = λ bytes f g w v one other.
    same_footer f g w v (c.one_spelling.ensures bytes bytes [] [] (footer_value f) (footer_value g) one other refl).0
