use Rattle.fd_pages.proofs.Examples.{exchanged, cut}
use Rattle.fd_pages.proofs.laws.faulty_dictionaries_are_none.Goals as goal

pub returns : goal.returns
returns c = record { exchanged = exchanged c.one_spelling.ensures; cut = cut c.one_spelling.ensures }
