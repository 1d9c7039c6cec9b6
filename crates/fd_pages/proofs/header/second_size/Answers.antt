use Rattle.fd_pages.proofs.HeaderLaws.{second_field}
use Rattle.fd_pages.proofs.header.second_size.Goals as goal

pub returns-in-None-clause-value : goal.returns-in-None-clause-value
returns-in-None-clause-value c = λ count size e. absurd (second_field c.args.fields.now count size e c.in-None.ensures.lookup.0)
