use Rattle.fd_thrift.specs.Values.{struct}
use Rattle.fd_codes.proofs.HeaderLaws.{none_there}
use Rattle.fd_codes.proofs.header.count_in.Goals as goal

pub returns-in-None-clause-value : goal.returns-in-None-clause-value
returns-in-None-clause-value c = λ number inner e f. absurd (none_there c.args.fields.now 3 (struct inner) e c.in-None.ensures.lookup.0)
