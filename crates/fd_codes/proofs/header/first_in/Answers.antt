use Rattle.std.specs.Prelude.{pos}
use Rattle.fd_thrift.specs.Values.{whole32}
use Rattle.fd_codes.proofs.HeaderLaws.{none_there}
use Rattle.fd_codes.proofs.header.first_in.Goals as goal

pub returns-in-None-clause-value : goal.returns-in-None-clause-value
returns-in-None-clause-value c = λ number e. absurd (none_there c.args.fields.now 0 (whole32 (pos number)) e c.in-None.ensures.lookup.0)
