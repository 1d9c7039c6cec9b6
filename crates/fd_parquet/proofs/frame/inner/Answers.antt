use Rattle.fd_parquet.proofs.MagicLaws.{inner_there, no_last}
use Rattle.fd_parquet.proofs.frame.inner.Goals as goal

pub returns-in_default-before-clause-none : goal.returns-in_default-before-clause-none
returns-in_default-before-clause-none c = λ _. no_last c.args.bytes.now c.in-Some.rest.now c.in-Some.ensures c.in_default-before.ensures

pub returns-clause-found : goal.returns-clause-found
returns-clause-found c = inner_there c.args.bytes.now c.in-Some.rest.now c.in-Some-before.inner.now c.in-Some.ensures c.in-Some-before.ensures c.if-inner-lt4.false
