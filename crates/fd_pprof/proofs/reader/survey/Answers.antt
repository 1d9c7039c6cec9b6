use Rattle.fd_pprof.proofs.Refusals.{profile_read}
use Rattle.fd_pprof.proofs.reader.survey.Goals as goal

pub returns-clause-ok : goal.returns-clause-ok
returns-clause-ok c =
    profile_read c.args.bytes.now c.in-Ok.raw c.in_ok-tables.tables.catalog.raw c.in_ok-tables.tables.texts c.of.result c.if-is_compressed.ensures c.in-Ok.ensures.ok.0 c.in-Ok.ensures.ok.1
    c.in_ok-tables.ensures.none c.in_ok-tables.ensures.raw c.in_ok-tables.ensures.texts c.of.ensures
