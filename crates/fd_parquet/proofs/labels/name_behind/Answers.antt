use Rattle.std.proofs.Common.{◌∙◌, ap}
use Rattle.fd_parquet.specs.Rows.{behind}
use Rattle.fd_parquet.proofs.PairLaws.{behind_option}
use Rattle.fd_parquet.proofs.TextLaws.{name_utf8}
use Rattle.fd_parquet.proofs.labels.name_behind.Goals as goal

pub returns-clause-name : goal.returns-clause-name
returns-clause-name c =
    behind_option c.args.prefix.now c.as_bytes.result.now c.behind.result c.behind.ensures ∙ ap (behind c.args.prefix.now) (c.as_bytes.ensures.value ∙ c.as_str.ensures)

pub returns-clause-utf8 : goal.returns-clause-utf8
returns-clause-utf8 c = name_utf8 c.args.prefix.now c.as_bytes.result.now c.behind.result c.requires c.as_bytes.ensures.utf8 c.behind.ensures
