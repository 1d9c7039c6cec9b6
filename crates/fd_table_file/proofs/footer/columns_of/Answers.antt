use Rattle.std.proofs.Common.{◌<◌, List, ℕ, length, get_or, ap, ◌∙◌, arith}
use Rattle.fd_table_file.specs.Columns.{column_count}
use Rattle.fd_table_file.proofs.ColumnPlaces.{name_there}
use Rattle.fd_table_file.proofs.footer.columns_of.Goals as goal

pub column_of-requires-clause-name : goal.column_of-requires-clause-name
unfolding column_count
column_of-requires-clause-name c =
    let item : List ℕ = c.index-names-at.result in
    let names = c.as_slice-names.ensures ∙ c.names.ensures in
    let within : c.loop-at.at < column_count c.args.table.now = omega (arith, c.loop-at-test.true, ap length names) in
    c.index-names-at.is ∙ ap (λ (xs : List (List ℕ)). get_or xs c.loop-at.at item) names ∙ name_there c.args.table.now c.loop-at.at item within
