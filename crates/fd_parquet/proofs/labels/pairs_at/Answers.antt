use Rattle.std.proofs.Common.{◌≡◌, ◌++◌, [], ap, ◌∙◌}
use Rattle.std.specs.List.{cons_option}
use Rattle.std.specs.Option.{option_copied}
use Rattle.fd_parquet.specs.Rows.{cell_in, cell_bytes, behind, pair_of, pairs_in}
use Rattle.fd_parquet.proofs.PairLaws.{pairs_more}
use Rattle.fd_parquet.proofs.TextLaws.{value_utf8}
use Rattle.fd_parquet.proofs.labels.pairs_at.Goals as goal

pub loop-place-preserved : goal.loop-place-preserved
loop-place-preserved c =
    let pushed : c.in_ok-pairs.pairs ≡ c.loop-place.pairs ++ cons_option (pair_of (behind c.args.prefix.now c.index-columns-place.result.name) (cell_bytes (cell_in c.args.cells.now c.loop-place.place c.args.at))) [] =
    c.in_ok-pairs.ensures
    ∙ ap (λ o. c.loop-place.pairs ++ cons_option (pair_of o (option_copied c.bytes_at.result)) []) c.name_behind-name.ensures.name
    ∙ ap (λ o. c.loop-place.pairs ++ cons_option (pair_of (behind c.args.prefix.now c.index-columns-place.result.name) o) []) c.bytes_at.ensures in
    pairs_more c.args.prefix.now c.args.columns.now c.args.cells.now c.loop-place.place c.args.at c.index-columns-place.result c.loop-place.pairs c.in_ok-pairs.pairs
    (pairs_in c.args.prefix.now c.args.columns.now c.args.cells.now c.args.at) c.loop-place-test.true c.index-columns-place.is pushed c.loop-place.invariant

pub with_pair-requires-clause-values : goal.with_pair-requires-clause-values
with_pair-requires-clause-values c =
    value_utf8 c.args.prefix.now c.args.columns.now c.args.cells.now c.loop-place.place c.args.at c.index-columns-place.result c.name_behind-name.result c.bytes_at.result
    c.requires.labels c.requires.texts c.loop-place-test.true c.index-columns-place.is c.name_behind-name.ensures.name c.bytes_at.ensures
