use Rattle.std.proofs.Common.{◌∙◌, ap, sym, subst}
use Rattle.std.specs.Prelude.{All}
use Rattle.fd_kinds.specs.Parts.{rows_of}
use Rattle.fd_kinds.proofs.PartLaws.{rows_of_with_number}
use Rattle.fd_column.specs.Stacks.{AreShort}
use Rattle.fd_part.specs.Sizes.{bytes_of}
use Rattle.fd_part.proofs.ShortFrames.{short_batch}
use Rattle.fd_part.proofs.batch_columns.BatchColumns.of.Goals as goal

pub columns_of-requires-clause-short : goal.columns_of-requires-clause-short
columns_of-requires-clause-short c =
    subst (All (λ row. AreShort row.stack)) (sym c.as_slice-rows.ensures) (short_batch c.args.batch.now.rows c.requires)

pub invariant_of-result : goal.invariant_of-result
invariant_of-result c =
    c.sum_of-bytes.ensures
    ∙ ap bytes_of (sym (ap rows_of c.in_ok-columns.ensures ∙ rows_of_with_number 0 c.as_slice-rows.result.now))

pub returns : goal.returns
returns c = ap rows_of c.in_ok-columns.ensures ∙ rows_of_with_number 0 c.as_slice-rows.result.now ∙ c.as_slice-rows.ensures
