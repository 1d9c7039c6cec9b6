use Rattle.std.proofs.Common.{◌≡◌, [], arith}
use Rattle.std.proofs.lemmas.Grind.{common_steps}
use Rattle.fd_footer.specs.Layout.{are_own}
use Rattle.fd_footer.proofs.MissingColumns.{cut_short}
use Rattle.fd_footer.proofs.layout.are_own.Goals as goal

pub returns-in_default : goal.returns-in_default
unfolding are_own
returns-in_default c =
    let empty : c.loop-name.rest.now ≡ [] = grind (arith, common_steps, c.in_default.ensures.cases, c.in_default.not-Some, c.in_default.is) in
    cut_short c.fixed_columns-table.result c.loop-name.name-index c.loop-name.rest.now _ c.fixed_columns-table.ensures c.loop-name-test.true empty c.loop-name.invariant
