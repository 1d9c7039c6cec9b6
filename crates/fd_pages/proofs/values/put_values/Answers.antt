use Rattle.std.proofs.Common.{◌++◌, length, take, get_or, ap, ◌∙◌, subst, append_assoc, arith}
use Rattle.std.proofs.lemmas.List.{take_more}
use Rattle.std.proofs.lemmas.List.Elements.{All-push, All-same}
use Rattle.fd_pages.specs.Columns.{Fits, plain, plain_values}
use Rattle.fd_pages.proofs.ValueLaws.{value_within, one_more}
use Rattle.fd_pages.proofs.values.put_values.Goals as goal

pub put_value-requires : goal.put_value-requires
put_value-requires c =
    omega (arith, value_within c.args.cells.now c.loop-cell.cell-index c.cell-item.result c.loop-cell-test.true, ap (λ x. length (plain x)) c.cell-item.is)

pub loop-cell-preserved : goal.loop-cell-preserved
loop-cell-preserved c =
    let cells = c.args.cells.now in
    let k = c.loop-cell.cell-index in
    let cell = c.cell-item.result in
    let more = one_more cells k cell c.loop-cell-test.true in (
      c.in_ok-put_value.ensures.ok
          ∙ ap (λ x. x ++ plain cell) c.loop-cell.invariant.0
          ∙ append_assoc c.args.out.now (plain_values (take k cells)) (plain cell)
          ∙ ap (λ x. c.args.out.now ++ (plain_values (take k cells) ++ plain x)) c.cell-item.is
          ∙ ap (λ x. c.args.out.now ++ x) more,
      All-same Fits _ _ (take_more cells k cell c.loop-cell-test.true) (All-push Fits (take k cells) (get_or cells k cell) c.loop-cell.invariant.1 (subst Fits c.cell-item.is c.in_ok-put_value.ensures.fits)),
    )
