use Rattle.std.proofs.Common.{◌≡◌, take, refl, sym, subst, arith}
use Rattle.std.specs.Prelude.{All}
use Rattle.std.proofs.lemmas.List.Elements.{All-push}
use Rattle.fd_column.specs.declared.table.LabelColumn.{LabelColumn}
use Rattle.fd_dictionary.specs.Dictionaries.{Cells, cell_in}
use Rattle.fd_column.proofs.Steps.{taken, whole_taken}
use Rattle.fd_column.proofs.label_columns.have_same_cells.Goals as goal

pub loop-column-preserved : goal.loop-column-preserved
loop-column-preserved c =
    subst (All (λ (x : LabelColumn Cells). cell_in x.cells c.args.a ≡ cell_in x.cells c.args.b)) (sym (taken c.args.columns.now c.loop-column.column-index c.column-item.result (omega (arith, c.loop-column-test.true)) c.column-item.is))
    (All-push (λ (x : LabelColumn Cells). cell_in x.cells c.args.a ≡ cell_in x.cells c.args.b) (take c.loop-column.column-index c.args.columns.now) c.column-item.result c.loop-column.invariant (c.is_same.ensures.0 (cc)))

pub returns : goal.returns
returns c = (
  λ _. subst (All (λ (x : LabelColumn Cells). cell_in x.cells c.args.a ≡ cell_in x.cells c.args.b)) (whole_taken c.args.columns.now c.loop-column.column-index (omega (arith, c.loop-column-test.false))) c.loop-column.invariant,
  λ _. refl,
)
