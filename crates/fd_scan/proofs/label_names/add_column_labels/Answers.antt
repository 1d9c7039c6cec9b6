use Rattle.std.proofs.Common.{◌≡◌, ◌∙◌, List, ◌++◌, take, subst}
use Rattle.fd_kinds.specs.declared.row.Numbered.{Numbered}
use Rattle.fd_kinds.specs.Meaning.{distinct}
use Rattle.fd_lists.specs.Texts.{text_cmp}
use Rattle.fd_column.specs.Cells.{column_names}
use Rattle.fd_scan.specs.LabelNames.{column_labels}
use Rattle.fd_scan.proofs.LabelNameLaws.{labels_more}
use Rattle.fd_scan.proofs.label_names.add_column_labels.Goals as goal

pub loop-column-preserved : goal.loop-column-preserved
loop-column-preserved g c =
    let rows : List Numbered = g.C.Columns.rows c.args.columns.now in
    record {
      held = λ items before.
          subst (λ l. c.add_column_label.new.names.keys ≡ distinct text_cmp l) (labels_more rows c.args.places.now items (column_names rows) c.loop-column.column)
          (c.in_ok-add_column_label.ensures.ok (items ++ column_labels rows c.args.places.now (take c.loop-column.column (column_names rows))) (c.loop-column.invariant.held items before));
      kept = c.add_column_label.ensures.undone ∙ c.loop-column.invariant.kept;
    }
