use Rattle.std.proofs.Common.{◌≡◌, ℕ, List, ◌++◌, take}
use Rattle.fd_kinds.specs.Meaning.{distinct}
use Rattle.fd_lists.specs.Texts.{text_cmp}
use Rattle.fd_column.specs.Cells.{column_names}
use Rattle.fd_scan.specs.LabelNames.{column_labels}
use Rattle.fd_scan.specs.Removals.{undone}
use Rattle.fd_scan.proofs.label_names.add_column_labels.Given as goal

abbrev pub invariant-loop-column : goal.invariant-loop-column
invariant-loop-column g l = record {
  held : (items : List (List ℕ)) → l.initial.names.keys ≡ distinct text_cmp items → l.names.keys ≡ distinct text_cmp (items ++ column_labels (g.C.Columns.rows l.columns) l.places (take l.column (column_names (g.C.Columns.rows l.columns))));
  kept : undone l.names.keys l.noted ≡ undone l.initial.names.keys l.initial.noted;
}
