-- The column at the place of a label's name is that of the label.
use Rattle.std.proofs.Common.{◌≡◌, ℕ, true, List, sym, ◌∙◌, ap, slice_get}
use Rattle.std.proofs.lemmas.Option.{same_Some, slice_get-map}
use Rattle.std.specs.Prelude.{Option, Some, None, option_map, option_and_then}
use Rattle.fd_kinds.specs.declared.row.Numbered.{Numbered}
use Rattle.fd_column.specs.Cells.{Column, number, name, sample_type, sample_unit, period_type, period_unit, timestamp, stack, period, duration, value, label, pprof_label, column_name, column_names, columns_of, has_texts, is_text_column}
use Rattle.fd_scan.specs.LabelNames.{label_of, label_at}

-- only the columns of series labels have names of that form
label_named : (c : Column) (l : List ℕ) → label_of (column_name c) ≡ Some l → c ≡ label l
label_named number l h = cc
label_named name l h = cc
label_named sample_type l h = cc
label_named sample_unit l h = cc
label_named period_type l h = cc
label_named period_unit l h = cc
label_named timestamp l h = cc
label_named stack l h = cc
label_named period l h = cc
label_named duration l h = cc
label_named value l h = cc
label_named (label n) l h = ap label (same_Some n l h)
label_named (pprof_label n) l h = cc

named_there : (o : Option Column) (l : List ℕ) → option_and_then label_of (option_map column_name o) ≡ Some l → o ≡ Some (label l)
named_there None l h = cc
named_there (Some c) l h = ap Some (label_named c l h)

pub label_there : (rows : List Numbered) (at : ℕ) (l : List ℕ) → label_at (column_names rows) at ≡ Some l → slice_get (columns_of rows) at ≡ Some (label l)
label_there rows at l h =
    named_there (slice_get (columns_of rows) at) l (ap (option_and_then label_of) (sym (slice_get-map column_name (columns_of rows) at)) ∙ h)

-- its cells are texts
pub label_texts : (rows : List Numbered) (at : ℕ) (l : List ℕ) → label_at (column_names rows) at ≡ Some l → is_text_column rows at ≡ true
label_texts rows at l h = ap has_texts (label_there rows at l h)
