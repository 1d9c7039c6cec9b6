use Rattle.std.proofs.Common.{◌≡◌, Some, sym, subst}
use Rattle.std.specs.Prelude.{Decides, slice_get}
use Rattle.std.specs.Option.{option_copied}
use Rattle.fd_table_file.specs.Columns.{cells_of, column_at}
use Rattle.fd_table_file.proofs.Comparisons.{absent_decided, whole_decided, bytes_decided}
use Rattle.fd_table_file.proofs.comparison.has_cell.Goals as goal

pub returns-in-Absent : goal.returns-in-Absent
returns-in-Absent c =
    subst (λ x. Decides c.is_absent.result (slice_get (cells_of (column_at c.args.table.now c.args.column) c.args.table.now) c.args.at ≡ Some x)) (sym c.in-Absent.is)
    (absent_decided c.args.table.now c.args.column c.args.at (option_copied c.text.result) c.whole.result c.is_absent.result c.requires.column c.requires.at c.text.ensures c.whole.ensures c.is_absent.ensures)

pub returns-in-Whole : goal.returns-in-Whole
returns-in-Whole c =
    subst (λ x. Decides c.is_whole.result (slice_get (cells_of (column_at c.args.table.now c.args.column) c.args.table.now) c.args.at ≡ Some x)) (sym c.in-Whole.is)
    (whole_decided c.args.table.now c.args.column c.args.at c.whole-in-Whole.result c.in-Whole.number c.is_whole.result c.requires.column c.requires.at c.whole-in-Whole.ensures c.is_whole.ensures)

pub returns-in-Bytes : goal.returns-in-Bytes
returns-in-Bytes c =
    subst (λ x. Decides c.is_bytes.result (slice_get (cells_of (column_at c.args.table.now c.args.column) c.args.table.now) c.args.at ≡ Some x)) (sym c.in-Bytes.is)
    (bytes_decided c.args.table.now c.args.column c.args.at (option_copied c.text-in-Bytes.result) c.in-Bytes.bytes c.is_bytes.result c.requires.column c.requires.at c.text-in-Bytes.ensures
    (subst (λ xs. Decides c.is_bytes.result (option_copied c.text-in-Bytes.result ≡ Some xs)) c.as_slice.ensures c.is_bytes.ensures))
