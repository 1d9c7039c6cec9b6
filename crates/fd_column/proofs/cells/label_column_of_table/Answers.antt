use Rattle.std.proofs.Common.{◌≡◌, ◌∙◌, sym, ap}
use Rattle.std.specs.Prelude.{Some, None}
use Rattle.fd_column.specs.LabelColumns.{place_of}
use Rattle.fd_column.specs.Tables.{rows_of_table}
use Rattle.fd_column.proofs.LabelPlaces.{column_found, column_missing}
use Rattle.fd_column.proofs.cells.label_column_of_table.Goals as goal

pub returns-in-Some : goal.returns-in-Some
returns-in-Some c =
    let there : place_of c.args.name.now c.args.table.now.labels ≡ Some c.in-Some.place = ap (place_of c.args.name.now) (sym c.as_slice.ensures) ∙ sym c.place_of.ensures.place ∙ c.in-Some.is in
    record {
      found = column_found c.args.table.now (rows_of_table c.args.table.now) c.args.name.now c.in-Some.place c.requires.table there;
      none = λ h. cc;
    }

pub returns-in-None : goal.returns-in-None
returns-in-None c =
    let there : place_of c.args.name.now c.args.table.now.labels ≡ None = ap (place_of c.args.name.now) (sym c.as_slice.ensures) ∙ sym c.place_of.ensures.place ∙ c.in-None.is in
    record {
      found = tt;
      none = λ h. column_missing c.args.table.now (rows_of_table c.args.table.now) c.args.name.now c.requires.table there;
    }
