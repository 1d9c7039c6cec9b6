-- What reading a footer answers.
use Rattle.std.specs.Prelude.{◌≡◌, true, false, Some, None, Result, Ok, Err}
use Rattle.fd_thrift.specs.Values.{Value}
use Rattle.fd_footer.specs.declared.table.FooterTable.{FooterTable}
use Rattle.fd_footer.specs.declared.fault.FooterFault.{FooterFault}
use Rattle.fd_footer.specs.declared.fault.FooterFault.TheVariants.{Footer, Schema, NoMemory}
use Rattle.fd_footer.specs.Shapes.{has_shape}
use Rattle.fd_footer.specs.Contents.{table_of}

-- Of a tree: its table, where it has the shape of a footer and a table; `Footer` where it does not have the shape, and
-- `Schema` where it has that and no table. Memory may run out.
abbrev pub AnswersTable : Value → Result FooterTable FooterFault → Type 0
AnswersTable v (Ok table) = (has_shape v ≡ true) × (table_of v ≡ Some table)
AnswersTable v (Err Footer) = has_shape v ≡ false
AnswersTable v (Err Schema) = (has_shape v ≡ true) × (table_of v ≡ None)
AnswersTable v (Err NoMemory) = Unit {0}
