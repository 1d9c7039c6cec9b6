use Rattle.std.proofs.Common.{[]}
use Rattle.fd_table_file.proofs.ColumnPlaces.{name_there, columns_more, columns_all}
use Rattle.fd_table_file.proofs.laws.columns_have_places.Goals as goal

pub returns : goal.returns
returns c = record { more = columns_more; all = columns_all; names = λ rows k lt. name_there rows k [] lt }
