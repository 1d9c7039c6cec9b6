use Rattle.fd_parquet.proofs.ColumnReads.{ReadsColumns}
use Rattle.fd_parquet.proofs.columns.columns_in.Given as goal

abbrev pub invariant-loop-at : goal.invariant-loop-at
invariant-loop-at l = ReadsColumns l.pages l.count l.columns l.bytes l.at l.cells l.places l.rest
