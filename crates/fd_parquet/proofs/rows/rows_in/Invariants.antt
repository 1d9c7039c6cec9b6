use Rattle.fd_parquet.specs.Stages.{BuildsRows}
use Rattle.fd_parquet.proofs.rows.rows_in.Given as goal

abbrev pub invariant-loop-at : goal.invariant-loop-at
invariant-loop-at l = BuildsRows l.columns l.cells l.lo l.hi l.at l.rows
