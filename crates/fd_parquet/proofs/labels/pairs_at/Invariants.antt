use Rattle.std.proofs.Common.{◌≡◌, ◌++◌, drop}
use Rattle.fd_parquet.specs.Rows.{pairs_in}
use Rattle.fd_parquet.proofs.labels.pairs_at.Given as goal

abbrev pub invariant-loop-place : goal.invariant-loop-place
invariant-loop-place l = l.pairs ++ pairs_in l.prefix (drop l.place l.columns) (drop l.place l.cells) l.at ≡ pairs_in l.prefix l.columns l.cells l.at
