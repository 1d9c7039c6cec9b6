use Rattle.std.proofs.Common.{◌≡◌, ◌++◌, [], drop}
use Rattle.std.specs.List.{flat_map}
use Rattle.fd_rows.specs.Rows.{series_rows}
use Rattle.fd_rows.specs.Body.{all_refusal}
use Rattle.fd_rows.proofs.body.batch.Given as goal

abbrev pub invariant-loop-i : goal.invariant-loop-i
invariant-loop-i l = record {
  rows : l.rows.rows ++ flat_map series_rows (drop l.i l.body.series) ≡ flat_map series_rows l.body.series;
  rest : all_refusal l.i l.rows.rows (drop l.i l.body.series) ≡ all_refusal 0 [] l.body.series;
}
