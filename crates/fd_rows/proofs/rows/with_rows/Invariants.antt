use Rattle.std.proofs.Common.{◌≡◌, ◌++◌, drop}
use Rattle.std.specs.List.{flat_map}
use Rattle.fd_rows.specs.Rows.{sample_rows}
use Rattle.fd_rows.proofs.rows.with_rows.Given as goal

abbrev pub invariant-loop-at : goal.invariant-loop-at
invariant-loop-at l =
    l.more ++ flat_map (sample_rows l.series l.survey) (drop l.at l.survey.samples) ≡ l.fn.rows ++ flat_map (sample_rows l.series l.survey) l.survey.samples
