use Rattle.std.proofs.Common.{◌≡◌, ◌++◌, drop}
use Rattle.std.specs.List.{flat_map, zip}
use Rattle.fd_rows.specs.Rows.{value_rows}
use Rattle.fd_rows.proofs.rows.with_sample.Given as goal

abbrev pub invariant-loop-kind : goal.invariant-loop-kind
invariant-loop-kind l =
    l.more ++ flat_map (value_rows l.series l.survey l.sample) (zip (drop l.kind l.survey.sample_types) (drop l.kind l.sample.values))
    ≡ l.fn.rows ++ flat_map (value_rows l.series l.survey l.sample) (zip l.survey.sample_types l.sample.values)
