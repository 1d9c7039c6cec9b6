use Rattle.std.proofs.Common.{◌≡◌, ◌≤◌, ◌-◌, ◌^◌, drop, Some}
use Rattle.std.specs.Prelude.{slice_get}
use Rattle.std.specs.List.{flat_map, zip}
use Rattle.fd_pprof.specs.declared.profile.Sample.{Sample}
use Rattle.fd_rows.specs.Rows.{value_rows}
use Rattle.fd_rows.specs.Sizes.{with_rows}
use Rattle.fd_rows.proofs.sizes.with_sample.Given as goal

abbrev pub invariant-loop-kind : goal.invariant-loop-kind
invariant-loop-kind l = record {
  fits : l.more ≤ 2 ^ 64 - 1;
  bytes : (s : Sample) → slice_get l.survey.samples l.fn.at ≡ Some s
      → with_rows l.more (flat_map (value_rows l.of.series l.survey s) (zip (drop l.kind l.survey.sample_types) (drop l.kind s.values)))
      ≡ with_rows l.fn.size (flat_map (value_rows l.of.series l.survey s) (zip l.survey.sample_types s.values));
}
