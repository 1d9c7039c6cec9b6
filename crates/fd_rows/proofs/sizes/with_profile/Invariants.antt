use Rattle.std.proofs.Common.{◌≡◌, ◌≤◌, ◌-◌, ◌^◌, drop}
use Rattle.std.specs.List.{flat_map}
use Rattle.fd_rows.specs.Rows.{sample_rows}
use Rattle.fd_rows.specs.Sizes.{with_rows}
use Rattle.fd_rows.proofs.sizes.with_profile.Given as goal

abbrev pub invariant-loop-at : goal.invariant-loop-at
invariant-loop-at l = record {
  fits : l.more ≤ 2 ^ 64 - 1;
  bytes : with_rows l.more (flat_map (sample_rows l.of.series l.survey) (drop l.at l.survey.samples)) ≡ with_rows l.fn.size (flat_map (sample_rows l.of.series l.survey) l.survey.samples);
}
