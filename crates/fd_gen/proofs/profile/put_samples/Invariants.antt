use Rattle.std.proofs.Common.{◌≡◌, ◌++◌, flat_map, take}
use Rattle.fd_gen.specs.Profile.{sample_field}
use Rattle.fd_gen.proofs.profile.put_samples.Given as goal

abbrev pub invariant-loop-sample : goal.invariant-loop-sample
invariant-loop-sample l = l.out ≡ l.fn.out ++ flat_map sample_field (take l.sample-index l.samples)
