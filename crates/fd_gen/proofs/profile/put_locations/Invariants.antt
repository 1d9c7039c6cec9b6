use Rattle.std.proofs.Common.{◌≡◌, ◌++◌, flat_map}
use Rattle.std.specs.List.{range_with_len}
use Rattle.fd_gen.specs.Profile.{location_field}
use Rattle.fd_gen.proofs.profile.put_locations.Given as goal

abbrev pub invariant-loop-function : goal.invariant-loop-function
invariant-loop-function l = l.out ≡ l.fn.out ++ flat_map location_field (range_with_len 0 l.function)
