use Rattle.std.proofs.Common.{◌≡◌, ◌++◌, flat_map, take}
use Rattle.fd_gen.specs.Profile.{location_id}
use Rattle.fd_gen.proofs.profile.put_stack.Given as goal

abbrev pub invariant-loop-function : goal.invariant-loop-function
invariant-loop-function l = l.out ≡ l.fn.out ++ flat_map location_id (take l.function-index l.functions)
