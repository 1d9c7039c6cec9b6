use Rattle.std.proofs.Common.{◌≡◌, ◌++◌, flat_map, map}
use Rattle.std.specs.List.{range_with_len}
use Rattle.fd_gen.specs.Profile.{name, text_field}
use Rattle.fd_gen.proofs.profile.put_names.Given as goal

abbrev pub invariant-loop-function : goal.invariant-loop-function
invariant-loop-function l = l.out ≡ l.fn.out ++ flat_map text_field (map name (range_with_len 0 l.function))
