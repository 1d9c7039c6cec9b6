use Rattle.std.proofs.Common.{◌≡◌, ◌++◌, ℕ, ◌<◌, ◌^◌, ◌*◌}
use Rattle.fd_gen.specs.Fields.{varint, varint_within}
use Rattle.fd_gen.proofs.fields.put_varint.Given as goal

-- what is left needs at most so many bytes before the last
abbrev pub invariant-loop-rest : goal.invariant-loop-rest
invariant-loop-rest l = (most : ℕ) × (l.rest < 2 * 128 ^ most) × (l.out ++ varint_within most l.rest ≡ l.fn.out ++ varint l.number)

abbrev pub decreases-loop-rest : goal.decreases-loop-rest
decreases-loop-rest l = l.rest
