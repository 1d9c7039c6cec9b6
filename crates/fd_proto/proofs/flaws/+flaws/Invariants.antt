use Rattle.std.proofs.Common.{◌≡◌, ◌+◌, ◌*◌, drop}
use Rattle.fd_proto.specs.Shape.{first_flaw, value_flaw}
use Rattle.fd_proto.specs.MessageShapes.{shape_of, depth}
use Rattle.fd_proto.proofs.flaws.+flaws.Given as goal

abbrev pub decreases-first_flaw : goal.decreases-first_flaw
decreases-first_flaw l = 3 * depth l.message + 1

abbrev pub decreases-flaw : goal.decreases-flaw
decreases-flaw l = 3 * depth l.message + 2

abbrev pub decreases-flaw_in : goal.decreases-flaw_in
decreases-flaw_in l = 3 * depth l.message

abbrev pub invariant-first_flaw-loop-field : goal.invariant-first_flaw-loop-field
invariant-first_flaw-loop-field l =
    first_flaw (value_flaw l.bytes (shape_of l.message)) (drop l.field-index l.list) ≡ first_flaw (value_flaw l.bytes (shape_of l.message)) l.list
