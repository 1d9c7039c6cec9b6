use Rattle.std.proofs.Common.{◌≡◌, ◌++◌, drop}
use Rattle.fd_proto.specs.Messages.{wholes}
use Rattle.fd_proto.proofs.contents.wholes.Given as goal

abbrev pub invariant-loop-field : goal.invariant-loop-field
invariant-loop-field l = l.all ++ wholes l.bytes l.number (drop l.field-index l.list) ≡ wholes l.bytes l.number l.list
