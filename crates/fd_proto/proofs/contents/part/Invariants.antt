use Rattle.std.proofs.Common.{◌≡◌, ◌++◌, drop}
use Rattle.fd_proto.specs.Messages.{part}
use Rattle.fd_proto.proofs.contents.part.Given as goal

abbrev pub invariant-loop-field : goal.invariant-loop-field
invariant-loop-field l = l.all ++ part l.bytes l.number (drop l.field-index l.list) ≡ part l.bytes l.number l.list
