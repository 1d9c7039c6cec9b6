use Rattle.std.proofs.Common.{◌≡◌, ◌++◌, drop}
use Rattle.fd_proto.specs.Messages.{spans}
use Rattle.fd_proto.proofs.contents.spans.Given as goal

abbrev pub invariant-loop-field : goal.invariant-loop-field
invariant-loop-field l = l.all ++ spans l.number (drop l.field-index l.list) ≡ spans l.number l.list
