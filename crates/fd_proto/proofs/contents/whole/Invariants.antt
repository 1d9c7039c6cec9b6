use Rattle.std.proofs.Common.{◌≡◌, drop}
use Rattle.fd_proto.specs.Messages.{whole, values, last_whole}
use Rattle.fd_proto.proofs.contents.whole.Given as goal

abbrev pub invariant-loop-field : goal.invariant-loop-field
invariant-loop-field l = last_whole l.found (values l.number (drop l.field-index l.list)) ≡ whole l.number l.list
