use Rattle.std.proofs.Common.{◌≡◌, ◌++◌, take}
use Rattle.fd_proto.proofs.contents.append_fields.Given as goal

abbrev pub invariant-loop-field : goal.invariant-loop-field
invariant-loop-field l = l.all ≡ l.fn.all ++ take l.field-index l.more
