use Rattle.std.proofs.Common.{◌≡◌, ◌++◌, drop, length}
use Rattle.std.specs.Prelude.{All}
use Rattle.fd_wire.specs.Fields.{IsWithin}
use Rattle.fd_proto.specs.Messages.{parts}
use Rattle.fd_proto.proofs.contents.parts.Given as goal

abbrev pub invariant-loop-field : goal.invariant-loop-field
invariant-loop-field l = record {
  so_far : l.all ++ parts l.bytes l.number (drop l.field-index l.list) ≡ parts l.bytes l.number l.list;
  within : All (All (IsWithin (length l.bytes))) l.all;
}
