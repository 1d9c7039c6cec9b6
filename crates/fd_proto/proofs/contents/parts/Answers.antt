use Rattle.std.proofs.Common.{length, arith}
use Rattle.std.specs.Prelude.{All}
use Rattle.std.proofs.lemmas.Grind.{common_steps}
use Rattle.std.proofs.lemmas.List.Elements.{All-push}
use Rattle.fd_wire.specs.Fields.{IsWithin}
use Rattle.fd_proto.proofs.contents.parts.Goals as goal
use Rattle.fd_proto.proofs.contents.parts.Goals.{in-Span+in_ok-message_between-in-Span+in_ok-push-in-Span, in-Span+else-field-number, in-Varint-1}

pub loop-field-preserved : goal.loop-field-preserved
loop-field-preserved c =
    let Q = All (IsWithin (length c.args.bytes.now)) in
    elim c.match-field.branch [
      | in-Span+in_ok-message_between-in-Span+in_ok-push-in-Span w ↦ record {
        so_far = grind (arith, common_steps);
        within = rw (w.all-is, w.in_ok-push-in-Span.ensures.ok) (All-push Q _ _ c.loop-field.invariant.within w.in_ok-message_between-in-Span.ensures.within);
      }
      | in-Span+else-field-number w ↦ record { so_far = grind (arith, common_steps); within = rw w.all-is c.loop-field.invariant.within }
      | in-Varint-1 w ↦ record { so_far = grind (arith, common_steps); within = rw w.all-is c.loop-field.invariant.within }
    ]
