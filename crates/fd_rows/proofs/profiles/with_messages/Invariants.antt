use Rattle.std.proofs.Common.{◌≡◌, ◌++◌, drop}
use Rattle.std.specs.List.{flat_map}
use Rattle.fd_rows.specs.Rows.{message_rows}
use Rattle.fd_rows.specs.Body.{messages_refusal}
use Rattle.fd_rows.proofs.profiles.with_messages.Given as goal

abbrev pub invariant-loop-i : goal.invariant-loop-i
invariant-loop-i l = record {
  rows : l.more.rows ++ flat_map (message_rows l.of.series) (drop l.i l.messages) ≡ l.fn.rows.rows ++ flat_map (message_rows l.of.series) l.messages;
  rest : messages_refusal l.at l.of.series l.i l.more.rows (drop l.i l.messages) ≡ messages_refusal l.at l.of.series 0 l.fn.rows.rows l.messages;
}
