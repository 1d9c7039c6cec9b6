use Rattle.std.proofs.Common.{◌≡◌, ◌-◌, ◌<◌, ◌≤◌, ◌++◌, [], length}
use Rattle.fd_http.specs.Remainders.{IfTold, Given, Paced}
use Rattle.fd_http.proofs.intake.read_body.Given as goal

abbrev pub invariant-loop-room : goal.invariant-loop-room
invariant-loop-room g l = record {
  told : IfTold (g.S.Source.left l.fn.source) (g.S.Source.left l.source) l.fn.inbox l.inbox (λ rest after. rest ≡ l.body.items ++ after);
  given : Given (g.S.Source.left l.fn.source) (g.S.Source.left l.source) l.fn.inbox (λ given. given ≡ l.body.items ++ l.inbox);
  alone : l.fn.size ≤ length l.fn.inbox → (length l.body.items ≡ l.fn.size) × (l.source ≡ l.fn.source);
  paced : Paced (g.S.Source.left l.fn.source) (g.S.Source.left l.source) l.fn.inbox (λ given. length given < l.fn.size);
  within : length l.body.items ≤ l.fn.size;
  used : length l.body.items < l.fn.size → l.inbox ≡ [];
  ahead : length l.inbox ≤ length l.fn.inbox;
  faults : g.S.Source.faults l.source ≡ g.S.Source.faults l.fn.source;
}

abbrev pub decreases-loop-room : goal.decreases-loop-room
decreases-loop-room g l = l.fn.size - length l.body.items
