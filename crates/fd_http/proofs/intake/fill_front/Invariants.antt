use Rattle.std.proofs.Common.{◌≡◌, ◌-◌, ◌≤◌, ℕ, max, length}
use Rattle.fd_http.specs.declared.limits.TheConstants.{LONGEST_FRONT, LONGEST_INBOX}
use Rattle.fd_http.specs.Arrivals.{IsUnfinished}
use Rattle.fd_http.specs.Intake.{FrontAt}
use Rattle.fd_http.specs.Remainders.{IfTold, Given, Paced}
use Rattle.fd_http.specs.Search.{HasSearched}
use Rattle.fd_http.proofs.intake.fill_front.Given as goal

abbrev pub invariant-loop-size : goal.invariant-loop-size
invariant-loop-size g l = record {
  told : IfTold (g.S.Source.left l.fn.source) (g.S.Source.left l.source) l.fn.inbox l.inbox (λ rest after. rest ≡ after);
  given : Given (g.S.Source.left l.fn.source) (g.S.Source.left l.source) l.fn.inbox (λ given. given ≡ l.inbox);
  alone : (n : ℕ) → FrontAt l.fn.inbox n → (l.source ≡ l.fn.source) × (l.inbox ≡ l.fn.inbox);
  paced : Paced (g.S.Source.left l.fn.source) (g.S.Source.left l.source) l.fn.inbox IsUnfinished;
  faults : g.S.Source.faults l.source ≡ g.S.Source.faults l.fn.source;
  searched : HasSearched l.inbox l.search;
  ahead : length l.inbox ≤ max (length l.fn.inbox) LONGEST_INBOX;
  short : l.search.place ≤ LONGEST_FRONT;
}

abbrev pub decreases-loop-size : goal.decreases-loop-size
decreases-loop-size g l = LONGEST_FRONT - length l.inbox
