use Rattle.fd_rule.proofs.EventLaws.{opening_keeps}
use Rattle.fd_rule.proofs.laws.opening_laws.Goals as goal

pub returns : goal.returns
returns g c = record { opening = λ start synced seats may. opening_keeps _ _ start seats (record { bounded = c.book_laws.ensures.bounded; count = c.book_laws.ensures.count; held = c.book_laws.ensures.held; only = c.book_laws.ensures.only }) synced may }
