use Rattle.fd_rule.proofs.EventLaws.{event_keeps, events_keep}
use Rattle.fd_rule.specs.Events.{opening_of}
use Rattle.fd_rule.proofs.laws.event_laws.Goals as goal

pub returns-clause-event : goal.returns-clause-event
returns-clause-event g c start seats id event s t r h = event_keeps _ _ start seats (record { book = c.straggler_laws.ensures.book; batch = c.straggler_laws.ensures.batch; others = c.straggler_laws.ensures.others; history = c.straggler_laws.ensures.history }) id event s t r h

pub returns-clause-events : goal.returns-clause-events
returns-clause-events g c start synced seats events t may h = events_keep _ _ start seats (record { book = c.straggler_laws.ensures.book; batch = c.straggler_laws.ensures.batch; others = c.straggler_laws.ensures.others; history = c.straggler_laws.ensures.history }) events (opening_of start synced seats) t (c.opening_laws.ensures.opening start synced seats may) h
