use Rattle.std.proofs.Common.{◌≡◌, ◌∷◌}
use Rattle.fd_rule.specs.Tables.{empties}
use Rattle.fd_rule.specs.declared.slot.SlotValue.TheVariants.{Home}
use Rattle.fd_rule.proofs.opening.opening_slots.Given as goal

abbrev pub invariant-loop-at : goal.invariant-loop-at
invariant-loop-at g l = l.slots.items ≡ Home l.fn.shelf ∷ empties l.at
