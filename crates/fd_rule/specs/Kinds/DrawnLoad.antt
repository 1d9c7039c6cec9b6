-- Load of the greatest number drawn: where it is below `MOST_NUMBERS`, the seat is cleared to draw.
use Rattle.std.specs.Prelude.{◌≡◌, ℕ, ◌+◌, [], ◌∷◌, ◌++◌}
use Rattle.std.proofs.Math.Dec.{ltb}
use Rattle.atomic_table.specs.Table.{Step}
use Rattle.fd_kinds.specs.declared.limits.TheConstants.{MOST_NUMBERS}
use Rattle.fd_rule.specs.Lists.{AllUpto, Tops}
use Rattle.fd_rule.specs.Tables.{TableState, Seated, Sits, after, word}
use Rattle.fd_rule.specs.View.{View}
use Rattle.fd_rule.specs.declared.slot.SlotValue.{SlotValue}

abbrev pub with_drawn : ℕ → View → View
with_drawn n v = record v { seen = record v.seen { drawns = v.seen.drawns ++ n ∷ [] }; draws = record v.draws { cleared = ltb n MOST_NUMBERS } }

-- No mark and no drawn number that the seat has loaded is above it, and none that it drew.
pub record LoadedDrawn (drawn : ℕ) (v : View) : Type 0 where
  pub marks : AllUpto drawn v.seen.marks
  pub drawns : AllUpto drawn v.seen.drawns
  pub own : Tops (drawn + 1) v.draws.own

abbrev pub told : {P : Type 0} → Step (SlotValue P) → Seated P → ℕ → Seated P → Type 0
told st m r m' = (m' ≡ (with_drawn r m.0, m.1)) × LoadedDrawn r m.0

-- the step on the table
pub record Happens {P : Type 0} (id : ℕ) (s t : TableState P) : Type 0 where
  pub view : View
  pub sits : Sits s id view
  pub becomes : t ≡ after s 0 (word s 0) s.homes id (with_drawn (word s 0) view)
