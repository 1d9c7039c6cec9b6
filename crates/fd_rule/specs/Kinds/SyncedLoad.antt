-- Load of the greatest number reported synced.
use Rattle.std.specs.Prelude.{◌≡◌, ℕ, [], ◌∷◌, ◌++◌}
use Rattle.atomic_table.specs.Table.{Step}
use Rattle.fd_rule.specs.Lists.{AllUpto}
use Rattle.fd_rule.specs.Tables.{TableState, Seated, Sits, after, word}
use Rattle.fd_rule.specs.View.{View}
use Rattle.fd_rule.specs.declared.slot.SlotValue.{SlotValue}

abbrev pub with_synced : ℕ → View → View
with_synced n v = record v { seen = record v.seen { synceds = v.seen.synceds ++ n ∷ [] } }

-- No synced number that the seat has loaded is above it. To seat 0 it is what the seat has announced.
pub record LoadedSynced (synced : ℕ) (v : View) : Type 0 where
  pub synceds : AllUpto synced v.seen.synceds
  pub announced : v.place.number ≡ 0 → synced ≡ v.seen.announced

abbrev pub told : {P : Type 0} → Step (SlotValue P) → Seated P → ℕ → Seated P → Type 0
told st m r m' = (m' ≡ (with_synced r m.0, m.1)) × LoadedSynced r m.0

-- the step on the table
pub record Happens {P : Type 0} (id : ℕ) (s t : TableState P) : Type 0 where
  pub view : View
  pub sits : Sits s id view
  pub becomes : t ≡ after s 3 (word s 3) s.homes id (with_synced (word s 3) view)
