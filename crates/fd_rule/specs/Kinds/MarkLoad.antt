-- Load of the mark: an arriving seat may pin it. A seat that opens a scan has it as the scan's limit, and begins with seat 0.
use Rattle.std.specs.Prelude.{◌≡◌, ℕ, ◌≤◌, Bool, true, if◌then◌else◌, [], ◌∷◌, ◌++◌, length}
use Rattle.atomic_table.specs.Table.{Step}
use Rattle.fd_rule.specs.Lists.{AllUpto}
use Rattle.fd_rule.specs.Tables.{TableState, Seated, Sits, after, word}
use Rattle.fd_rule.specs.View.{View, loaded}
use Rattle.fd_rule.specs.declared.slot.SlotValue.{SlotValue}

abbrev pub with_mark : ℕ → View → View
with_mark m v = record v { seen = record v.seen { marks = v.seen.marks ++ m ∷ [] }; pinning = record v.pinning { state = loaded m v.pinning.state } }

-- .. and the scan is open
abbrev pub with_scan : ℕ → View → View
with_scan m v = record v { seen = record v.seen { marks = v.seen.marks ++ m ∷ [] }; pinning = record v.pinning { state = loaded m v.pinning.state; limit = m; next = 0 } }

abbrev pub with_load : Bool → ℕ → View → View
with_load scan m v = if scan then with_scan m v else with_mark m v

-- No mark, no synced number and no history that the seat knows is above it, nor what seat 0 has announced. With the turn held
-- it is the mark in hand.
pub record Loaded (mark : ℕ) (v : View) : Type 0 where
  pub marks : AllUpto mark v.seen.marks
  pub synceds : AllUpto mark v.seen.synceds
  pub seen : length v.seen.history ≤ mark
  pub announced : v.place.number ≡ 0 → v.seen.announced ≤ mark
  pub held : v.turn.holds ≡ true → mark ≡ v.turn.mark

abbrev pub told : {P : Type 0} → Bool → Step (SlotValue P) → Seated P → ℕ → Seated P → Type 0
told scan st m r m' = (m' ≡ (with_load scan r m.0, m.1)) × Loaded r m.0

-- the step on the table
pub record Happens {P : Type 0} (scan : Bool) (id : ℕ) (s t : TableState P) : Type 0 where
  pub view : View
  pub sits : Sits s id view
  pub becomes : t ≡ after s 1 (word s 1) s.homes id (with_load scan (word s 1) view)
