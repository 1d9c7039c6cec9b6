-- Writing run after run.
use Rattle.std.specs.Prelude.{◌≡◌, ℕ, zero, suc, ◌*◌, ◌<◌, List, [], ◌∷◌, ◌++◌, length, take, drop, nat_le, if◌then◌else◌}
use Rattle.std.specs.List.{flat_map}
use Rattle.fd_hybrid.specs.Runs.{Run, equal_next, AreRuns}
use Rattle.fd_hybrid.specs.Format.{group_bytes, IsRun}

-- so many groups of eight values from the front of the list
abbrev pub eights : ℕ → List ℕ → List (List ℕ)
eights zero values = []
eights (suc n) values = take 8 values ∷ eights n (drop 8 values)

-- how many groups are taken before no value is left or eight equal values stand next, at most so many
unfoldable pub group_count : ℕ → List ℕ → ℕ
group_count most [] = 0
group_count zero (v ∷ vs) = 0
group_count (suc most) (v ∷ vs) = if nat_le 8 (equal_next (v ∷ vs)) then 0 else suc (group_count most (drop 8 (v ∷ vs)))

-- the groups are written, and the other values are left
abbrev pub PutsGroups : ℕ → ℕ → List ℕ → List ℕ → List ℕ → List ℕ → Type 0
PutsGroups w groups old new values rest = (new ≡ old ++ flat_map (group_bytes w) (eights groups values)) × (rest ≡ drop (8 * groups) values)

-- The first run of the values is written, and the others go on from what is left.
pub record PutsRun (w : ℕ) (old new values rest : List ℕ) : Type 0 where
  pub run : Run
  pub front : List ℕ
  pub is : IsRun w front run
  pub written : new ≡ old ++ front
  pub goes : (runs : List Run) → AreRuns runs rest → AreRuns (run ∷ runs) values
  pub shorter : length rest < length values
