-- The runs of the one spelling, on whole lists of values.
use Rattle.std.specs.Prelude.{◌≡◌, ◌≢◌, ℕ, suc, ◌<◌, ◌≤◌, ◌⊎◌, List, [], ◌∷◌, ◌++◌, length, replicate, ◌==◌, if◌then◌else◌}
use Rattle.std.specs.List.{concat}

-- A repeated run has so many copies of one value. A packed run has groups of eight values, the last perhaps of fewer.
pub data Run : Type 0 where
  repeated : (copies value : ℕ) → Run
  packed : (groups : List (List ℕ)) → Run

-- how many of the first values are v
abbrev pub as_many : ℕ → List ℕ → ℕ
as_many v [] = 0
as_many v (x ∷ xs) = if x == v then suc (as_many v xs) else 0

-- how many equal values stand next: the maximal stretch
abbrev pub equal_next : List ℕ → ℕ
equal_next [] = 0
equal_next (v ∷ vs) = suc (as_many v vs)

-- the next eight values, or all that are left if they are fewer
abbrev pub IsGroup : List ℕ → List ℕ → Type 0
IsGroup group behind = (0 < length group) × (length group ≤ 8) × (length group < 8 → behind ≡ [])

-- Group after group is taken where no eight equal values stand next, until no value is left or eight or more equal values stand next.
abbrev pub AreTaken : List (List ℕ) → List ℕ → Type 0
AreTaken [] behind = (behind ≡ []) ⊎ (8 ≤ equal_next behind)
AreTaken (g ∷ gs) behind = IsGroup g (concat gs ++ behind) × (equal_next (g ++ (concat gs ++ behind)) < 8) × AreTaken gs behind

-- The runs of the values, from left to right. Where eight or more equal values stand next, the whole maximal stretch is one repeated run;
-- otherwise groups are taken into one packed run. No values have no runs.
abbrev pub AreRuns : List Run → List ℕ → Type 0
AreRuns [] values = values ≡ []
AreRuns (repeated n v ∷ rs) values = (behind : List ℕ) × (values ≡ replicate n v ++ behind) × (8 ≤ n) × (n ≡ equal_next values) × AreRuns rs behind
AreRuns (packed gs ∷ rs) values = (behind : List ℕ) × (values ≡ concat gs ++ behind) × (gs ≢ []) × AreTaken gs behind × AreRuns rs behind
