-- Numbers and their digits in base 2 ^ w, the lowest digit first: w bits each.
use Rattle.std.specs.Prelude.{ℕ, zero, suc, ◌+◌, ◌*◌, ◌/◌, ◌%◌, ◌^◌, List, [], ◌∷◌, drop}

-- the number with these digits
unfoldable pub number : ℕ → List ℕ → ℕ
number w [] = 0
number w (d ∷ ds) = d + 2 ^ w * number w ds

-- the lowest k digits of a number
unfoldable pub digits : ℕ → ℕ → ℕ → List ℕ
digits w zero n = []
digits w (suc k) n = n % 2 ^ w ∷ digits w k (n / 2 ^ w)

-- The number of the bits that are held and of the digits from the place `at` on.
abbrev pub ahead : ℕ → List ℕ → ℕ → ℕ → ℕ → ℕ
ahead w ds at held count = held + 2 ^ count * number w (drop at ds)
