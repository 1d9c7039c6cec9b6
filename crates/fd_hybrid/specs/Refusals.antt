-- What bytes are that should spell `count` values of w bits: a spelling, cut, too wide, or none of these. No two hold of the same bytes (`one_reading`).
use Rattle.std.specs.Prelude.{◌≡◌, ◌≢◌, ℕ, ◌*◌, ◌^◌, ◌<◌, ◌≤◌, List, [], ◌++◌, length, Result, Err}
use Rattle.fd_hybrid.specs.declared.fault.HybridFault.{HybridFault}
use Rattle.fd_hybrid.specs.declared.fault.HybridFault.TheVariants.{NoMemory}
use Rattle.fd_hybrid.specs.Digits.{digits}
use Rattle.fd_hybrid.specs.Runs.{Run, AreRuns}
use Rattle.fd_hybrid.specs.Format.{IsVarint, byte_count, AreSpelled, IsSpelling, Fit}

-- `count` values of w bits
abbrev pub AreValues : ℕ → ℕ → List ℕ → Type 0
AreValues w count values = (length values ≡ count) × Fit w values

-- the bytes are the spelling of these `count` values
abbrev pub Spells : ℕ → ℕ → List ℕ → List ℕ → Type 0
Spells w count bytes values = AreValues w count values × IsSpelling w values bytes

-- The bytes begin the spelling of some `count` values, and are not all of it.
abbrev pub IsCut : ℕ → ℕ → List ℕ → Type 0
IsCut w count bytes = (values : List ℕ) × (more : List ℕ) × (more ≢ []) × Spells w count (bytes ++ more) values

-- a whole repeated run, of however many copies, whose value has more than w bits
abbrev pub IsTooWide : ℕ → List ℕ → Type 0
IsTooWide w run = (header : List ℕ) × (copies : ℕ) × (value : ℕ) × IsVarint header (2 * copies) × (2 ^ w ≤ value) × (value < 2 ^ (8 * byte_count w))
    × (run ≡ header ++ digits 8 (byte_count w) value)

-- The bytes begin with the first runs of the spelling of some `count` values (none of the runs, some or all), each of them whole, and then
-- stands a whole repeated run whose value is too wide, whatever follows. Such bytes begin no spelling: so where this holds, `IsCut` doesn't.
abbrev pub IsOverWidth : ℕ → ℕ → List ℕ → Type 0
IsOverWidth w count bytes = (values : List ℕ) × AreValues w count values
    × (first : List Run) × (later : List Run) × AreRuns (first ++ later) values
    × (front : List ℕ) × (run : List ℕ) × (more : List ℕ) × AreSpelled w first front × IsTooWide w run × (bytes ≡ front ++ (run ++ more))

-- none of these
abbrev pub IsBad : ℕ → ℕ → List ℕ → Type 0
IsBad w count bytes = ((values : List ℕ) → ¬ Spells w count bytes values) × (¬ IsCut w count bytes) × (¬ IsOverWidth w count bytes)

-- What a call that takes memory answers: this, unless memory ran out.
abbrev pub Gives : {A : Type 0} → Result A HybridFault → Result A HybridFault → Type 0
Gives (Err NoMemory) expected = Unit {0}
Gives answer expected = answer ≡ expected
