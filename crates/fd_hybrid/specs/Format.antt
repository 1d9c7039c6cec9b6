-- The bytes of runs (Apache Parquet, Encodings.md, "Run Length Encoding / Bit-Packing Hybrid").
use Rattle.std.specs.Prelude.{◌≡◌, ℕ, ◌+◌, ◌*◌, ◌/◌, ◌^◌, ◌<◌, ◌≤◌, List, [], ◌∷◌, ◌++◌, length, All}
use Rattle.std.specs.List.{flat_map}
use Rattle.fd_hybrid.specs.Digits.{number, digits}
use Rattle.fd_hybrid.specs.Runs.{Run, repeated, packed, AreRuns}

-- ULEB128 in the least number of bytes: groups of seven bits, the lowest first; every byte but the last has its top bit set, and what stands
-- behind such a byte is not 0.
abbrev pub IsVarint : List ℕ → ℕ → Type 0
IsVarint [] n = ⊥
IsVarint (b ∷ []) n = (b < 128) × (n ≡ b)
IsVarint (b ∷ c ∷ bs) n = (128 ≤ b) × (b < 256) × (high : ℕ) × (0 < high) × (n + 128 ≡ b + 128 * high) × IsVarint (c ∷ bs) high

-- new is old with the bytes of the number behind it
abbrev pub AddsVarint : List ℕ → List ℕ → ℕ → Type 0
AddsVarint old new n = (header : List ℕ) × IsVarint header n × (new ≡ old ++ header)

-- the least number of whole bytes that hold w bits
abbrev pub byte_count : ℕ → ℕ
byte_count w = (w + 7) / 8

-- The values of a group, w bits each, from the lowest bit of the first byte upwards: w bytes. What is not there counts as 0.
abbrev pub group_bytes : ℕ → List ℕ → List ℕ
group_bytes w group = digits 8 w (number w group)

-- A header, and a value from its lowest byte upwards, or the groups. The header's low bit tells which; above it stands the number of copies or of groups.
abbrev pub IsRun : ℕ → List ℕ → Run → Type 0
IsRun w bytes (repeated n v) = (header : List ℕ) × IsVarint header (2 * n) × (bytes ≡ header ++ digits 8 (byte_count w) v)
IsRun w bytes (packed gs) = (header : List ℕ) × IsVarint header (2 * length gs + 1) × (bytes ≡ header ++ flat_map (group_bytes w) gs)

-- one run after another
abbrev pub AreSpelled : ℕ → List Run → List ℕ → Type 0
AreSpelled w [] bytes = bytes ≡ []
AreSpelled w (r ∷ rs) bytes = (front : List ℕ) × (rest : List ℕ) × (bytes ≡ front ++ rest) × IsRun w front r × AreSpelled w rs rest

-- the bytes are the one spelling of the values, w bits each
abbrev pub IsSpelling : ℕ → List ℕ → List ℕ → Type 0
IsSpelling w values bytes = (runs : List Run) × AreRuns runs values × AreSpelled w runs bytes

-- each value fits w bits
abbrev pub Fit : ℕ → List ℕ → Type 0
Fit w values = All (λ v. v < 2 ^ w) values
