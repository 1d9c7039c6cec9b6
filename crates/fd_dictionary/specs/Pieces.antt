-- Pieces of bytes in one buffer, by the places of their ends.
use Rattle.std.specs.Prelude.{◌≡◌, ℕ, ◌-◌, ◌<◌, ◌≤◌, ◌==◌, if◌then◌else◌, List, map, length, slice_index, slice_range}
use Rattle.std.specs.List.{range_with_len}

-- a piece starts where the one before it ends, and the first at 0
abbrev pub start_of : List ℕ → ℕ → ℕ
start_of ends at = if at == 0 then 0 else slice_index ends (at - 1)

abbrev pub piece_at : List ℕ → List ℕ → ℕ → List ℕ
piece_at bytes ends at = slice_range bytes (start_of ends at) (slice_index ends at)

abbrev pub pieces_of : List ℕ → List ℕ → List (List ℕ)
pieces_of bytes ends = map (piece_at bytes ends) (range_with_len 0 (length ends))

-- no piece ends before it starts, and the last ends where the bytes end
pub record AreCut (bytes ends : List ℕ) : Type 0 where
  pub rising : (at : ℕ) → at < length ends → start_of ends at ≤ slice_index ends at
  pub inside : (at : ℕ) → at < length ends → slice_index ends at ≤ length bytes
  pub whole : start_of ends (length ends) ≡ length bytes
