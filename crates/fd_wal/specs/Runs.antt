-- Numbered batches, and how many of them share a frame.
use Rattle.std.specs.Prelude.{◌≡◌, ℕ, ◌+◌, ◌≤◌, ◌<◌, List, [], ◌∷◌, ◌++◌, length, take, map, flat_map}
use Rattle.std.specs.Int.{w64, to_le_bytes}
use Rattle.fd_kinds.specs.declared.row.Row.{Row}
use Rattle.fd_kinds.specs.declared.batch.NumberedBatch.{NumberedBatch}
use Rattle.fd_kinds.specs.History.{IsSmall}
use Rattle.fd_kinds.specs.declared.limits.TheConstants.{MOST_BATCH_BYTES}
use Rattle.fd_kinds.specs.RowSpelling.{count_bytes}
use Rattle.fd_wal.specs.declared.limits.TheConstants.{MOST_PAYLOAD_BYTES}
use Rattle.fd_wal.specs.Frames.{Frame, Transactions}

-- the rows of batches, without the numbers
abbrev pub rows_in : List NumberedBatch → List (List Row)
rows_in batches = map (λ b. b.batch.rows) batches

-- the batches have the numbers from the first on
abbrev pub AreNumberedFrom : ℕ → List NumberedBatch → Type 0
AreNumberedFrom first [] = Unit {0}
AreNumberedFrom first (b ∷ batches) = (b.number ≡ first) × AreNumberedFrom (first + 1) batches

abbrev pub first_number : List NumberedBatch → ℕ
first_number [] = 0
first_number (b ∷ batches) = b.number

abbrev pub AreConsecutive : List NumberedBatch → Type 0
AreConsecutive batches = AreNumberedFrom (first_number batches) batches

-- a batch has no more bytes than it may have
abbrev pub IsSmallBatch : NumberedBatch → Type 0
IsSmallBatch b = IsSmall b.batch.rows

-- the frame of consecutive batches
abbrev pub frame_of : List NumberedBatch → Frame
frame_of batches = Transactions (first_number batches) (rows_in batches)

-- as many bytes as a batch has in a frame
abbrev pub IsSpelling : List ℕ → Type 0
IsSpelling bytes = (4 ≤ length bytes) × (length bytes ≤ MOST_BATCH_BYTES + 4)

-- what stands before the batches in a payload
abbrev pub transactions_head : ℕ → ℕ → List ℕ
transactions_head first count = 1 ∷ 1 ∷ (to_le_bytes w64 first ++ count_bytes count)

-- a payload whose batches are spelled so
abbrev pub spelled_payload : ℕ → List (List ℕ) → List ℕ
spelled_payload first spellings = transactions_head first (length spellings) ++ flat_map (λ spelling. spelling) spellings

-- The first `count` of these spellings are as many as a payload may have.
pub record IsLongestRun (spellings : List (List ℕ)) (count : ℕ) : Type 0 where
  pub some : 0 < count
  pub within : count ≤ length spellings
  pub fits : length (spelled_payload 0 (take count spellings)) ≤ MOST_PAYLOAD_BYTES
  pub longest : count < length spellings → MOST_PAYLOAD_BYTES < length (spelled_payload 0 (take (count + 1) spellings))
