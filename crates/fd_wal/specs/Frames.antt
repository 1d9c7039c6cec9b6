-- The frames of a log and their bytes. Whole numbers stand with their lowest byte first.
use Rattle.std.specs.Prelude.{ℕ, ℤ, List, [], ◌∷◌, ◌++◌, length, flat_map, sum_by, All, IsUtf8, IsSorted, FitsSigned}
use Rattle.std.specs.Int.{w64, to_le_bytes}
use Rattle.sha2.specs.Sha256.{sha256}
use Rattle.fd_kinds.specs.declared.pair.Pair.{Pair}
use Rattle.fd_kinds.specs.declared.row.Row.{Row}
use Rattle.fd_kinds.specs.RowOrder.{row_cmp}
use Rattle.fd_kinds.specs.RowSize.{row_size}
use Rattle.fd_kinds.specs.RowSpelling.{count_bytes, row_spelling}
use Rattle.fd_kinds.specs.History.{IsSmall}

-- batches with consecutive numbers, from a first one on, or the end of the log, with the greatest number so far
pub data Frame : Type 0 where
  Transactions : (first : ℕ) → (batches : List (List Row)) → Frame
  Rotation : (hi : ℕ) → Frame

-- one batch: how many rows it has, and the rows
abbrev pub batch_spelling : List Row → List ℕ
batch_spelling rows = count_bytes (length rows) ++ flat_map row_spelling rows

-- the version, the kind, and what the frame tells
abbrev pub payload : Frame → List ℕ
payload (Transactions first batches) = 1 ∷ 1 ∷ (to_le_bytes w64 first ++ (count_bytes (length batches) ++ flat_map batch_spelling batches))
payload (Rotation hi) = 1 ∷ 2 ∷ to_le_bytes w64 hi

-- the length of a payload, its SHA-256 (FIPS 180-4), and the payload
abbrev pub framed : List ℕ → List ℕ
framed bytes = count_bytes (length bytes) ++ (sha256 bytes ++ bytes)

-- a frame without the gate before it
abbrev pub frame_bytes : Frame → List ℕ
frame_bytes frame = framed (payload frame)

-- frames, each behind an open gate, and the rest
abbrev pub log_bytes : List Frame → List ℕ → List ℕ
log_bytes [] rest = rest
log_bytes (frame ∷ frames) rest = 1 ∷ (frame_bytes frame ++ log_bytes frames rest)

-- a number of 64 bits with a sign
abbrev pub IsWhole : ℤ → Type 0
IsWhole n = FitsSigned w64 n

pub record IsTextPair (pair : Pair) : Type 0 where
  pub name : IsUtf8 pair.name
  pub value : IsUtf8 pair.value

-- the texts of a row are UTF-8, and its numbers have 64 bits
pub record IsRow (row : Row) : Type 0 where
  pub name : IsUtf8 row.name
  pub sample_type : IsUtf8 row.sample_type
  pub sample_unit : IsUtf8 row.sample_unit
  pub period_type : IsUtf8 row.period_type
  pub period_unit : IsUtf8 row.period_unit
  pub labels : All IsTextPair row.labels.pairs
  pub timestamp : IsWhole row.timestamp
  pub stack : All IsUtf8 row.stack
  pub pprof_labels : All IsTextPair row.pprof_labels.pairs
  pub period : IsWhole row.period
  pub duration : IsWhole row.duration
  pub value : IsWhole row.value

-- rows in the row order, of no more bytes than a batch may have
pub record IsOrdered (rows : List Row) : Type 0 where
  pub sorted : IsSorted row_cmp rows
  pub small : IsSmall rows

pub record IsBatch (rows : List Row) : Type 0 where
  pub each : All IsRow rows
  pub ordered : IsOrdered rows

-- the bytes of rows, and of the rows of batches
abbrev pub rows_size : List Row → ℕ
rows_size rows = sum_by row_size rows

abbrev pub batches_size : List (List Row) → ℕ
batches_size batches = sum_by rows_size batches
