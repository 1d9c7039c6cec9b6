-- What a reader has of the frames that it went over, and what the next frame does to it.
use Rattle.std.specs.Prelude.{◌≡◌, ℕ, ◌+◌, ◌≤◌, ◌<◌, ◌^◌, false, List, [], ◌∷◌, ◌++◌, length, All}
use Rattle.fd_kinds.specs.declared.row.Row.{Row}
use Rattle.fd_kinds.specs.Stores.{numbered_from}
use Rattle.fd_wal.specs.declared.frame_reader.Gathered.{Gathered}
use Rattle.fd_wal.specs.Frames.{Frame, payload, frame_bytes, batches_size, IsOrdered}
use Rattle.fd_wal.specs.Logs.{history_of, is_rotated, Continues}
use Rattle.fd_wal.specs.Replays.{written_in}

-- Batches of ordered rows have the next numbers.
pub record MayFollow (next number : ℕ) (batches : List (List Row)) : Type 0 where
  pub is : number ≡ next
  pub below : number + length batches ≤ 2 ^ 63
  pub some : 0 < length batches
  pub each : All IsOrdered batches

-- so many batches may have the numbers from this one on
pub record HasNumbers (next number count : ℕ) : Type 0 where
  pub is : number ≡ next
  pub some : 0 < count
  pub below : number + count ≤ 2 ^ 63

-- what was gathered of these frames
pub record Gathers (first : ℕ) (frames : List Frame) (gathered : Gathered) : Type 0 where
  pub written : written_in gathered.batches.items ≡ numbered_from first (history_of frames)
  pub following : gathered.next ≡ first + length (history_of frames)
  pub within : 0 < length (history_of frames) → gathered.next ≤ 2 ^ 63
  pub size : gathered.bytes ≡ batches_size (history_of frames)
  pub ended : gathered.rotated ≡ is_rotated frames

-- a rotation with this number may stand behind what was gathered
pub record MayEnd (gathered : Gathered) (hi : ℕ) : Type 0 where
  pub unended : gathered.rotated ≡ false
  pub some : 0 < length gathered.batches.items
  pub greatest : hi + 1 ≡ gathered.next

-- a payload is that of a frame that may stand behind these, with which this is gathered
pub record AddsFrame (first : ℕ) (frames : List Frame) (bytes : List ℕ) (gathered : Gathered) : Type 0 where
  pub frame : Frame
  pub spelled : bytes ≡ payload frame
  pub right : Continues first frames frame
  pub gathers : Gathers first (frames ++ frame ∷ []) gathered

abbrev pub AddsPayload : List ℕ → Gathered → Gathered → Type 0
AddsPayload bytes old new = (first : ℕ) (frames : List Frame) → Gathers first frames old → AddsFrame first frames bytes new

-- no frame with this payload may stand behind what was gathered
abbrev pub RefusesPayload : List ℕ → Gathered → Type 0
RefusesPayload bytes old = (first : ℕ) (frames : List Frame) → Gathers first frames old → (frame : Frame) → bytes ≡ payload frame → Continues first frames frame → ⊥

-- a frame that may stand there, and the bytes behind it
pub record Passes (first : ℕ) (frames : List Frame) (bytes rest : List ℕ) (gathered : Gathered) : Type 0 where
  pub frame : Frame
  pub spelled : bytes ≡ frame_bytes frame ++ rest
  pub gated : 0 < length rest
  pub right : Continues first frames frame
  pub gathers : Gathers first (frames ++ frame ∷ []) gathered

abbrev pub PassesFrame : List ℕ → List ℕ → Gathered → Gathered → Type 0
PassesFrame bytes rest old new = (first : ℕ) (frames : List Frame) → Gathers first frames old → Passes first frames bytes rest new

-- no frame with a byte behind it may stand there
abbrev pub RefusesFrame : List ℕ → Gathered → Type 0
RefusesFrame bytes old = (first : ℕ) (frames : List Frame) → Gathers first frames old
    → (frame : Frame) (rest : List ℕ) → bytes ≡ frame_bytes frame ++ rest → 0 < length rest → Continues first frames frame → ⊥
