-- Which bytes are a log, and where others are damaged.
use Rattle.std.specs.Prelude.{◌≡◌, ◌≢◌, ℕ, ◌+◌, ◌≤◌, ◌<◌, ◌^◌, Bool, true, false, List, [], ◌∷◌, ◌++◌, length, All}
use Rattle.fd_kinds.specs.declared.row.Row.{Row}
use Rattle.fd_wal.specs.declared.limits.TheConstants.{MOST_LOG_BYTES}
use Rattle.fd_wal.specs.Frames.{Frame, Transactions, Rotation, payload, log_bytes, IsBatch, batches_size}

-- the batches of frames, in order
abbrev pub history_of : List Frame → List (List Row)
history_of [] = []
history_of (Transactions first batches ∷ frames) = batches ++ history_of frames
history_of (Rotation hi ∷ frames) = history_of frames

-- a rotation is among the frames
abbrev pub is_rotated : List Frame → Bool
is_rotated [] = false
is_rotated (Transactions first batches ∷ frames) = is_rotated frames
is_rotated (Rotation hi ∷ frames) = true

-- Batches from the number `number` on are a frame by itself: there are some, none has more bytes than a batch may have,
-- and numbers, count and length stay within their bytes.
pub record AreTransactions (number : ℕ) (batches : List (List Row)) : Type 0 where
  pub below : number + length batches ≤ 2 ^ 63
  pub some : 0 < length batches
  pub few : length batches < 2 ^ 32
  pub each : All IsBatch batches
  pub short : length (payload (Transactions number batches)) < 2 ^ 32

-- They stand behind the frames before: they have the next numbers of the log, and its rows have no more bytes than those
-- of a log may have.
pub record GoOn (first : ℕ) (before : List Frame) (number : ℕ) (batches : List (List Row)) : Type 0 where
  pub unended : is_rotated before ≡ false
  pub next : number ≡ first + length (history_of before)
  pub fits : batches_size (history_of before ++ batches) ≤ MOST_LOG_BYTES
  pub transactions : AreTransactions number batches

-- the end of a log that has batches, with the greatest number so far
pub record EndsAt (first : ℕ) (before : List Frame) (hi : ℕ) : Type 0 where
  pub unended : is_rotated before ≡ false
  pub some : 0 < length (history_of before)
  pub next : hi + 1 ≡ first + length (history_of before)
  pub below : hi < 2 ^ 63

-- a frame may stand behind the frames before it
abbrev pub Continues : ℕ → List Frame → Frame → Type 0
Continues first before (Transactions number batches) = GoOn first before number batches
Continues first before (Rotation hi) = EndsAt first before hi

-- each frame may stand behind those before it
abbrev pub FollowOn : ℕ → List Frame → List Frame → Type 0
FollowOn first before [] = Unit {0}
FollowOn first before (frame ∷ frames) = Continues first before frame × FollowOn first (before ++ frame ∷ []) frames

-- the frames of one log, whose numbers begin with the first
abbrev pub AreFrames : ℕ → List Frame → Type 0
AreFrames first frames = FollowOn first [] frames

-- A gate is open where its byte is 1 and is not the last one.
abbrev pub IsOpen : List ℕ → Type 0
IsOpen [] = ⊥
IsOpen (gate ∷ []) = ⊥
IsOpen (gate ∷ next ∷ more) = gate ≡ 1

abbrev pub IsClosed : List ℕ → Type 0
IsClosed [] = Unit {0}
IsClosed (gate ∷ []) = Unit {0}
IsClosed (gate ∷ next ∷ more) = gate ≢ 1

-- The bytes are these frames and a closed gate at the place `gate`; what follows it is no part of the log. Without a
-- frame there may be no byte at all.
pub record IsLog (bytes : List ℕ) (first : ℕ) (frames : List Frame) (gate : ℕ) : Type 0 where
  pub rest : List ℕ
  pub spelled : bytes ≡ log_bytes frames rest
  pub place : gate + length rest ≡ length bytes
  pub closed : IsClosed rest
  pub gated : 0 < length frames → 0 < length rest
  pub right : AreFrames first frames

-- The bytes begin as a log does, up to an open gate at the place `at`, and no frame with a next gate behind it goes on
-- there.
pub record IsDamaged (bytes : List ℕ) (first : ℕ) (at : ℕ) : Type 0 where
  pub frames : List Frame
  pub rest : List ℕ
  pub spelled : bytes ≡ log_bytes frames rest
  pub place : at + length rest ≡ length bytes
  pub opened : IsOpen rest
  pub right : AreFrames first frames
  pub stuck : (frame : Frame) (more : List ℕ) → rest ≡ log_bytes (frame ∷ []) more → 0 < length more → Continues first frames frame → ⊥
