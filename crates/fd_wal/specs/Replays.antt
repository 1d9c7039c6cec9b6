-- What is told of the bytes of a log.
use Rattle.std.specs.Prelude.{◌≡◌, ℕ, List, map, Result, Ok, Err}
use Rattle.fd_kinds.specs.declared.batch.NumberedBatch.{NumberedBatch}
use Rattle.fd_kinds.specs.Stores.{Written, numbered_from}
use Rattle.fd_wal.specs.declared.fault.ReplayFault.{ReplayFault}
use Rattle.fd_wal.specs.declared.fault.ReplayFault.TheVariants as fault
use Rattle.fd_wal.specs.declared.log_reader.Replayed.{Replayed}
use Rattle.fd_wal.specs.Frames.{Frame}
use Rattle.fd_wal.specs.Logs.{history_of, is_rotated, IsLog, IsDamaged}

-- the rows of batches with their numbers
abbrev pub written_in : List NumberedBatch → List Written
written_in batches = map (λ b. record { number = b.number; rows = b.batch.rows }) batches

-- the batches of these frames, whether the last is a rotation, and the place of the gate
pub record Tells (first : ℕ) (frames : List Frame) (gate : ℕ) (replayed : Replayed) : Type 0 where
  pub batches : written_in replayed.batches ≡ numbered_from first (history_of frames)
  pub rotated : replayed.rotated ≡ is_rotated frames
  pub place : replayed.gate ≡ gate

-- the bytes are a log, of which this is told
pub record IsReplayOf (bytes : List ℕ) (first : ℕ) (replayed : Replayed) : Type 0 where
  pub frames : List Frame
  pub log : IsLog bytes first frames replayed.gate
  pub tells : Tells first frames replayed.gate replayed

-- the answer over a log of these frames, unless memory ran out
abbrev pub AnswersLog : ℕ → List Frame → ℕ → Result Replayed ReplayFault → Type 0
AnswersLog first frames gate (Ok replayed) = Tells first frames gate replayed
AnswersLog first frames gate (Err (fault.Damaged at)) = ⊥
AnswersLog first frames gate (Err fault.NoMemory) = Unit {0}

-- the answer over bytes that are damaged at this place, unless memory ran out
abbrev pub AnswersDamage : ℕ → Result Replayed ReplayFault → Type 0
AnswersDamage at (Ok replayed) = ⊥
AnswersDamage at (Err (fault.Damaged place)) = place ≡ at
AnswersDamage at (Err fault.NoMemory) = Unit {0}

-- a fault tells where the bytes are damaged
abbrev pub TellsDamage : List ℕ → ℕ → ReplayFault → Type 0
TellsDamage bytes first (fault.Damaged at) = IsDamaged bytes first at
TellsDamage bytes first fault.NoMemory = Unit {0}
