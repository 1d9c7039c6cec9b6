-- A reader that goes over the frames of a log, one by one.
use Rattle.std.proofs.Common.{◌≡◌, ℕ, suc, ◌-◌, ◌<◌, ◌≤◌, List, [], ◌∷◌, ◌++◌, length, drop, refl, sym, ap, ◌∙◌, arith}
use Rattle.std.specs.Prelude.{Result, Ok, Err, IfOk, IfErr}
use Rattle.std.proofs.lemmas.List.{length-append}
use Rattle.fd_kinds.specs.Stores.{numbered_from}
use Rattle.fd_wal.specs.declared.fault.ReplayFault.{ReplayFault}
use Rattle.fd_wal.specs.declared.fault.ReplayFault.TheVariants as fault
use Rattle.fd_wal.specs.declared.frame_reader.Gathered.{Gathered}
use Rattle.fd_wal.specs.declared.log_reader.Replayed.{Replayed}
use Rattle.fd_wal.specs.Frames.{Frame, frame_bytes, log_bytes}
use Rattle.fd_wal.specs.Logs.{history_of, is_rotated, AreFrames, IsOpen, IsClosed, IsLog, IsDamaged}
use Rattle.fd_wal.specs.Gathering.{Gathers, PassesFrame, RefusesFrame}
use Rattle.fd_wal.specs.Replays.{IsReplayOf, AnswersLog, AnswersDamage, TellsDamage}
use Rattle.fd_wal.proofs.LogLaws.{log_more, follow_more, one_log_by, not_both_by, one_damage_by}

-- The bytes are the frames that were gathered, and the rest.
pub record Reaches (bytes rest : List ℕ) (first : ℕ) (gathered : Gathered) : Type 0 where
  pub frames : List Frame
  pub spelled : bytes ≡ log_bytes frames rest
  pub right : AreFrames first frames
  pub gathers : Gathers first frames gathered
  pub gated : 0 < length frames → 0 < length rest

pub starts : (bytes : List ℕ) (first : ℕ) (gathered : Gathered) → Gathers first [] gathered → Reaches bytes bytes first gathered
starts bytes first gathered is = record { frames = []; spelled = refl; right = tt; gathers = is; gated = λ some. absurd (omega (arith, some)) }

-- what stands behind a gate
abbrev pub behind : List ℕ → List ℕ
behind [] = []
behind (b ∷ bytes) = bytes

pub opened : (rest : List ℕ) → IsOpen rest → rest ≡ 1 ∷ drop 1 rest
opened [] o = absurd o
opened (gate ∷ []) o = absurd o
opened (gate ∷ next ∷ rest) o = ap (λ (b : ℕ). b ∷ next ∷ rest) o

pub closed : (rest : List ℕ) → (IsOpen rest → ⊥) → IsClosed rest
closed [] never = tt
closed (gate ∷ []) never = tt
closed (gate ∷ next ∷ rest) never = never

-- no more bytes are left than there are
pub left_within : (frames : List Frame) (rest : List ℕ) → length rest ≤ length (log_bytes frames rest)
left_within [] rest = omega arith
left_within (f ∷ frames) rest =
    let more = left_within frames rest in
    let long = length-append (frame_bytes f) (log_bytes frames rest) in
    let added : length (log_bytes (f ∷ frames) rest) ≡ suc (length (frame_bytes f ++ log_bytes frames rest)) = refl in
    omega (arith, more, long, added)

pub within : (bytes rest : List ℕ) (first : ℕ) (gathered : Gathered) → Reaches bytes rest first gathered → length rest ≤ length bytes
within bytes rest first gathered r = let long = ap length r.spelled in omega (arith, long, left_within r.frames rest)

-- one frame more
pub passes_on : (bytes rest after : List ℕ) (first : ℕ) (old new : Gathered) → Reaches bytes rest first old → IsOpen rest → PassesFrame (drop 1 rest) after old new → Reaches bytes after first new
passes_on bytes rest after first old new r open_ passes =
    let p = passes first r.frames r.gathers in
    let parts : rest ≡ 1 ∷ (frame_bytes p.frame ++ after) = opened rest open_ ∙ ap (λ (t : List ℕ). 1 ∷ t) p.spelled in
    record {
      frames = r.frames ++ p.frame ∷ [];
      spelled = r.spelled ∙ ap (log_bytes r.frames) parts ∙ sym (log_more r.frames p.frame after);
      right = follow_more first [] r.frames p.frame r.right p.right;
      gathers = p.gathers;
      gated = λ _. p.gated;
    }

pub shorter : (rest after : List ℕ) (first : ℕ) (bytes : List ℕ) (old new : Gathered) → Reaches bytes rest first old → IsOpen rest → PassesFrame (drop 1 rest) after old new → length after < length rest
shorter rest after first bytes old new r open_ passes =
    let p = passes first r.frames r.gathers in
    let parts : rest ≡ 1 ∷ (frame_bytes p.frame ++ after) = opened rest open_ ∙ ap (λ (t : List ℕ). 1 ∷ t) p.spelled in
    let long = ap length parts in
    let sum = length-append (frame_bytes p.frame) after in
    omega (arith, long, sum)

-- where a frame is refused
pub stops : (bytes rest : List ℕ) (first : ℕ) (old : Gathered) → Reaches bytes rest first old → IsOpen rest → RefusesFrame (drop 1 rest) old → IsDamaged bytes first (length bytes - length rest)
stops bytes rest first old r open_ refuses =
    let enough = within bytes rest first old r in
    record {
      frames = r.frames;
      rest = rest;
      spelled = r.spelled;
      place = omega (arith, enough);
      opened = open_;
      right = r.right;
      stuck = λ frame more is some right. refuses first r.frames r.gathers frame more (ap behind (sym (opened rest open_) ∙ is)) some right;
    }

-- where the gates end
pub ends_log : (bytes rest : List ℕ) (first : ℕ) (gathered : Gathered) (replayed : Replayed) → Reaches bytes rest first gathered → (IsOpen rest → ⊥)
    → replayed.batches ≡ gathered.batches.items → replayed.rotated ≡ gathered.rotated → replayed.gate ≡ length bytes - length rest → IsReplayOf bytes first replayed
ends_log bytes rest first gathered replayed r never batches rotated gate =
    let enough = within bytes rest first gathered r in
    record {
      frames = r.frames;
      log = record { rest = rest; spelled = r.spelled; place = omega (arith, enough, gate); closed = closed rest never; gated = r.gated; right = r.right };
      tells = record { batches = rw batches r.gathers.written; rotated = rotated ∙ r.gathers.ended; place = refl };
    }

-- ---- what an answer means for every log, and every damage

pub only_log : (bytes : List ℕ) (first : ℕ) (result : Result Replayed ReplayFault) → IfOk result (IsReplayOf bytes first) → IfErr result (TellsDamage bytes first)
    → (frames : List Frame) (gate : ℕ) → IsLog bytes first frames gate → AnswersLog first frames gate result
only_log bytes first (Ok replayed) is tells frames gate log =
    let one = one_log_by bytes first is.frames frames replayed.gate gate is.log log in
    record {
      batches = is.tells.batches ∙ ap (λ fs. numbered_from first (history_of fs)) one.0;
      rotated = is.tells.rotated ∙ ap is_rotated one.0;
      place = one.1;
    }
only_log bytes first (Err (fault.Damaged place)) is tells frames gate log = not_both_by bytes first frames gate place log tells
only_log bytes first (Err fault.NoMemory) is tells frames gate log = tt

pub only_damage : (bytes : List ℕ) (first : ℕ) (result : Result Replayed ReplayFault) → IfOk result (IsReplayOf bytes first) → IfErr result (TellsDamage bytes first)
    → (at : ℕ) → IsDamaged bytes first at → AnswersDamage at result
only_damage bytes first (Ok replayed) is tells at damaged = not_both_by bytes first is.frames replayed.gate at is.log damaged
only_damage bytes first (Err (fault.Damaged place)) is tells at damaged = one_damage_by bytes first place at tells damaged
only_damage bytes first (Err fault.NoMemory) is tells at damaged = tt
