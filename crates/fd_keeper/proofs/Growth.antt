-- What an image of a log that takes a frame stands for.
use Rattle.std.proofs.Common.{◌≡◌, ℕ, ◌+◌, ◌⊎◌, inl, inr, false, List, [], ◌∷◌, ◌++◌, length, take, refl, sym, ◌∙◌, ap, subst, arith, append_assoc}
use Rattle.std.proofs.lemmas.List.{append-nil, take_all}
use Rattle.std.proofs.lemmas.Bool.{cases_eq}
use Rattle.fd_kinds.specs.History.{History}
use Rattle.fd_device.specs.Disks.{Files, Steps, OthersStay}
use Rattle.fd_wal.specs.Frames.{Frame, Transactions, frame_bytes}
use Rattle.fd_wal.specs.Logs.{history_of, is_rotated, IsClosed, IsLog, Continues}
use Rattle.fd_keeper.specs.Blocks.{Block, log_of, seal_of, history_in, IsLogged, LeadOn, Recovers, Extends, recovered}
use Rattle.fd_keeper.specs.Keepers.{Appends}
use Rattle.fd_keeper.proofs.Recovery.{SameBelow, earlier_file, same_blocks, history_append, rotated_append, shut_log}

-- a frame counts once its gate is open
abbrev pub Opens : Type 0
Opens =
    (bytes tail : List ℕ) (first : ℕ) (frames : List Frame) (gate : ℕ) (frame : Frame) → IsLog bytes first frames gate → Continues first frames frame
    → IsLog (take gate bytes ++ 1 ∷ (frame_bytes frame ++ 0 ∷ tail)) first (frames ++ frame ∷ []) (gate + 1 + length (frame_bytes frame))

-- the bytes of a frame, and of a closed gate behind it
abbrev pub gated : Frame → List ℕ
gated frame = frame_bytes frame ++ 0 ∷ []

-- the log, before the frame counts or behind it
pub grown_log : (opens : Opens) (gate first : ℕ) (active : List Frame) (f : Frame) (old new : List ℕ) → Continues first active f → IsLog old first active gate → Appends gate (gated f) old new
    → ((place : ℕ) × IsLog new first active place) ⊎ ((place : ℕ) × IsLog new first (active ++ f ∷ []) place)
grown_log opens gate first active f old new right log (inl s) = inl (gate, subst (λ (l : List ℕ). IsLog l first active gate) (sym s.whole) (shut_log old s.tail 0 first active gate (λ e. omega (arith, e)) log))
grown_log opens gate first active f old new right log (inr w) = elim (cases_eq w.byte 1) [
  | inl open_gate ↦ inr (
    gate + 1 + length (frame_bytes f),
    subst (λ (l : List ℕ). IsLog l first (active ++ f ∷ []) (gate + 1 + length (frame_bytes f))) (ap (λ (b : ℕ). take gate old ++ b ∷ gated f) (sym open_gate) ∙ sym w.whole) (opens old [] first active gate f log right),
  )
  | inr closed_gate ↦ inl (gate, subst (λ (l : List ℕ). IsLog l first active gate) (sym w.whole) (shut_log old (gated f) w.byte first active gate closed_gate log))
]

-- ---- the other files stay

below_log : (block : ℕ) (old new : Files) → OthersStay (log_of block) old new → SameBelow block old new
below_log block old new others f less = others f (earlier_file f _ block less)

module _ (block : ℕ) (closed : List Block) (number : block ≡ length closed) where
  -- the blocks before one whose log changes
  pub same_before : (old new : Files) → OthersStay (log_of block) old new → LeadOn old 0 1 closed → LeadOn new 0 1 closed
  same_before old new others lead = same_blocks old new 0 1 closed (λ f less. below_log block old new others f (omega (arith, less, number))) lead

  -- and that one, with another log
  pub logged_anew : (old new : Files) (active frames : List Frame) (place : ℕ) → OthersStay (log_of block) old new → Recovers old closed active → IsLog (new (log_of block)) (1 + length (history_in closed)) frames place
      → IsLogged new (length closed) (1 + length (history_in closed)) frames
  logged_anew old new active frames place others was log =
      let seal : new (seal_of block) ≡ old (seal_of block) = others (seal_of block) refl in
      subst (λ (n : ℕ). IsLogged new n (1 + length (history_in closed)) frames) number (record {
        unsealed = subst (λ (l : List ℕ). IsClosed l) (ap (λ (n : ℕ). old (seal_of n)) (sym number) ∙ sym seal) was.last.unsealed;
        gate = place;
        log = log;
      })

  pub recovers_anew : (old new : Files) (active frames : List Frame) (place : ℕ) → OthersStay (log_of block) old new → Recovers old closed active → IsLog (new (log_of block)) (1 + length (history_in closed)) frames place
      → is_rotated frames ≡ false → Recovers new closed frames
  recovers_anew old new active frames place others was log un = record {
    before = same_before old new others was.before;
    last = logged_anew old new active frames place others was log;
    unended = un;
  }

  -- batches that are appended are there, or not yet
  pub transactions_images : (opens : Opens) (gate n : ℕ) (active : List Frame) (batches : History) (old new : Files) → Continues (1 + length (history_in closed)) active (Transactions n batches) → Recovers old closed active
      → IsLog (old (log_of block)) (1 + length (history_in closed)) active gate → Steps (log_of block) (Appends gate (gated (Transactions n batches))) old new
      → Recovers new closed active ⊎ Recovers new closed (active ++ Transactions n batches ∷ [])
  transactions_images opens gate n active batches old new right was log steps = elim (grown_log opens gate (1 + length (history_in closed)) active (Transactions n batches) (old (log_of block)) (new (log_of block)) right log steps.here) [
    | inl l ↦ inl (recovers_anew old new active active l.0 steps.others was l.1 was.unended)
    | inr l ↦ inr (recovers_anew old new active (active ++ Transactions n batches ∷ []) l.0 steps.others was l.1 (rotated_append active (Transactions n batches ∷ []) was.unended))
  ]

-- ---- in terms of histories

pub recovered_append : (closed : List Block) (active more : List Frame) → recovered closed (active ++ more) ≡ recovered closed active ++ history_of more
recovered_append closed active more = ap (λ (l : History). history_in closed ++ l) (history_append active more) ∙ sym (append_assoc (history_in closed) (history_of active) (history_of more))

-- none of the batches
pub extends_none : (closed : List Block) (active : List Frame) (batches : History) (image : Files) → Recovers image closed active → Extends (recovered closed active) batches image
extends_none closed active batches image is = record {
  count = 0;
  within = omega arith;
  recovers = record { closed = closed; active = active; blocks = is; is = sym (append-nil (recovered closed active)) };
}

-- all of them
pub extends_all : (closed : List Block) (active : List Frame) (n : ℕ) (batches : History) (image : Files) → Recovers image closed (active ++ Transactions n batches ∷ []) → Extends (recovered closed active) batches image
extends_all closed active n batches image is = record {
  count = length batches;
  within = omega arith;
  recovers = record {
    closed = closed;
    active = active ++ Transactions n batches ∷ [];
    blocks = is;
    is =
        recovered_append closed active (Transactions n batches ∷ [])
        ∙ ap (λ (l : History). recovered closed active ++ l) (append-nil batches ∙ sym (take_all (length batches) batches (omega arith)));
  };
}
