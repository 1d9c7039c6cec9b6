-- Which files a recovered history rests on, and how it grows.
use Rattle.std.proofs.Common.{◌≡◌, ◌≢◌, ℕ, suc, ◌+◌, ◌<◌, ◌≤◌, inl, inr, Bool, true, false, ◌&&◌, nat_eq, List, [], ◌∷◌, ◌++◌, length, take, refl, sym, ◌∙◌, ap, subst, arith, append_assoc, length-append}
use Rattle.std.proofs.lemmas.List.{take_at}
use Rattle.std.proofs.lemmas.Bool.{cases_eq, eqb-true}
use Rattle.fd_device.specs.declared.files.FileId.{FileId}
use Rattle.fd_device.specs.declared.files.FileKind.{FileKind}
use Rattle.fd_device.specs.Disks.{Files, same_kind, same_file}
use Rattle.fd_wal.specs.Frames.{Frame, Transactions, Rotation, frame_bytes, log_bytes}
use Rattle.fd_wal.specs.Logs.{history_of, is_rotated, IsClosed, IsLog}
use Rattle.fd_keeper.specs.Blocks.{Block, Logged, log_of, seal_of, batches_in, history_in, IsLogged, LeadOn}

-- ---- names of files

other_number : (a b : ℕ) → a < b → nat_eq a b ≡ false
other_number a b less = elim (cases_eq a b) [
  | inl same ↦ absurd (omega (arith, less, same))
  | inr other ↦ no (nat_eq a b) refl other
]
  where
    no : (t : Bool) → nat_eq a b ≡ t → a ≢ b → nat_eq a b ≡ false
    no true is other = absurd (other (eqb-true a b is))
    no false is other = is

and_false : (a b : Bool) → b ≡ false → (a && b) ≡ false
and_false true b is = is
and_false false b is = refl

-- a file of an earlier block is another
pub earlier_file : (f : FileId) (k : FileKind) (block : ℕ) → f.block < block → same_file f (record { kind = k; block = block }) ≡ false
earlier_file f k block less = and_false (same_kind f.kind k) (nat_eq f.block block) (other_number f.block block less)

-- ---- blocks rest on their own files

-- the files of blocks below a number are the same
abbrev pub SameBelow : ℕ → Files → Files → Type 0
SameBelow number old new = (f : FileId) → f.block < number → new f ≡ old f

pub same_log : (old new : Files) (block first : ℕ) (frames : List Frame) → new (seal_of block) ≡ old (seal_of block) → new (log_of block) ≡ old (log_of block) → IsLogged old block first frames → IsLogged new block first frames
same_log old new block first frames seal log is = record {
  unsealed = subst IsClosed (sym seal) is.unsealed;
  gate = is.gate;
  log = subst (λ (l : List ℕ). IsLog l first frames is.gate) (sym log) is.log;
}

pub same_blocks : (old new : Files) (number first : ℕ) (blocks : List Block) → SameBelow (number + length blocks) old new → LeadOn old number first blocks → LeadOn new number first blocks
same_blocks old new number first [] same lead = tt
same_blocks old new number first (Logged frames ∷ blocks) same lead = (
  same_log old new number first frames (same (seal_of number) (omega arith)) (same (log_of number) (omega arith)) lead.0,
  lead.1,
  same_blocks old new (number + 1) (first + length (history_of frames)) blocks (λ f less. same f (omega (arith, less))) lead.2,
)

-- one block more
pub lead_more : (files : Files) (number first : ℕ) (blocks : List Block) (frames : List Frame) → LeadOn files number first blocks → IsLogged files (number + length blocks) (first + length (history_in blocks)) frames → is_rotated frames ≡ true
    → LeadOn files number first (blocks ++ Logged frames ∷ [])
lead_more files number first [] frames lead is rotated = (subst (λ (n : ℕ). IsLogged files n first frames) (omega arith) (subst (λ (n : ℕ). IsLogged files (number + 0) n frames) (omega arith) is), rotated, tt)
lead_more files number first (Logged before ∷ blocks) frames lead is rotated =
    let n : number + suc (length blocks) ≡ number + 1 + length blocks = omega arith in
    let long : length (history_of before ++ history_in blocks) ≡ length (history_of before) + length (history_in blocks) = length-append (history_of before) (history_in blocks) in
    let at : first + length (history_of before ++ history_in blocks) ≡ first + length (history_of before) + length (history_in blocks) = omega (arith, long) in (
      lead.0,
      lead.1,
      lead_more files (number + 1) (first + length (history_of before)) blocks frames lead.2 (subst (λ (k : ℕ). IsLogged files k (first + length (history_of before) + length (history_in blocks)) frames) n (subst (λ (k : ℕ). IsLogged files (number + suc (length blocks)) k frames) at is)) rotated,
    )

-- ---- histories

pub history_append : (frames more : List Frame) → history_of (frames ++ more) ≡ history_of frames ++ history_of more
history_append [] more = refl
history_append (Transactions first batches ∷ frames) more = ap (λ l. batches ++ l) (history_append frames more) ∙ sym (append_assoc batches (history_of frames) (history_of more))
history_append (Rotation hi ∷ frames) more = history_append frames more

pub history_in_append : (blocks more : List Block) → history_in (blocks ++ more) ≡ history_in blocks ++ history_in more
history_in_append [] more = refl
history_in_append (block ∷ blocks) more = ap (λ l. batches_in block ++ l) (history_in_append blocks more) ∙ sym (append_assoc (batches_in block) (history_in blocks) (history_in more))

pub rotated_append : (frames more : List Frame) → is_rotated frames ≡ false → is_rotated (frames ++ more) ≡ is_rotated more
rotated_append [] more un = refl
rotated_append (Transactions first batches ∷ frames) more un = rotated_append frames more un
rotated_append (Rotation hi ∷ frames) more un = absurd (cc un)

-- ---- logs

log_front : (frames : List Frame) (rest : List ℕ) → log_bytes frames rest ≡ log_bytes frames [] ++ rest
log_front [] rest = refl
log_front (f ∷ frames) rest = ap (λ (t : List ℕ). 1 ∷ t) (ap (λ (t : List ℕ). frame_bytes f ++ t) (log_front frames rest) ∙ sym (append_assoc (frame_bytes f) (log_bytes frames []) rest))

shut_closed : (byte : ℕ) (tail : List ℕ) → byte ≢ 1 → IsClosed (byte ∷ tail)
shut_closed byte [] shut = tt
shut_closed byte (b ∷ tail) shut = shut

-- A log with any closed gate, whatever stands behind it, has the same frames.
pub shut_log : (bytes tail : List ℕ) (byte first : ℕ) (frames : List Frame) (gate : ℕ) → byte ≢ 1 → IsLog bytes first frames gate → IsLog (take gate bytes ++ byte ∷ tail) first frames gate
shut_log bytes tail byte first frames gate shut log =
    let split : bytes ≡ log_bytes frames [] ++ log.rest = log.spelled ∙ log_front frames log.rest in
    let long : length bytes ≡ length (log_bytes frames []) + length log.rest = ap length split ∙ length-append (log_bytes frames []) log.rest in
    let place = log.place in
    let at : length (log_bytes frames []) ≡ gate = omega (arith, long, place) in
    let front : take gate bytes ≡ log_bytes frames [] = ap (λ (l : List ℕ). take gate l) split ∙ take_at (log_bytes frames []) log.rest gate at in
    let whole : take gate bytes ++ byte ∷ tail ≡ log_bytes frames (byte ∷ tail) = ap (λ (l : List ℕ). l ++ byte ∷ tail) front ∙ sym (log_front frames (byte ∷ tail)) in
    let sum : length (take gate bytes ++ byte ∷ tail) ≡ gate + length (byte ∷ tail) =
    ap (λ (l : List ℕ). length (l ++ byte ∷ tail)) front ∙ length-append (log_bytes frames []) (byte ∷ tail) ∙ ap (λ (n : ℕ). n + length (byte ∷ tail)) at in
    record { rest = byte ∷ tail; spelled = whole; place = sym sum; closed = shut_closed byte tail shut; gated = λ _. omega arith; right = log.right }

-- a new log: at most one byte
pub new_log : (bytes : List ℕ) (first : ℕ) → length bytes ≤ 1 → IsLog bytes first [] 0
new_log [] first short = record { rest = []; spelled = refl; place = omega arith; closed = tt; gated = λ some. absurd (omega (arith, some)); right = tt }
new_log (byte ∷ []) first short = record { rest = byte ∷ []; spelled = refl; place = omega arith; closed = tt; gated = λ some. omega arith; right = tt }
new_log (byte ∷ other ∷ bytes) first short = absurd (omega (arith, short))
