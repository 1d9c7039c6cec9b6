-- Runs of batches: the first of them in one frame, and the others behind it.
use Rattle.std.proofs.Common.{◌≡◌, ℕ, zero, suc, ◌+◌, ◌-◌, ◌<◌, ◌≤◌, min, List, [], ◌∷◌, ◌++◌, length, take, drop, map, refl, sym, ◌∙◌, ap, subst, arith, append_assoc, length-append, length-drop, take-append-drop}
use Rattle.std.proofs.Math.Seq.{take-add}
use Rattle.std.proofs.lemmas.List.{append-nil, length-map, length-take, drop-map, take-map}
use Rattle.std.proofs.lemmas.List.Sums.{sum_by-append, sum_by-take-drop}
use Rattle.fd_kinds.specs.declared.batch.NumberedBatch.{NumberedBatch}
use Rattle.fd_kinds.specs.History.{History}
use Rattle.fd_device.specs.Disks.{Files, Reaches, Follows, OthersStay}
use Rattle.fd_wal.specs.Frames.{Frame, Transactions, frame_bytes, batch_spelling, rows_size, batches_size}
use Rattle.fd_wal.specs.Logs.{history_of, AreTransactions}
use Rattle.fd_wal.specs.Runs.{rows_in, AreNumberedFrom, AreConsecutive, first_number, frame_of, IsLongestRun}
use Rattle.fd_wal.specs.declared.limits.TheConstants.{MOST_LOG_BYTES}
use Rattle.fd_keeper.specs.Blocks.{Block, log_of, history_in, recovered, RecoversTo, Extends}
use Rattle.fd_keeper.specs.Keepers.{Rests, IsAtRest, Gains, IsNext, HasRoom, HasAtLeast}
use Rattle.fd_keeper.proofs.Recovery.{history_append}
use Rattle.fd_keeper.proofs.Growth.{recovered_append}

pub first_is : (n : ℕ) (batches : List NumberedBatch) → 0 < length batches → AreNumberedFrom n batches → first_number batches ≡ n
first_is n [] some numbered = absurd (omega (arith, some))
first_is n (b ∷ batches) some numbered = numbered.0

pub consecutive : (n : ℕ) (batches : List NumberedBatch) → AreNumberedFrom n batches → AreConsecutive batches
consecutive n [] numbered = tt
consecutive n (b ∷ batches) numbered = subst (λ (k : ℕ). AreNumberedFrom k (b ∷ batches)) (sym numbered.0) numbered

pub numbered_drop : (i n : ℕ) (batches : List NumberedBatch) → AreNumberedFrom n batches → AreNumberedFrom (n + i) (drop i batches)
numbered_drop zero n batches numbered = subst (λ (k : ℕ). AreNumberedFrom k batches) (omega arith) numbered
numbered_drop (suc i) n [] numbered = tt
numbered_drop (suc i) n (b ∷ batches) numbered = subst (λ (k : ℕ). AreNumberedFrom k (drop i batches)) (omega arith) (numbered_drop i (n + 1) batches numbered.1)

-- a run is some of the batches
pub run_bounds : (batches : List NumberedBatch) (from next : ℕ) → from < length batches → IsLongestRun (map batch_spelling (rows_in (drop from batches))) (next - from) → (from < next) × (next ≤ length batches)
run_bounds batches from next below run =
    let long : length (map batch_spelling (rows_in (drop from batches))) ≡ length batches - from =
    length-map (rows_in (drop from batches)) batch_spelling ∙ length-map (drop from batches) (λ (b : NumberedBatch). b.batch.rows) ∙ length-drop from batches in
    let some = run.some in
    let within = run.within in (omega (arith, some), omega (arith, some, within, long, below))

-- batches and the first of others are no more than with all others
pub fewer : (before batches : History) (k : ℕ) → batches_size (before ++ take k batches) ≤ batches_size (before ++ batches)
fewer before batches k =
    let a : batches_size (before ++ take k batches) ≡ batches_size before + batches_size (take k batches) = sum_by-append rows_size before (take k batches) in
    let b : batches_size (before ++ batches) ≡ batches_size before + batches_size batches = sum_by-append rows_size before batches in
    let c : batches_size (take k batches) + batches_size (drop k batches) ≡ batches_size batches = sum_by-take-drop rows_size batches k in
    omega (arith, a, b, c)

pub extends_front : (history batches : History) (k : ℕ) (image : Files) → Extends history (take k batches) image → Extends history batches image
extends_front history batches k image e =
    let within = e.within in
    let long : length (take k batches) ≡ min k (length batches) = length-take k batches in
    let less : e.count ≤ min k (length batches) = omega (arith, within, long) in
    record {
      count = e.count;
      within = omega (arith, less);
      recovers = subst (λ (l : History). RecoversTo (history ++ l) image) (take_of_take e.count k batches (omega (arith, less))) e.recovers;
    }
  where
    take_of_take : (i k : ℕ) (l : History) → i ≤ k → take i (take k l) ≡ take i l
    take_of_take zero k l less = refl
    take_of_take (suc i) zero l less = absurd (omega (arith, less))
    take_of_take (suc i) (suc k) [] less = refl
    take_of_take (suc i) (suc k) (x ∷ l) less = ap (λ (t : History). x ∷ t) (take_of_take i k l (omega (arith, less)))

pub extends_back : (history now batches : History) (i : ℕ) (image : Files) → i ≤ length batches → now ≡ history ++ take i batches → Extends now (drop i batches) image → Extends history batches image
extends_back history now batches i image le is e =
    let within = e.within in
    let long : length (drop i batches) ≡ length batches - i = length-drop i batches in
    record {
      count = i + e.count;
      within = omega (arith, le, within, long);
      recovers =
          let all : now ++ take e.count (drop i batches) ≡ history ++ take (i + e.count) batches =
          ap (λ (l : History). l ++ take e.count (drop i batches)) is ∙ append_assoc history (take i batches) (take e.count (drop i batches)) ∙ ap (λ (l : History). history ++ l) (sym (take-add i e.count batches)) in
          subst (λ (l : History). RecoversTo l image) all e.recovers;
    }

-- ---- the frame of the first of batches

module _ {D : Type 0} (seen : D → Files) (may_leave : D → Files → Type 0) (disk : D) (block gate synced : ℕ) (closed : List Block) (active : List Frame) (rests : Rests seen may_leave disk block gate synced closed active) where
  -- it goes on behind the active block's frames
  pub next_is : (batches : List NumberedBatch) (count : ℕ) (frame : List ℕ) → AreNumberedFrom (synced + 1) batches → HasRoom active (rows_in batches) → frame ≡ frame_bytes (frame_of (take count batches))
      → first_number (take count batches) ≡ synced + 1 → AreTransactions (synced + 1) (rows_in (take count batches)) → IsNext closed active frame (synced + 1) (rows_in (take count batches))
  next_is batches count frame numbered room spelled starts are = record {
    spelled = spelled ∙ ap (λ (n : ℕ). frame_bytes (Transactions n (rows_in (take count batches)))) starts;
    right =
        let was = rests.count in
        let long : length (recovered closed active) ≡ length (history_in closed) + length (history_of active) = length-append (history_in closed) (history_of active) in
        let less : batches_size (history_of active ++ take count (rows_in batches)) ≤ batches_size (history_of active ++ rows_in batches) = fewer (history_of active) (rows_in batches) count in
        let same : take count (rows_in batches) ≡ rows_in (take count batches) = take-map (λ (b : NumberedBatch). b.batch.rows) count batches in
        let most : batches_size (history_of active ++ rows_in batches) ≤ MOST_LOG_BYTES = room in
        let fits : batches_size (history_of active ++ take count (rows_in batches)) ≤ MOST_LOG_BYTES = omega (arith, less, most) in
        record {
          unended = rests.recovers.unended;
          next = omega (arith, was, long);
          fits = subst (λ (l : History). batches_size (history_of active ++ l) ≤ MOST_LOG_BYTES) same fits;
          transactions = are;
        };
  }

-- the disk stands for these blocks, with these batches more in the active one
pub record GainsSoFar {D : Type 0} (seen : D → Files) (may_leave : D → Files → Type 0) (disk : D) (block gate synced : ℕ) (closed : List Block) (active : List Frame) (batches : History) : Type 0 where
  pub more : List Frame
  pub added : history_of more ≡ batches
  pub rests : Rests seen may_leave disk block gate synced closed (active ++ more)

-- room for the batches that are left
pub room_left : (active more : List Frame) (batches : List NumberedBatch) (i : ℕ) → history_of more ≡ take i (rows_in batches) → HasRoom active (rows_in batches) → HasRoom (active ++ more) (rows_in (drop i batches))
room_left active more batches i added room =
    let all : history_of (active ++ more) ++ rows_in (drop i batches) ≡ history_of active ++ rows_in batches =
    ap (λ (l : History). l ++ rows_in (drop i batches)) (history_append active more)
    ∙ append_assoc (history_of active) (history_of more) (rows_in (drop i batches))
    ∙ ap (λ (l : History). history_of active ++ (l ++ rows_in (drop i batches))) added
    ∙ ap (λ (l : History). history_of active ++ (take i (rows_in batches) ++ l)) (sym (drop-map (λ (b : NumberedBatch). b.batch.rows) i batches))
    ∙ ap (λ (l : History). history_of active ++ l) (take-append-drop i (rows_in batches)) in
    subst (λ (l : History). batches_size l ≤ MOST_LOG_BYTES) (sym all) room

-- the batches of another frame
pub gains_more : {D : Type 0} (seen : D → Files) (may_leave : D → Files → Type 0) (disk new : D) (block gate synced block_new gate_new synced_new : ℕ) (closed : List Block) (active : List Frame) (batches : List NumberedBatch) (i next n : ℕ) → i ≤ next
    → (so_far : GainsSoFar seen may_leave disk block gate synced closed active (take i (rows_in batches)))
    → Rests seen may_leave new block_new gate_new synced_new closed ((active ++ so_far.more) ++ Transactions n (rows_in (take (next - i) (drop i batches))) ∷ [])
    → GainsSoFar seen may_leave new block_new gate_new synced_new closed active (take next (rows_in batches))
gains_more seen may_leave disk new block gate synced block_new gate_new synced_new closed active batches i next n le so_far rests =
    let run = rows_in (take (next - i) (drop i batches)) in
    let last = Transactions n run ∷ [] in
    let size : i + (next - i) ≡ next = omega (arith, le) in
    record {
      more = so_far.more ++ last;
      added =
          history_append so_far.more last
          ∙ ap (λ (l : History). l ++ (run ++ [])) so_far.added
          ∙ ap (λ (l : History). take i (rows_in batches) ++ l) (append-nil run ∙ sym (take-map (λ (b : NumberedBatch). b.batch.rows) (next - i) (drop i batches)) ∙ ap (λ (l : History). take (next - i) l) (sym (drop-map (λ (b : NumberedBatch). b.batch.rows) i batches)))
          ∙ sym (take-add i (next - i) (rows_in batches))
          ∙ ap (λ (k : ℕ). take k (rows_in batches)) size;
      rests = subst (λ (l : List Frame). Rests seen may_leave new block_new gate_new synced_new closed l) (append_assoc active so_far.more last) rests;
    }

-- the rows of the first of the batches
pub front_rows : (batches : List NumberedBatch) (k : ℕ) → rows_in (take k batches) ≡ take k (rows_in batches)
front_rows batches k = sym (take-map (λ (b : NumberedBatch). b.batch.rows) k batches)

-- the frame of a run goes on behind the active block's frames
pub run_next : {D : Type 0} (seen : D → Files) (may_leave : D → Files → Type 0) (disk : D) (block gate synced : ℕ) (closed : List Block) (active : List Frame) → Rests seen may_leave disk block gate synced closed active
    → (batches : List NumberedBatch) (from next : ℕ) (frame : List ℕ) → from < length batches → AreNumberedFrom (synced + 1) (drop from batches) → HasRoom active (rows_in (drop from batches))
    → IsLongestRun (map batch_spelling (rows_in (drop from batches))) (next - from) → frame ≡ frame_bytes (frame_of (take (next - from) (drop from batches)))
    → AreTransactions (first_number (drop from batches)) (rows_in (take (next - from) (drop from batches)))
    → IsNext closed active frame (synced + 1) (rows_in (take (next - from) (drop from batches)))
run_next seen may_leave disk block gate synced closed active rests batches from next frame below numbered room run spelled are =
    let long : length (drop from batches) ≡ length batches - from = length-drop from batches in
    let starts : first_number (drop from batches) ≡ synced + 1 = first_is (synced + 1) (drop from batches) (omega (arith, long, below)) numbered in
    let some = run.some in
    next_is seen may_leave disk block gate synced closed active rests (drop from batches) (next - from) frame numbered room spelled (starts_in (next - from) (drop from batches) some numbered (omega (arith, long, below))) (subst (λ (n : ℕ). AreTransactions n (rows_in (take (next - from) (drop from batches)))) starts are)
  where
    starts_in : (k : ℕ) (l : List NumberedBatch) → 0 < k → AreNumberedFrom (synced + 1) l → 0 < length l → first_number (take k l) ≡ synced + 1
    starts_in zero l some numbered more = absurd (omega (arith, some))
    starts_in (suc k) [] some numbered more = absurd (omega (arith, more))
    starts_in (suc k) (b ∷ l) some numbered more = numbered.0

-- one step of a list of batches, in terms of the whole
pub step_extends : (closed : List Block) (active more : List Frame) (batches : List NumberedBatch) (i : ℕ) → i ≤ length batches → history_of more ≡ take i (rows_in batches) → (image : Files) → Extends (recovered closed (active ++ more)) (rows_in (drop i batches)) image
    → Extends (recovered closed active) (rows_in batches) image
step_extends closed active more batches i le added image e =
    let long : length (rows_in batches) ≡ length batches = length-map batches (λ (b : NumberedBatch). b.batch.rows) in
    extends_back (recovered closed active) (recovered closed (active ++ more)) (rows_in batches) i image (omega (arith, le, long)) (recovered_append closed active more ∙ ap (λ (l : History). recovered closed active ++ l) added)
    (subst (λ (l : History). Extends (recovered closed (active ++ more)) l image) (sym (drop-map (λ (b : NumberedBatch). b.batch.rows) i batches)) e)

-- the other files stay in one step after another
pub stay_twice : (block named : ℕ) → named ≡ block → (old between : Files → Type 0) → Follows (OthersStay (log_of block)) old between → (image : Files) → Reaches (OthersStay (log_of named)) between image → Reaches (OthersStay (log_of block)) old image
stay_twice block named same old between follows image reached =
    let now : Reaches (OthersStay (log_of block)) between image = subst (λ (n : ℕ). Reaches (OthersStay (log_of n)) between image) same reached in
    let was = follows now.0 now.1 in
    (was.0, was.1, λ f other. now.2 f other ∙ was.2 f other)

pub gains_none : {D : Type 0} (seen : D → Files) (may_leave : D → Files → Type 0) (disk : D) (block gate synced : ℕ) (closed : List Block) (active : List Frame) → Rests seen may_leave disk block gate synced closed active → GainsSoFar seen may_leave disk block gate synced closed active []
gains_none seen may_leave disk block gate synced closed active rests = record { more = []; added = refl; rests = subst (λ (l : List Frame). Rests seen may_leave disk block gate synced closed l) (sym (append-nil active)) rests }

-- what was added so far, where it stays at that
pub gains_kept : {D : Type 0} (seen : D → Files) (may_leave : D → Files → Type 0) (disk : D) (block gate synced before : ℕ) (closed : List Block) (active : List Frame) (batches : List NumberedBatch) (i : ℕ) → i ≤ length batches → synced ≡ before + i
    → GainsSoFar seen may_leave disk block gate synced closed active (take i (rows_in batches)) → Gains seen may_leave disk block gate synced before closed active (rows_in batches)
gains_kept seen may_leave disk block gate synced before closed active batches i le counts so_far =
    let long : length (rows_in batches) ≡ length batches = length-map batches (λ (b : NumberedBatch). b.batch.rows) in
    record { count = i; within = omega (arith, le, long); counts = counts; more = so_far.more; added = so_far.added; rests = so_far.rests }

-- some blocks are there for the next step
pub at_rest : {D : Type 0} (seen : D → Files) (may_leave : D → Files → Type 0) (disk : D) (block gate synced : ℕ) (closed : List Block) (active : List Frame) (batches : History) → GainsSoFar seen may_leave disk block gate synced closed active batches → IsAtRest seen may_leave disk block gate synced
at_rest seen may_leave disk block gate synced closed active batches so_far = record { closed = closed; active = active ++ so_far.more; rests = so_far.rests }

-- what a fault leaves behind the batches that were added so far
pub leaves_at_least : {D : Type 0} (seen : D → Files) (may_leave : D → Files → Type 0) (disk : D) (synced before : ℕ) (closed : List Block) (active more : List Frame) (batches : List NumberedBatch) (i : ℕ) → i ≤ length batches → synced ≡ before + i → history_of more ≡ take i (rows_in batches)
    → ((image : Files) → may_leave disk image → Extends (recovered closed (active ++ more)) (rows_in (drop i batches)) image) → HasAtLeast seen may_leave disk synced before closed active (rows_in batches)
leaves_at_least seen may_leave disk synced before closed active more batches i le counts added images =
    let long : length (rows_in batches) ≡ length batches = length-map batches (λ (b : NumberedBatch). b.batch.rows) in
    let same : recovered closed (active ++ more) ≡ recovered closed active ++ take i (rows_in batches) = recovered_append closed active more ∙ ap (λ (l : History). recovered closed active ++ l) added in
    record {
      count = i;
      within = omega (arith, le, long);
      counts = counts;
      images = λ image left.
          subst (λ (l : History). Extends l (drop i (rows_in batches)) image) same
          (subst (λ (l : History). Extends (recovered closed (active ++ more)) l image) (sym (drop-map (λ (b : NumberedBatch). b.batch.rows) i batches)) (images image left));
    }
