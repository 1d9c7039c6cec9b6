-- What is known of the batches that a log has.
use Rattle.std.proofs.Common.{◌≡◌, ℕ, ◌+◌, ◌<◌, ◌≤◌, ◌^◌, true, List, [], ◌∷◌, ◌++◌, length, refl, sym, ◌∙◌, ap, subst, arith, append_assoc, length-append}
use Rattle.std.specs.List.{All}
use Rattle.std.proofs.lemmas.List.{append-nil, length-map}
use Rattle.std.proofs.lemmas.List.Elements.{All-append, All-nil}
use Rattle.fd_kinds.specs.declared.row.Row.{Row}
use Rattle.fd_kinds.specs.declared.batch.NumberedBatch.{NumberedBatch}
use Rattle.fd_kinds.specs.declared.limits.TheConstants.{BLOCK_BYTES_LIMIT}
use Rattle.fd_kinds.specs.History.{History}
use Rattle.fd_kinds.specs.Stores.{Written, numbered_from}
use Rattle.fd_wal.specs.declared.limits.TheConstants.{MOST_LOG_BYTES}
use Rattle.fd_wal.specs.Frames.{Frame, Transactions, Rotation, batches_size, IsBatch}
use Rattle.fd_wal.specs.Logs.{history_of, is_rotated, FollowOn, IsLog}
use Rattle.fd_wal.specs.Replays.{written_in}
use Rattle.fd_wal.specs.Runs.{rows_in, AreNumberedFrom}
use Rattle.fd_open.specs.declared.reading.LogFound.{LogFound}
use Rattle.fd_open.specs.Counting.{IsFoundIn, IsFound}

-- few bytes, each a batch, and numbers that fit 63 bits
pub record Limited (first : ℕ) (batches : History) : Type 0 where
  pub size : batches_size batches ≤ MOST_LOG_BYTES
  pub each : All IsBatch batches
  pub below : first + length batches ≤ 2 ^ 63

history_append : (frames more : List Frame) → history_of (frames ++ more) ≡ history_of frames ++ history_of more
history_append [] more = refl
history_append (Transactions first batches ∷ frames) more = ap (λ (l : History). batches ++ l) (history_append frames more) ∙ sym (append_assoc batches (history_of frames) (history_of more))
history_append (Rotation hi ∷ frames) more = history_append frames more

with_batches : (before : List Frame) (number : ℕ) (batches : History) → history_of (before ++ Transactions number batches ∷ []) ≡ history_of before ++ batches
with_batches before number batches = history_append before (Transactions number batches ∷ []) ∙ ap (λ (l : History). history_of before ++ l) (append-nil batches)

with_rotation : (before : List Frame) (hi : ℕ) → history_of (before ++ Rotation hi ∷ []) ≡ history_of before
with_rotation before hi = history_append before (Rotation hi ∷ []) ∙ append-nil (history_of before)

limited_more : (first : ℕ) (before frames : List Frame) → FollowOn first before frames → Limited first (history_of before) → Limited first (history_of before ++ history_of frames)
limited_more first before [] follows is = subst (Limited first) (sym (append-nil (history_of before))) is
limited_more first before (Transactions number batches ∷ frames) follows is =
    let go = follows.0 in
    let here = with_batches before number batches in
    let long : length (history_of before ++ batches) ≡ length (history_of before) + length batches = length-append (history_of before) batches in
    let next = go.next in
    let below = go.transactions.below in
    let more : Limited first (history_of before ++ batches) = record {
      size = go.fits;
      each = All-append IsBatch (history_of before) batches is.each go.transactions.each;
      below = omega (arith, next, below, long);
    } in
    subst (Limited first) (ap (λ (l : History). l ++ history_of frames) here ∙ append_assoc (history_of before) batches (history_of frames))
    (limited_more first (before ++ Transactions number batches ∷ []) frames follows.1 (subst (Limited first) (sym here) more))
limited_more first before (Rotation hi ∷ frames) follows is =
    let here = with_rotation before hi in
    subst (Limited first) (ap (λ (l : History). l ++ history_of frames) here) (limited_more first (before ++ Rotation hi ∷ []) frames follows.1 (subst (Limited first) (sym here) is))

pub log_limits : (bytes : List ℕ) (first gate : ℕ) (frames : List Frame) → IsLog bytes first frames gate → first ≤ 2 ^ 63 → Limited first (history_of frames)
log_limits bytes first gate frames log below = limited_more first [] frames log.right (record { size = omega arith; each = All-nil IsBatch; below = omega arith })

some_more : (first : ℕ) (before frames : List Frame) → FollowOn first before frames → is_rotated frames ≡ true → 0 < length (history_of before ++ history_of frames)
some_more first before [] follows rotated = absurd (cc rotated)
some_more first before (Transactions number batches ∷ frames) follows rotated =
    let here = with_batches before number batches in
    let same = ap (λ (l : History). l ++ history_of frames) here ∙ append_assoc (history_of before) batches (history_of frames) in
    subst (λ (l : History). 0 < length l) same (some_more first (before ++ Transactions number batches ∷ []) frames follows.1 rotated)
some_more first before (Rotation hi ∷ frames) follows rotated =
    let some = follows.0.some in
    let long : length (history_of before ++ history_of frames) ≡ length (history_of before) + length (history_of frames) = length-append (history_of before) (history_of frames) in
    omega (arith, some, long)

-- a log that is ended has batches
pub ended_has_some : (bytes : List ℕ) (first gate : ℕ) (frames : List Frame) → IsLog bytes first frames gate → is_rotated frames ≡ true → 0 < length (history_of frames)
ended_has_some bytes first gate frames log rotated = some_more first [] frames log.right rotated

-- ---- what was found in a log

-- the batches have these rows, and the numbers from the first on
pub record AreNumbered (first : ℕ) (batches : List NumberedBatch) (history : History) : Type 0 where
  pub rows : rows_in batches ≡ history
  pub numbered : AreNumberedFrom first batches

rest_of : List Written → List Written
rest_of [] = []
rest_of (w ∷ ws) = ws

pub are_numbered : (first : ℕ) (batches : List NumberedBatch) (history : History) → written_in batches ≡ numbered_from first history → AreNumbered first batches history
are_numbered first [] [] e = record { rows = refl; numbered = tt }
are_numbered first [] (rows ∷ history) e = absurd (cc e)
are_numbered first (b ∷ batches) [] e = absurd (cc e)
are_numbered first (b ∷ batches) (rows ∷ history) e =
    let written : Written = record { number = b.number; rows = b.batch.rows } in
    let told : Written = record { number = first; rows = rows } in
    let head : written ≡ told = cc e in
    let tail : written_in batches ≡ numbered_from (first + 1) history = cc e in
    let rest = are_numbered (first + 1) batches history tail in
    record {
      rows = ap (λ (r : List Row). r ∷ rows_in batches) (ap (λ (w : Written). w.rows) head) ∙ ap (λ (l : History). rows ∷ l) rest.rows;
      numbered = (ap (λ (w : Written). w.number) head, rest.numbered);
    }

pub found_numbered : (bytes : List ℕ) (first : ℕ) (found : LogFound) (is : IsFoundIn bytes first found) → AreNumbered first found.replayed.batches (history_of is.frames)
found_numbered bytes first found is = are_numbered first found.replayed.batches (history_of is.frames) is.tells.batches

-- batches that fit behind those of a shelf
pub record FitShelf (mark : ℕ) (batches : List NumberedBatch) : Type 0 where
  pub numbered : AreNumberedFrom (mark + 1) batches
  pub below : mark + length batches < 2 ^ 63
  pub each : All IsBatch (rows_in batches)
  pub light : batches_size (rows_in batches) < BLOCK_BYTES_LIMIT

pub found_fits : (mark : ℕ) (found : LogFound) → IsFound (mark + 1) found → mark < 2 ^ 63 → FitShelf mark found.replayed.batches
found_fits mark found given below =
    let is = given.is in
    let batches : List NumberedBatch = found.replayed.batches in
    let numbered = found_numbered given.bytes (mark + 1) found is in
    let limits = subst (Limited (mark + 1)) (sym numbered.rows) (log_limits given.bytes (mark + 1) found.replayed.gate is.frames is.log (omega (arith, below))) in
    let count : length (rows_in batches) ≡ length batches = length-map batches _ in
    let size = limits.size in
    let within = limits.below in
    record {
      numbered = numbered.numbered;
      below = omega (arith, within, count);
      each = limits.each;
      light = omega (arith, size);
    }

pub found_some : (mark : ℕ) (found : LogFound) → IsFound (mark + 1) found → found.replayed.rotated ≡ true → 0 < length found.replayed.batches
found_some mark found given rotated =
    let is = given.is in
    let batches : List NumberedBatch = found.replayed.batches in
    let numbered = found_numbered given.bytes (mark + 1) found is in
    let some = ended_has_some given.bytes (mark + 1) found.replayed.gate is.frames is.log (sym is.tells.rotated ∙ rotated) in
    let same : length batches ≡ length (history_of is.frames) = sym (length-map batches _) ∙ ap length numbered.rows in
    omega (arith, some, same)

pub found_placed : (first : ℕ) (found : LogFound) → IsFound first found → found.replayed.gate ≤ found.size
found_placed first found given =
    let place = given.is.log.place in
    let size = given.is.size in
    omega (arith, place, size)
