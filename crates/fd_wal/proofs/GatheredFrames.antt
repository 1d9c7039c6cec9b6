-- What a reader has gathered, and one frame more.
use Rattle.std.proofs.Common.{◌≡◌, ℕ, suc, ◌+◌, ◌^◌, ◌<◌, ◌≤◌, Bool, true, false, List, [], ◌∷◌, ◌++◌, length, refl, sym, ap, ◌∙◌, append_assoc, arith}
use Rattle.std.specs.Prelude.{Some}
use Rattle.std.specs.Int.{w64, to_le_bytes}
use Rattle.std.specs.List.{AllByRecursion}
use Rattle.std.proofs.lemmas.Option.{same_Some}
use Rattle.std.proofs.lemmas.List.{append-nil, length-append, length-map, map-append}
use Rattle.std.proofs.lemmas.List.Elements.{All-weaker, All-from_recursion, recursion_from_All}
use Rattle.std.proofs.lemmas.List.Sums.{sum_by-append}
use Rattle.fd_kinds.specs.declared.row.Row.{Row}
use Rattle.fd_kinds.specs.declared.batch.NumberedBatch.{NumberedBatch}
use Rattle.fd_kinds.specs.Stores.{Written, numbered_from}
use Rattle.fd_wal.specs.declared.limits.TheConstants.{MOST_LOG_BYTES}
use Rattle.fd_wal.specs.declared.frame_reader.Gathered.{Gathered}
use Rattle.fd_wal.specs.Frames.{Frame, Transactions, Rotation, payload, framed, batches_size, rows_size, IsBatch, IsOrdered}
use Rattle.fd_wal.specs.Logs.{history_of, is_rotated, Continues}
use Rattle.fd_wal.specs.Gathering.{MayFollow, MayEnd, Gathers, AddsPayload, RefusesPayload, PassesFrame, RefusesFrame}
use Rattle.fd_wal.specs.Reading.{number_at, transactions_at, ended}
use Rattle.fd_wal.specs.Replays.{written_in}
use Rattle.fd_wal.specs.Runs.{rows_in, AreNumberedFrom}
use Rattle.fd_wal.proofs.LogLaws.{frame_is, one_framing}
use Rattle.fd_wal.proofs.Numbers.{IsBytes, wide64, number_takes, number_again}
use Rattle.fd_wal.proofs.Payloads.{BatchFits, batch_is, transactions_body, transactions_take, transactions_again, transactions_fit}

-- ---- histories

pub history_more : (frames : List Frame) (n : ℕ) (batches : List (List Row)) → history_of (frames ++ Transactions n batches ∷ []) ≡ history_of frames ++ batches
history_more [] n batches = append-nil batches
history_more (Transactions m a ∷ frames) n batches = ap (λ h. a ++ h) (history_more frames n batches) ∙ sym (append_assoc a (history_of frames) batches)
history_more (Rotation hi ∷ frames) n batches = history_more frames n batches

pub history_ended : (frames : List Frame) (hi : ℕ) → history_of (frames ++ Rotation hi ∷ []) ≡ history_of frames
history_ended [] hi = refl
history_ended (Transactions m a ∷ frames) hi = ap (λ h. a ++ h) (history_ended frames hi)
history_ended (Rotation lo ∷ frames) hi = history_ended frames hi

pub rotated_more : (frames : List Frame) (n : ℕ) (batches : List (List Row)) → is_rotated (frames ++ Transactions n batches ∷ []) ≡ is_rotated frames
rotated_more [] n batches = refl
rotated_more (Transactions m a ∷ frames) n batches = rotated_more frames n batches
rotated_more (Rotation hi ∷ frames) n batches = refl

pub rotated_ended : (frames : List Frame) (hi : ℕ) → is_rotated (frames ++ Rotation hi ∷ []) ≡ true
rotated_ended [] hi = refl
rotated_ended (Transactions m a ∷ frames) hi = rotated_ended frames hi
rotated_ended (Rotation lo ∷ frames) hi = refl

numbered_more : (first : ℕ) (a b : List (List Row)) → numbered_from first (a ++ b) ≡ numbered_from first a ++ numbered_from (first + length a) b
numbered_more first [] b = let place : first ≡ first + 0 = omega arith in ap (λ n. numbered_from n b) place
numbered_more first (rows ∷ a) b =
    let place : (first + 1) + length a ≡ first + length (rows ∷ a) = omega arith in
    ap (λ (ws : List Written). record { number = first; rows = rows } ∷ ws) (numbered_more (first + 1) a b ∙ ap (λ n. numbered_from (first + 1) a ++ numbered_from n b) place)

written_is : (first : ℕ) (batches : List NumberedBatch) → AreNumberedFrom first batches → written_in batches ≡ numbered_from first (rows_in batches)
written_is first [] are = refl
written_is first (b ∷ batches) are =
    ap (λ n. record { number = n; rows = b.batch.rows } ∷ written_in batches) are.0
    ∙ ap (λ (ws : List Written). record { number = first; rows = b.batch.rows } ∷ ws) (written_is (first + 1) batches are.1)

numbered_length : (first : ℕ) (history : List (List Row)) → length (numbered_from first history) ≡ length history
numbered_length first [] = refl
numbered_length first (rows ∷ history) = ap suc (numbered_length (first + 1) history)

-- as many batches as the history has
gathered_length : (first : ℕ) (frames : List Frame) (g : Gathered) → Gathers first frames g → length g.batches.items ≡ length (history_of frames)
gathered_length first frames g is =
    sym (length-map g.batches.items (λ b. record { number = b.number; rows = b.batch.rows })) ∙ ap length is.written ∙ numbered_length first (history_of frames)

-- ---- transactions

batches_are : (batches : List (List Row)) → AllByRecursion BatchFits batches → AllByRecursion IsOrdered batches → AllByRecursion IsBatch batches
batches_are [] fit ordered = tt
batches_are (rows ∷ batches) fit ordered = (record { each = batch_is rows fit.0; ordered = ordered.0 }, batches_are batches fit.1 ordered.1)

pub adds_transactions : (old new : Gathered) (bytes : List ℕ) (batches : List NumberedBatch) → IsBytes bytes → length bytes + 2 < 2 ^ 32 → old.rotated ≡ false
    → ended (transactions_at bytes) ≡ Some (Transactions old.next (rows_in batches)) → AreNumberedFrom old.next batches → MayFollow old.next old.next (rows_in batches)
    → old.bytes + batches_size (rows_in batches) ≤ MOST_LOG_BYTES
    → new.batches.items ≡ old.batches.items ++ batches → new.next ≡ old.next + length batches → new.bytes ≡ old.bytes + batches_size (rows_in batches) → new.rotated ≡ old.rotated
    → AddsPayload (1 ∷ 1 ∷ bytes) old new
adds_transactions old new bytes batches fits short unended read numbered follows small joined next size kept first frames is =
    let rows = rows_in batches in
    let took = transactions_take bytes old.next rows fits read in
    let spelled : 1 ∷ 1 ∷ bytes ≡ payload (Transactions old.next rows) = ap (λ (t : List ℕ). 1 ∷ 1 ∷ t) took.0 in
    let sums : batches_size (history_of frames ++ rows) ≡ old.bytes + batches_size rows = sum_by-append rows_size (history_of frames) rows ∙ ap (λ n. n + batches_size rows) (sym is.size) in
    let more = history_more frames old.next rows in
    let count : length rows ≡ length batches = length-map batches (λ b. b.batch.rows) in
    let long : length (history_of frames ++ rows) ≡ length (history_of frames) + length rows = length-append (history_of frames) rows in
    let following = is.following in
    let below = follows.below in
    record {
      frame = Transactions old.next rows;
      spelled = spelled;
      right = record {
        unended = sym is.ended ∙ unended;
        next = is.following;
        fits = omega (arith, sums, small);
        transactions = record {
          below = follows.below;
          some = follows.some;
          few = took.1.1;
          each = All-from_recursion IsBatch rows (batches_are rows took.1.2 (recursion_from_All IsOrdered rows follows.each));
          short = let len = ap length spelled in omega (arith, len, short);
        };
      };
      gathers = record {
        written = ap written_in joined
            ∙ map-append (λ b. record { number = b.number; rows = b.batch.rows }) old.batches.items batches
            ∙ ap (λ ws. ws ++ written_in batches) is.written
            ∙ ap (λ ws. numbered_from first (history_of frames) ++ ws) (written_is old.next batches numbered ∙ ap (λ n. numbered_from n rows) is.following)
            ∙ sym (numbered_more first (history_of frames) rows)
            ∙ ap (numbered_from first) (sym more);
        following = next ∙ ap (λ n. n + length batches) is.following ∙ (let e : (first + length (history_of frames)) + length batches ≡ first + length (history_of frames ++ rows) = omega (arith, long, count) in e) ∙ ap (λ h. first + length h) (sym more);
        within = λ some. omega (arith, next, count, below);
        size = size ∙ sym sums ∙ ap batches_size (sym more);
        ended = kept ∙ is.ended ∙ sym (rotated_more frames old.next rows);
      };
    }

-- the kind of a payload
kind_differs : (a b : List ℕ) → 1 ∷ 1 ∷ a ≡ 1 ∷ 2 ∷ b → ⊥
kind_differs a b e = cc

abbrev behind : List ℕ → List ℕ
behind [] = []
behind (b ∷ bytes) = bytes

-- what is known of a frame of transactions with this payload
pub record Wanted (old : Gathered) (bytes : List ℕ) (first : ℕ) (frames : List Frame) : Type 0 where
  pub number : ℕ
  pub batches : List (List Row)
  pub read : ended (transactions_at bytes) ≡ Some (Transactions number batches)
  pub follows : MayFollow old.next number batches
  pub unended : old.rotated ≡ false
  pub fits : old.bytes + batches_size batches ≤ MOST_LOG_BYTES

wanted : (old : Gathered) (bytes : List ℕ) (first : ℕ) (frames : List Frame) → Gathers first frames old → (frame : Frame) → 1 ∷ 1 ∷ bytes ≡ payload frame → Continues first frames frame → Wanted old bytes first frames
wanted old bytes first frames is (Transactions n batches) e right =
    let body : bytes ≡ transactions_body n batches = ap (λ (t : List ℕ). behind (behind t)) e in
    let sums : batches_size (history_of frames ++ batches) ≡ old.bytes + batches_size batches = sum_by-append rows_size (history_of frames) batches ∙ ap (λ m. m + batches_size batches) (sym is.size) in
    let fits = right.fits in
    record {
      number = n;
      batches = batches;
      read = ap (λ t. ended (transactions_at t)) body ∙ transactions_again n batches (transactions_fit n batches right.transactions);
      follows = record {
        is = right.next ∙ sym is.following;
        below = right.transactions.below;
        some = right.transactions.some;
        each = All-weaker IsBatch IsOrdered (λ rows batch. batch.ordered) batches right.transactions.each;
      };
      unended = is.ended ∙ right.unended;
      fits = omega (arith, sums, fits);
    }
wanted old bytes first frames is (Rotation hi) e right = absurd (kind_differs bytes (to_le_bytes w64 hi) e)

true_false : (b : Bool) → b ≡ true → b ≡ false → ⊥
true_false b is isnt = cc

pub refuses_ended : (old : Gathered) (bytes : List ℕ) → old.rotated ≡ true → RefusesPayload (1 ∷ 1 ∷ bytes) old
refuses_ended old bytes ended first frames is frame e right = true_false old.rotated ended (wanted old bytes first frames is frame e right).unended

pub refuses_unread : (old : Gathered) (bytes : List ℕ)
    → ((first : ℕ) (all : List (List Row)) → ended (transactions_at bytes) ≡ Some (Transactions first all) → MayFollow old.next first all → ⊥)
    → RefusesPayload (1 ∷ 1 ∷ bytes) old
refuses_unread old bytes never first frames is frame e right =
    let w = wanted old bytes first frames is frame e right in
    never w.number w.batches w.read w.follows

one_kind : (m n : ℕ) (a b : List (List Row)) → Transactions m a ≡ Transactions n b → a ≡ b
one_kind m n a b e = cc

pub refuses_large : (old : Gathered) (bytes : List ℕ) (number : ℕ) (batches : List (List Row)) → ended (transactions_at bytes) ≡ Some (Transactions number batches)
    → MOST_LOG_BYTES < old.bytes + batches_size batches → RefusesPayload (1 ∷ 1 ∷ bytes) old
refuses_large old bytes number batches read large first frames is frame e right =
    let w = wanted old bytes first frames is frame e right in
    let same : batches ≡ w.batches = one_kind number w.number batches w.batches (same_Some _ _ (sym read ∙ w.read)) in
    let size = ap batches_size same in
    let fits = w.fits in
    omega (arith, large, size, fits)

-- ---- rotations

pub ends_log : (old new : Gathered) (bytes rest : List ℕ) (hi : ℕ) → IsBytes bytes → number_at w64 bytes ≡ Some (hi, rest) → length rest ≡ 0 → old.rotated ≡ false → 0 < length old.batches.items → hi + 1 ≡ old.next
    → new.batches.items ≡ old.batches.items → new.next ≡ old.next → new.bytes ≡ old.bytes → new.rotated ≡ true → AddsPayload (1 ∷ 2 ∷ bytes) old new
ends_log old new bytes rest hi fits read none unended some greatest batches next size ended first frames is =
    let t = number_takes w64 (2 ^ 64) wide64 bytes (hi, rest) fits read in
    let nothing : rest ≡ [] = by rest none in
    let whole : bytes ≡ to_le_bytes w64 hi = t.0.parts ∙ ap (λ r. to_le_bytes w64 hi ++ r) nothing ∙ append-nil (to_le_bytes w64 hi) in
    let count = gathered_length first frames old is in
    let within : old.next ≤ 2 ^ 63 = is.within (omega (arith, count, some)) in
    let same = history_ended frames hi in
    record {
      frame = Rotation hi;
      spelled = ap (λ (t : List ℕ). 1 ∷ 2 ∷ t) whole;
      right = record {
        unended = sym is.ended ∙ unended;
        some = omega (arith, count, some);
        next = greatest ∙ is.following;
        below = omega (arith, within, greatest);
      };
      gathers = record {
        written = ap written_in batches ∙ is.written ∙ ap (numbered_from first) (sym same);
        following = next ∙ is.following ∙ ap (λ h. first + length h) (sym same);
        within = λ more. omega (arith, next, within);
        size = size ∙ is.size ∙ ap batches_size (sym same);
        ended = ended ∙ sym (rotated_ended frames hi);
      };
    }
  where
    by : (r : List ℕ) → length r ≡ 0 → r ≡ []
    by [] e = refl
    by (b ∷ r) e = absurd (omega (arith, e))

-- what is known of a rotation with this payload
pub record Ending (old : Gathered) (bytes : List ℕ) : Type 0 where
  pub hi : ℕ
  pub read : number_at w64 bytes ≡ Some (hi, [])
  pub unended : old.rotated ≡ false
  pub some : 0 < length old.batches.items
  pub greatest : hi + 1 ≡ old.next

ending : (old : Gathered) (bytes : List ℕ) (first : ℕ) (frames : List Frame) → Gathers first frames old → (frame : Frame) → 1 ∷ 2 ∷ bytes ≡ payload frame → Continues first frames frame → Ending old bytes
ending old bytes first frames is (Transactions n batches) e right = absurd (kind_differs (transactions_body n batches) bytes (sym e))
ending old bytes first frames is (Rotation hi) e right =
    let body : bytes ≡ to_le_bytes w64 hi ++ [] = ap (λ (t : List ℕ). behind (behind t)) e ∙ sym (append-nil (to_le_bytes w64 hi)) in
    let below = right.below in
    let count = gathered_length first frames old is in
    let some = right.some in
    record {
      hi = hi;
      read = ap (number_at w64) body ∙ number_again w64 (2 ^ 64) wide64 hi [] (omega (arith, below));
      unended = is.ended ∙ right.unended;
      some = omega (arith, count, some);
      greatest = right.next ∙ sym is.following;
    }

pub refuses_ending : (old : Gathered) (bytes : List ℕ) → (Ending old bytes → ⊥) → RefusesPayload (1 ∷ 2 ∷ bytes) old
refuses_ending old bytes never first frames is frame e right = never (ending old bytes first frames is frame e right)

-- bytes behind the number, and a number that may not stand there
pub refuses_more : (old : Gathered) (bytes rest : List ℕ) (hi : ℕ) → number_at w64 bytes ≡ Some (hi, rest) → 0 < length rest → RefusesPayload (1 ∷ 2 ∷ bytes) old
refuses_more old bytes rest hi read more = refuses_ending old bytes (λ (e : Ending old bytes). none e (same_Some (hi, rest) (e.hi, []) (sym read ∙ e.read)))
  where
    none : (e : Ending old bytes) → ◌≡◌ {A = ℕ × List ℕ} (hi, rest) (e.hi, []) → ⊥
    none e same = let size : length rest ≡ 0 = ap (λ (x : ℕ × List ℕ). length x.1) same in omega (arith, size, more)

pub refuses_number : (old : Gathered) (bytes rest : List ℕ) (hi : ℕ) → number_at w64 bytes ≡ Some (hi, rest) → (MayEnd old hi → ⊥) → RefusesPayload (1 ∷ 2 ∷ bytes) old
refuses_number old bytes rest hi read never = refuses_ending old bytes (λ (e : Ending old bytes). by e (same_Some (hi, rest) (e.hi, []) (sym read ∙ e.read)))
  where
    by : (e : Ending old bytes) → ◌≡◌ {A = ℕ × List ℕ} (hi, rest) (e.hi, []) → ⊥
    by e same =
        let number : hi ≡ e.hi = ap (λ (x : ℕ × List ℕ). x.0) same in
        let greatest = e.greatest in
        never (record { unended = e.unended; some = e.some; greatest = omega (arith, number, greatest) })

pub refuses_kind : (old : Gathered) (bytes : List ℕ) → ((rest : List ℕ) → bytes ≡ 1 ∷ 1 ∷ rest → ⊥) → ((rest : List ℕ) → bytes ≡ 1 ∷ 2 ∷ rest → ⊥) → RefusesPayload bytes old
refuses_kind old bytes one two first frames is (Transactions n batches) e right = one (transactions_body n batches) e
refuses_kind old bytes one two first frames is (Rotation hi) e right = two (to_le_bytes w64 hi) e

-- ---- frames

pub passes_frame : (bytes text rest : List ℕ) (old new : Gathered) → bytes ≡ framed text ++ rest → 0 < length rest → AddsPayload text old new → PassesFrame bytes rest old new
passes_frame bytes text rest old new found some adds first frames is =
    let a = adds first frames is in
    record { frame = a.frame; spelled = found ∙ ap (λ (t : List ℕ). framed t ++ rest) a.spelled; gated = some; right = a.right; gathers = a.gathers }

pub refuses_cut : (bytes : List ℕ) (old : Gathered) → ((text rest : List ℕ) → length text < 2 ^ 32 → 0 < length rest → bytes ≡ framed text ++ rest → ⊥) → RefusesFrame bytes old
refuses_cut bytes old never first frames is frame rest e some right = never (payload frame) rest (frame_is first frames frame right).short some e

pub refuses_frame : (bytes text after : List ℕ) (old : Gathered) → length text < 2 ^ 32 → bytes ≡ framed text ++ after → RefusesPayload text old → RefusesFrame bytes old
refuses_frame bytes text after old short found refuses first frames is frame rest e some right =
    let one = one_framing text (payload frame) after rest short (frame_is first frames frame right).short (sym found ∙ e) in
    refuses first frames is frame one.0 right
