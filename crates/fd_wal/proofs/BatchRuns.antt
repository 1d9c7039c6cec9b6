-- The frame of a run of batches.
use Rattle.std.proofs.Common.{◌≡◌, ℕ, zero, suc, ◌+◌, ◌^◌, ◌<◌, ◌≤◌, List, [], ◌∷◌, ◌++◌, length, take, map, get_or, All, refl, sym, ap, subst, ◌∙◌, arith}
use Rattle.std.specs.Prelude.{flat_map}
use Rattle.std.specs.List.{AllByRecursion}
use Rattle.std.proofs.lemmas.List.{length-map, length-take-le, take-map, map-id}
use Rattle.std.proofs.lemmas.List.Elements.{All-from_recursion, recursion_from_All, All-take}
use Rattle.fd_kinds.specs.declared.row.Row.{Row}
use Rattle.fd_kinds.specs.declared.batch.NumberedBatch.{NumberedBatch}
use Rattle.fd_wal.specs.Frames.{Transactions, payload, batch_spelling, framed, frame_bytes, IsRow, IsBatch}
use Rattle.fd_wal.specs.Logs.{AreTransactions}
use Rattle.fd_wal.specs.Runs.{rows_in, first_number, frame_of, IsSmallBatch, transactions_head, spelled_payload, IsLongestRun}
use Rattle.fd_wal.proofs.Sizes.{pieces_of, run_length, few_items, run_within}

abbrev pub spelling_of : NumberedBatch → List ℕ
spelling_of b = batch_spelling b.batch.rows

pub fused : (bs : List NumberedBatch) → map spelling_of bs ≡ map batch_spelling (rows_in bs)
fused [] = refl
fused (b ∷ bs) = ap (λ ts. batch_spelling b.batch.rows ∷ ts) (fused bs)

pub run_is : (xs bs : List NumberedBatch) (n k : ℕ) → xs ≡ bs → n ≡ k → IsLongestRun (map spelling_of xs) n → IsLongestRun (map batch_spelling (rows_in bs)) k
run_is xs bs n k e c run = subst (λ m. IsLongestRun (map batch_spelling (rows_in bs)) m) c (subst (λ ts. IsLongestRun ts n) (ap (map spelling_of) e ∙ fused bs) run)

pub spelled_is : (first : ℕ) (batches : List (List Row)) → spelled_payload first (map batch_spelling batches) ≡ payload (Transactions first batches)
spelled_is first batches =
    ap (λ k. transactions_head first k ++ flat_map (λ piece. piece) (map batch_spelling batches)) (length-map batches batch_spelling)
    ∙ ap (λ t. transactions_head first (length batches) ++ t) (pieces_of batch_spelling batches)

first_is : (xs : List NumberedBatch) (count : ℕ) → 0 < count → first_number xs ≡ first_number (take count xs)
first_is [] zero some = refl
first_is [] (suc count) some = refl
first_is (x ∷ xs) zero some = absurd (omega (arith, some))
first_is (x ∷ xs) (suc count) some = refl

pub head_number : (xs : List NumberedBatch) (b : NumberedBatch) → 0 < length xs → (get_or xs 0 b).number ≡ first_number xs
head_number [] b there = absurd (omega (arith, there))
head_number (x ∷ xs) b there = refl

pub frame_is : (xs bs : List NumberedBatch) (count k first : ℕ) → xs ≡ bs → count ≡ k → 0 < count → first ≡ first_number xs
    → framed (spelled_payload first (take count (map spelling_of xs))) ≡ frame_bytes (frame_of (take k bs))
frame_is xs bs count k first e c some is =
    let number : first ≡ first_number (take count xs) = is ∙ first_is xs count some in
    let spelled : take count (map spelling_of xs) ≡ map batch_spelling (rows_in (take count xs)) = take-map spelling_of count xs ∙ fused (take count xs) in
    ap framed (
    ap (spelled_payload first) spelled
    ∙ ap (λ n. spelled_payload n (map batch_spelling (rows_in (take count xs)))) number
    ∙ spelled_is (first_number (take count xs)) (rows_in (take count xs)))
    ∙ ap (λ n. frame_bytes (frame_of (take n xs))) c
    ∙ ap (λ ys. frame_bytes (frame_of (take k ys))) e

pub are_transactions : (first : ℕ) (batches : List (List Row)) (count : ℕ) → first + length batches ≤ 2 ^ 63 → IsLongestRun (map batch_spelling batches) count → All IsBatch (take count batches) → AreTransactions first (take count batches)
are_transactions first batches count below run each =
    let within = run_within batch_spelling batches count run in
    let long : length (take count batches) ≡ count = length-take-le count batches within in
    let size = run_length batch_spelling batches count 0 in
    let mine = run_length batch_spelling batches count first in
    let few = few_items (λ rows. length (batch_spelling rows)) (λ rows. omega arith) (take count batches) in
    let same = ap length (ap (spelled_payload first) (take-map batch_spelling count batches) ∙ spelled_is first (take count batches)) in
    let fits = run.fits in
    let some = run.some in
    record {
      below = omega (arith, below, within, long);
      some = omega (arith, some, long);
      few = omega (arith, few, size, fits);
      each = each;
      short = omega (arith, same, mine, size, fits);
    }

rows_right : (bs : List NumberedBatch) → AllByRecursion (λ b. All IsRow b.batch.rows) bs → AllByRecursion IsSmallBatch bs → AllByRecursion IsBatch (rows_in bs)
rows_right [] sound small = tt
rows_right (b ∷ bs) sound small = (record { each = sound.0; ordered = record { sorted = b.batch.sorted; small = small.0 } }, rows_right bs sound.1 small.1)

pub run_transactions : (xs bs : List NumberedBatch) (count k first : ℕ) → xs ≡ bs → count ≡ k → first + length bs ≤ 2 ^ 63 → IsLongestRun (map spelling_of xs) count
    → All (λ b. All IsRow b.batch.rows) (take count xs) → All IsSmallBatch bs → AreTransactions first (rows_in (take k bs))
run_transactions xs bs count k first e c below run sound small =
    let rows = take-map (λ (b : NumberedBatch). b.batch.rows) k bs in
    let mine : All (λ b. All IsRow b.batch.rows) (take k bs) = subst (λ n. All (λ b. All IsRow b.batch.rows) (take n bs)) c (subst (λ ys. All (λ b. All IsRow b.batch.rows) (take count ys)) e sound) in
    let each : All IsBatch (rows_in (take k bs)) = All-from_recursion IsBatch (rows_in (take k bs)) (rows_right (take k bs) (recursion_from_All (λ b. All IsRow b.batch.rows) (take k bs) mine) (recursion_from_All IsSmallBatch (take k bs) (All-take IsSmallBatch k bs small))) in
    subst (AreTransactions first) rows (are_transactions first (rows_in bs) k (omega (arith, below, length-map bs (λ (b : NumberedBatch). b.batch.rows))) (run_is xs bs count k e c run) (subst (All IsBatch) (sym rows) each))

-- ---- batches that were spelled before

pub spelled_run : (xs : List (List ℕ)) (batches : List (List Row)) (n k : ℕ) → xs ≡ map batch_spelling batches → n ≡ k → IsLongestRun (map (λ bytes. bytes) xs) n → IsLongestRun (map batch_spelling batches) k
spelled_run xs batches n k e c run = subst (λ m. IsLongestRun (map batch_spelling batches) m) c (subst (λ ts. IsLongestRun ts n) (map-id xs ∙ e) run)

pub spelled_frame : (xs : List (List ℕ)) (batches : List (List Row)) (n k first : ℕ) → xs ≡ map batch_spelling batches → n ≡ k
    → framed (spelled_payload first (take n (map (λ bytes. bytes) xs))) ≡ frame_bytes (Transactions first (take k batches))
spelled_frame xs batches n k first e c =
    ap (λ ts. framed (spelled_payload first (take n ts))) (map-id xs ∙ e)
    ∙ ap (λ m. framed (spelled_payload first (take m (map batch_spelling batches)))) c
    ∙ ap (λ ts. framed (spelled_payload first ts)) (take-map batch_spelling k batches)
    ∙ ap framed (spelled_is first (take k batches))
