-- Batches that are read one by one, with their numbers.
use Rattle.std.proofs.Common.{◌≡◌, ℕ, ◌+◌, ◌-◌, ◌<◌, List, [], ◌∷◌, ◌++◌, length, All, sym, subst, arith}
use Rattle.std.specs.Prelude.{Some}
use Rattle.std.proofs.lemmas.List.{map-append, length-append}
use Rattle.std.proofs.lemmas.List.Elements.{All-push}
use Rattle.fd_kinds.specs.declared.row.Row.{Row}
use Rattle.fd_kinds.specs.declared.batch.NumberedBatch.{NumberedBatch}
use Rattle.fd_kinds.specs.History.{IsSmall}
use Rattle.fd_wal.specs.Frames.{IsOrdered}
use Rattle.fd_wal.specs.Reading.{Reading, batch_at, many_at, with_front}
use Rattle.fd_wal.specs.Runs.{rows_in, AreNumberedFrom}
use Rattle.fd_wal.proofs.Many.{goes_on}

-- so many of the batches of a reading are there, and the others are still to be read
pub record Collects (first count at : ℕ) (batches : List NumberedBatch) (rest : List ℕ) (total : Reading (List (List Row))) : Type 0 where
  pub read : with_front (rows_in batches) (many_at batch_at (count - at) rest) ≡ total
  pub numbered : AreNumberedFrom first batches
  pub many : length batches ≡ at
  pub ordered : All IsOrdered (rows_in batches)

numbered_more : (first : ℕ) (batches : List NumberedBatch) (b : NumberedBatch) → AreNumberedFrom first batches → b.number ≡ first + length batches → AreNumberedFrom first (batches ++ b ∷ [])
numbered_more first [] b are is = (omega (arith, is), tt)
numbered_more first (a ∷ batches) b are is = (are.0, numbered_more (first + 1) batches b are.1 (omega (arith, is)))

pub collects_more : (first count at : ℕ) (batches new : List NumberedBatch) (b : NumberedBatch) (rest after : List ℕ) (total : Reading (List (List Row))) → at < count → Collects first count at batches rest total
    → batch_at rest ≡ Some (b.batch.rows, after) → IsSmall b.batch.rows → b.number ≡ first + at → new ≡ batches ++ b ∷ [] → Collects first count (at + 1) new after total
collects_more first count at batches new b rest after total lt so_far read small number pushed =
    let many = so_far.many in
    let rows : rows_in (batches ++ b ∷ []) ≡ rows_in batches ++ b.batch.rows ∷ [] = map-append (λ a. a.batch.rows) batches (b ∷ []) in
    let step = goes_on batch_at (rows_in batches) count at rest b.batch.rows after total lt read so_far.read in
    let made : Collects first count (at + 1) (batches ++ b ∷ []) after total = record {
      read = subst (λ (front : List (List Row)). with_front front (many_at batch_at (count - (at + 1)) after) ≡ total) (sym rows) step;
      numbered = numbered_more first batches b so_far.numbered (omega (arith, number, many));
      many = omega (arith, many, length-append batches (b ∷ []));
      ordered = subst (λ (front : List (List Row)). All IsOrdered front) (sym rows) (All-push IsOrdered (rows_in batches) b.batch.rows so_far.ordered (record { sorted = b.batch.sorted; small = small }));
    } in
    subst (λ (bs : List NumberedBatch). Collects first count (at + 1) bs after total) (sym pushed) made
