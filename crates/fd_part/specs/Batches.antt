-- The batches of numbered rows.
use Rattle.std.specs.Prelude.{◌≡◌, ◌≢◌, ◌≤◌, ℕ, ◌+◌, ◌==◌, if◌then◌else◌, List, [], ◌∷◌, map, filter, Option, Some, None}
use Rattle.std.specs.BTreeMap.{BTreeMap, IsOrdered, get}
use Rattle.std.specs.Ordering.{nat_cmp}
use Rattle.fd_kinds.specs.declared.batch.NumberedBatch.{NumberedBatch}
use Rattle.fd_kinds.specs.declared.row.Row.{Row}
use Rattle.fd_kinds.specs.declared.row.Numbered.{Numbered}
use Rattle.fd_kinds.specs.Parts.{rows_of}
use Rattle.fd_shelf.specs.Books.{Each, has_number}
use Rattle.fd_shelf.specs.Histories.{in_row_order}

-- the rows of the batch with the number, none where there is no such batch
abbrev pub rows_at : ℕ → List NumberedBatch → List Row
rows_at number [] = []
rows_at number (b ∷ bs) = if number == b.number then b.batch.rows else rows_at number bs

-- the numbers rise, from a least one on
abbrev pub Rises : ℕ → List NumberedBatch → Type 0
Rises least [] = Unit {0}
Rises least (b ∷ bs) = (least ≤ b.number) × Rises (b.number + 1) bs

abbrev pub HasRows : NumberedBatch → Type 0
HasRows b = b.batch.rows ≢ []

-- The batches of numbered rows, one for each number that occurs: its rows in the row order.
pub record AreBatchesOfRows (rows : List Numbered) (batches : List NumberedBatch) : Type 0 where
  pub rises : Rises 0 batches
  pub some : Each HasRows batches
  pub each : (number : ℕ) → rows_at number batches ≡ in_row_order (rows_of (filter (has_number number) rows))

-- none in place of no rows
abbrev pub filled : List Row → Option (List Row)
filled [] = None
filled (r ∷ rows) = Some (r ∷ rows)

-- for each number that occurs its rows, in the order in which they stand
abbrev pub AreByNumber : BTreeMap ℕ (List Row) → List Numbered → Type 0
AreByNumber map rows = (number : ℕ) → get nat_cmp map number ≡ filled (rows_of (filter (has_number number) rows))

abbrev pub entry_of : NumberedBatch → ℕ × List Row
entry_of b = (b.number, b.batch.rows)

abbrev pub ordered : ℕ × List Row → ℕ × List Row
ordered e = (e.0, in_row_order e.1)

-- the batches of the rows of a map, whose keys are in order
pub record AreListed (rows : BTreeMap ℕ (List Row)) (batches : List NumberedBatch) : Type 0 where
  pub entries : map entry_of batches ≡ map ordered rows.entries
  pub keys : IsOrdered nat_cmp rows
