-- The bytes of rows.
use Rattle.std.specs.Prelude.{◌≡◌, ℕ, ◌-◌, ◌<◌, ◌≤◌, ◌^◌, min, List, sum_by, filter, unwrap_or}
use Rattle.std.specs.Ordering.{nat_cmp}
use Rattle.std.specs.BTreeMap.{BTreeMap, get}
use Rattle.fd_kinds.specs.declared.row.Row.{Row}
use Rattle.fd_kinds.specs.declared.row.Numbered.{Numbered}
use Rattle.fd_kinds.specs.RowSize.{row_size}
use Rattle.fd_shelf.specs.Books.{has_number}
use Rattle.fd_kinds.specs.declared.limits.TheConstants.{MOST_BATCH_BYTES}

-- the bytes of the rows by their spelling in the log, and the greatest u64 where they are more
abbrev pub bytes_of : List Row → ℕ
bytes_of rows = min (sum_by row_size rows) (2 ^ 64 - 1)

-- the bytes of the rows of a number
abbrev pub bytes_at : ℕ → List Numbered → ℕ
bytes_at number rows = sum_by (λ n. row_size n.row) (filter (has_number number) rows)

-- the rows of each number are few enough for a batch ..
abbrev pub AreSmallBatches : List Numbered → Type 0
AreSmallBatches rows = (number : ℕ) → bytes_at number rows ≤ MOST_BATCH_BYTES

-- .. and those of some number are not
pub record HasLargeBatch (rows : List Numbered) : Type 0 where
  pub number : ℕ
  pub large : MOST_BATCH_BYTES < bytes_at number rows

-- for each number that occurs the bytes of its rows, all of them few enough for a batch
pub record IsSize (sizes : BTreeMap ℕ ℕ) (rows : List Numbered) (number : ℕ) : Type 0 where
  pub counted : unwrap_or (get nat_cmp sizes number) 0 ≡ bytes_at number rows
  pub small : bytes_at number rows ≤ MOST_BATCH_BYTES

abbrev pub AreSizes : BTreeMap ℕ ℕ → List Numbered → Type 0
AreSizes sizes rows = (number : ℕ) → IsSize sizes rows number
