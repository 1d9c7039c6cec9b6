-- One sealed part in place of others.
use Rattle.std.specs.Prelude.{◌≡◌, IsPermutation, IsSorted, List}
use Rattle.fd_kinds.specs.Parts.{PartMeaning}
use Rattle.fd_column.specs.RowNumbers.{numbered_cmp}
use Rattle.fd_shelf.specs.Books.{IsSealed, rows_in}
use Rattle.fd_shelf.specs.Steps.{lowest, highest}

-- one sealed part for others: it has their range and all their rows, in order
pub record IsSealOf (parts : List PartMeaning) (part : PartMeaning) : Type 0 where
  pub sealed : IsSealed part
  pub lo : part.lo ≡ lowest parts
  pub hi : part.hi ≡ highest parts
  pub rows : IsPermutation (rows_in parts) part.rows
  pub sorted : IsSorted numbered_cmp part.rows
