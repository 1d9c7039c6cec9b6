-- A merge of rows in order: which row is next, and what each step keeps.
use Rattle.std.specs.Prelude.{◌≡◌, ◌+◌, ◌<◌, Bool, true, not, ◌&&◌, if◌then◌else◌, List, [], ◌∷◌, ◌++◌, length, slice_get, Option, Some, None, All, IsTrue, IsPermutation, IsSorted}
use Rattle.std.specs.Ordering.{is_lt}
use Rattle.fd_kinds.specs.declared.row.Numbered.{Numbered}
use Rattle.fd_column.specs.RowNumbers.{numbered_cmp, IsNumber}
use Rattle.fd_merge.specs.declared.side.Side.{Side}
use Rattle.fd_merge.specs.declared.side.Side.TheVariants.{Left, Right}

-- the first of the rows goes to the end of those that are done
pub record MovesFirst (done rest done' rest' : List Numbered) : Type 0 where
  pub first : Numbered
  pub rest_is : rest ≡ first ∷ rest'
  pub done_is : done' ≡ done ++ first ∷ []

-- the side of the next row: the right where its first row is below that of the left, or nothing is left there
abbrev pub next_of : Option Numbered → Option Numbered → Option Side
next_of None None = None
next_of (Some a) None = Some Left
next_of None (Some b) = Some Right
next_of (Some a) (Some b) = Some (if is_lt (numbered_cmp b a) then Right else Left)

abbrev pub next_side : List Numbered → List Numbered → Option Side
next_side left right = next_of (slice_get left 0) (slice_get right 0)

-- x is not above the first of the rows
abbrev pub leads : Numbered → List Numbered → Bool
leads x [] = true
leads x (y ∷ ys) = not (is_lt (numbered_cmp y x))

-- each row is not above the next
abbrev pub rises : List Numbered → Bool
rises [] = true
rises (x ∷ xs) = leads x xs && rises xs

-- what is done and what is left of both sides are all rows, and what is done may be followed by either side
pub record Merges (all done left right : List Numbered) : Type 0 where
  pub same : IsPermutation all (done ++ (left ++ right))
  pub with_left : IsTrue (rises (done ++ left))
  pub with_right : IsTrue (rises (done ++ right))

-- one step of a merge
pub record Turns (done left right done' left' right' : List Numbered) : Type 0 where
  pub keeps : (all : List Numbered) → Merges all done left right → Merges all done' left' right'
  pub left_numbers : All IsNumber left'
  pub right_numbers : All IsNumber right'
  pub fewer : length left' + length right' < length left + length right

-- no row is done, and all rows of both sides are left
pub record Starts (left right done left' right' : List Numbered) : Type 0 where
  pub done_is : done ≡ []
  pub left_is : left' ≡ left
  pub right_is : right' ≡ right

-- all rows are done, in order
pub record Ends (done left right done' : List Numbered) : Type 0 where
  pub rows : (all : List Numbered) → Merges all done left right → IsPermutation all done'
  pub sorted : (all : List Numbered) → Merges all done left right → IsSorted numbered_cmp done'
