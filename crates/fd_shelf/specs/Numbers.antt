-- Which numbers a book holds, and where; and what later books keep of that.
use Rattle.std.specs.Prelude.{◌≡◌, ℕ, ◌+◌, ◌≤◌, if◌then◌else◌, List, [], ◌∷◌, length, Some, slice_get}
use Rattle.fd_kinds.specs.Parts.{PartMeaning}
use Rattle.fd_shelf.specs.Books.{Book, Shelved, Any, IsSealed, blocks_of, settled_parts, all_parts}
use Rattle.fd_shelf.specs.Steps.{lowest, highest}

-- the range of the part has the number
abbrev pub Holds : ℕ → PartMeaning → Type 0
Holds number part = (part.lo ≤ number) × (number ≤ part.hi)

-- the part holds the number and is sealed
abbrev pub HoldsSealed : ℕ → PartMeaning → Type 0
HoldsSealed number part = IsSealed part × Holds number part

-- a part holds the number
abbrev pub IsIn : ℕ → List PartMeaning → Type 0
IsIn number parts = Any (Holds number) parts

-- a sealed part holds the number
abbrev pub IsInSealed : ℕ → List PartMeaning → Type 0
IsInSealed number parts = Any (HoldsSealed number) parts

-- the parts at a place of blocks hold the number
pub record IsAt (blocks : List (List PartMeaning)) (block number : ℕ) : Type 0 where
  pub parts : List PartMeaning
  pub here : slice_get blocks block ≡ Some parts
  pub holds : IsIn number parts

-- The number stands in the block: in the closed one at this place, or in the active one behind them.
abbrev pub StandsIn : Book → ℕ → ℕ → Type 0
StandsIn book block number = IsAt (blocks_of book) block number

-- the closed block of this number, with its range
pub record IsClosedBlock (book : Book) (block lo hi : ℕ) : Type 0 where
  pub parts : List PartMeaning
  pub here : slice_get book.closed block ≡ Some parts
  pub begins : lo ≡ lowest parts
  pub ends : hi ≡ highest parts

-- each closed block stays, with its range
abbrev pub KeepsClosed : Book → Book → Type 0
KeepsClosed old new = (block lo hi : ℕ) → IsClosedBlock old block lo hi → IsClosedBlock new block lo hi

-- What each later book keeps of a book: its closed blocks with their ranges, the block that a number stands in, the
-- numbers that are sealed, and all its numbers.
pub record Keeps (old new : Book) : Type 0 where
  pub closed : KeepsClosed old new
  pub blocks : (block number : ℕ) → StandsIn old block number → StandsIn new block number
  pub sealed : (number : ℕ) → IsInSealed number (settled_parts old) → IsInSealed number (settled_parts new)
  pub numbers : (number : ℕ) → IsIn number (all_parts old) → IsIn number (all_parts new)

-- the first number of parts that no sealed one holds, and another where there is none
abbrev pub first_unsealed : ℕ → List PartMeaning → ℕ
first_unsealed other [] = other
first_unsealed other (p ∷ ps) = if p.sealed then first_unsealed other ps else p.lo

-- the first number of the active block that no sealed part holds, and the number behind the mark where there is none
abbrev pub first_loose : Shelved → ℕ
first_loose shelf = first_unsealed (shelf.mark + 1) shelf.book.active

-- Blocks are only added, and while none is, that number stays.
pub record KeepsFirst (old new : Shelved) : Type 0 where
  pub grows : length old.book.closed ≤ length new.book.closed
  pub stays : length new.book.closed ≡ length old.book.closed → first_loose new ≡ first_loose old
