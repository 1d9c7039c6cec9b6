-- One sealed part in place of the loose parts of a range.
use Rattle.std.specs.Prelude.{◌≡◌, ◌≢◌, ◌⊎◌, ℕ, ◌+◌, ◌-◌, ◌≤◌, ◌<◌, Bool, nat_lt, List, [], ◌∷◌, ◌++◌, length, take, drop, filter}
use Rattle.fd_kinds.specs.Parts.{PartMeaning, IsPart}
use Rattle.fd_shelf.specs.declared.replacement.NotReplaced.{NotReplaced}
use Rattle.fd_shelf.specs.declared.replacement.NotReplaced.TheVariants.{Overtaken, Changed}
use Rattle.fd_shelf.specs.Books.{Book, Shelved, Each, Any, Follows, IsLoose, IsSealed, SealedFirst}
use Rattle.fd_shelf.specs.Histories.{batch_at}

-- the part holds the number and is loose
abbrev pub HoldsLoose : ℕ → PartMeaning → Type 0
HoldsLoose number part = IsLoose part × (part.lo ≤ number) × (number ≤ part.hi)

-- a loose part holds the number
abbrev pub IsInLoose : ℕ → List PartMeaning → Type 0
IsInLoose number parts = Any (HoldsLoose number) parts

-- The number stands against replacing the parts from lo to hi: it is below them and in a loose part, or it is one of
-- theirs and in no such part.
abbrev pub IsChanged : ℕ → ℕ → List PartMeaning → ℕ → Type 0
IsChanged lo hi parts number = ((number < lo) × IsInLoose number parts) ⊎ ((lo ≤ number) × (number ≤ hi) × (IsInLoose number parts → ⊥))

-- the number is one of these, and none below it is
pub record IsLeast (Is : ℕ → Type 0) (number : ℕ) : Type 0 where
  pub here : Is number
  pub below : (m : ℕ) → m < number → Is m → ⊥

-- for each number of its range the part has the rows that the parts have
abbrev pub HasRowsOf : List PartMeaning → PartMeaning → Type 0
HasRowsOf parts part = (number : ℕ) → part.lo ≤ number → number ≤ part.hi → batch_at (part ∷ []) number ≡ batch_at parts number

abbrev pub ends_below : ℕ → PartMeaning → Bool
ends_below lo part = nat_lt part.hi lo

abbrev pub begins_above : ℕ → PartMeaning → Bool
begins_above hi part = nat_lt hi part.lo

-- the parts below the range, the part, and the parts above the range
abbrev pub put_over : PartMeaning → List PartMeaning → List PartMeaning
put_over part parts = filter (ends_below part.lo) parts ++ part ∷ filter (begins_above part.hi) parts

-- the shelf with the part in its active block, and all else as it was
abbrev pub replaced : PartMeaning → Shelved → Shelved
replaced part shelf =
    record { book = record { closed = shelf.book.closed; active = put_over part shelf.book.active; stragglers = shelf.book.stragglers }; mark = shelf.mark; spare = shelf.spare }

-- Why a part for a range of a block was handed back: another block is the active one, or the least number that stands
-- against it in the active block.
abbrev pub HandsBack : {P : Type 0} → Book → ℕ → ℕ → ℕ → P → NotReplaced P → Type 0
HandsBack book block lo hi part (Overtaken active kept) = (block ≢ length book.closed) × (active ≡ length book.closed) × (kept ≡ part)
HandsBack book block lo hi part (Changed at kept) = (block ≡ length book.closed) × IsLeast (IsChanged lo hi book.active) at × (kept ≡ part)

-- the parts of a block in order, up to a mark
pub record IsInOrder (parts : List PartMeaning) (mark : ℕ) : Type 0 where
  pub first : ℕ
  pub counted : 0 < first
  pub follows : Follows first parts mark
  pub are : Each IsPart parts
  pub sealed_first : SealedFirst parts

-- At the place stands the first loose part, with the number.
pub record IsFirstLoose (parts : List PartMeaning) (at number : ℕ) : Type 0 where
  pub sealed : Each IsSealed (take at parts)
  pub part : PartMeaning
  pub others : List PartMeaning
  pub here : drop at parts ≡ part ∷ others
  pub loose : IsLoose part
  pub begins : part.lo ≡ number

-- From the place on stand the parts of the range, one for each of its numbers, and behind them those above the range.
-- None of these is sealed, and all before are.
pub record IsRunAt (parts : List PartMeaning) (mark lo hi at : ℕ) : Type 0 where
  pub counted : 0 < lo
  pub sealed : Each IsSealed (take at parts)
  pub loose : Each IsLoose (drop at parts)
  pub follows : Follows lo (drop at parts) mark
  pub bounded : hi ≤ mark
  pub inside : at + (hi - lo + 1) ≤ length parts
