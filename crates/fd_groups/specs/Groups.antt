-- Maps from the keys of rows to what was gathered of the rows with each key.
use Rattle.std.specs.Prelude.{◌≡◌, ℕ, ℤ, pos, ◌<◌, Bool, true, false, List, length, get_or, filter, Some, MatchOption}
use Rattle.std.specs.List.{list_any}
use Rattle.std.specs.Ordering.{is_eq, int_cmp}
use Rattle.std.specs.BTreeMap.{BTreeMap, IsOrdered, get}
use Rattle.std.specs.declared.cmp.Ordering.{Ordering}
use Rattle.fd_kinds.specs.declared.row.Row.{Row}
use Rattle.fd_kinds.specs.declared.labels.Labels.{Labels}
use Rattle.fd_kinds.specs.RowOrder.{labels_cmp}
use Rattle.fd_kinds.specs.Meaning.{stack_cmp, value_sum}

module _ {K : Type 0} (order : K → K → Ordering) (key : Row → K) where
  abbrev pub has_key : K → Row → Bool
  has_key k row = is_eq (order k (key row))

  -- The keys rise. A key that rows have, and no other, stands for something that is of these rows.
  pub record IsGrouped {X : Type 0} (Of : X → List Row → Type 0) (groups : BTreeMap K X) (rows : List Row) : Type 0 where
    pub rising : IsOrdered order groups
    pub each : (k : K) → MatchOption (get order groups k)
        (list_any (has_key k) rows ≡ false)
        (λ x. (list_any (has_key k) rows ≡ true) × Of x (filter (has_key k) rows))

-- the sum of the values of rows
abbrev pub IsSum : ℤ → List Row → Type 0
IsSum sum rows = sum ≡ value_sum rows

-- the sum of the values of rows stands at a place of a list
abbrev pub IsSumAt : List ℤ → ℕ → List Row → Type 0
IsSumAt sums slot rows = (slot < length sums) × (get_or sums slot (pos 0) ≡ value_sum rows)

-- the place of the sum of the values of the rows with each stack
abbrev pub AreStackSums : List ℤ → BTreeMap (List (List ℕ)) ℕ → List Row → Type 0
AreStackSums sums = IsGrouped stack_cmp (λ row. row.stack) (IsSumAt sums)

-- the sums of each stack, which has a place of its own, and of all rows
pub record AreSums (slots : BTreeMap (List (List ℕ)) ℕ) (sums : List ℤ) (total : ℤ) (rows : List Row) : Type 0 where
  pub groups : AreStackSums sums slots rows
  pub apart : (a b : List (List ℕ)) (slot : ℕ) → get stack_cmp slots a ≡ Some slot → get stack_cmp slots b ≡ Some slot → a ≡ b
  pub whole : IsSum total rows

-- each stack that had a place still has it
pub record KeepsSlots (old new : BTreeMap (List (List ℕ)) ℕ) : Type 0 where
  pub each : (stack : List (List ℕ)) (slot : ℕ) → get stack_cmp old stack ≡ Some slot → get stack_cmp new stack ≡ Some slot

-- the sum of the values of the rows at each time
abbrev pub ArePoints : BTreeMap ℤ ℤ → List Row → Type 0
ArePoints = IsGrouped int_cmp (λ row. row.timestamp) IsSum

-- for each labels the points of their rows
abbrev pub AreRanges : BTreeMap Labels (BTreeMap ℤ ℤ) → List Row → Type 0
AreRanges = IsGrouped labels_cmp (λ row. row.labels) ArePoints
