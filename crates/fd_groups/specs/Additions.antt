-- What a map of sums is after a value was added at a key.
use Rattle.std.specs.Prelude.{◌≡◌, ℤ, pos, ◌+ℤ◌, Bool, true, false, None, Some, unwrap_or, if◌then◌else◌, Result, Ok, Err}
use Rattle.std.specs.Ordering.{is_eq}
use Rattle.std.specs.BTreeMap.{BTreeMap, IsOrdered, get}
use Rattle.std.specs.declared.cmp.Ordering.{Ordering}
use Rattle.fd_lists.specs.declared.memory.NoMemory.{NoMemory}

-- the new map finds what the old one does
pub record FindsSame {K X : Type 0} (order : K → K → Ordering) (old new : BTreeMap K X) : Type 0 where
  pub rising : IsOrdered order new
  pub each : (k : K) → get order new k ≡ get order old k

-- the new map has so much more at the key, and else what the old one has
pub record Adds {K : Type 0} (order : K → K → Ordering) (key : K) (value : ℤ) (old new : BTreeMap K ℤ) : Type 0 where
  pub rising : IsOrdered order new
  pub each : (k : K) → get order new k ≡ (if is_eq (order key k) then Some (unwrap_or (get order old key) (pos 0) +ℤ value) else get order old k)

-- the value was added where the key has a sum, and this is said; else nothing was
abbrev pub AddsWhereFound : {K : Type 0} → (K → K → Ordering) → K → ℤ → BTreeMap K ℤ → Result Bool NoMemory → BTreeMap K ℤ → Type 0
AddsWhereFound order key value old (Ok true) new = Adds order key value old new
AddsWhereFound order key value old (Ok false) new = (get order old key ≡ None) × FindsSame order old new
AddsWhereFound order key value old (Err e) new = FindsSame order old new
