-- Places of a list that keys have.
use Rattle.std.specs.Prelude.{◌≡◌, ℕ, ℤ, ◌<◌, List, length, Some}
use Rattle.std.specs.BTreeMap.{BTreeMap, get}
use Rattle.fd_kinds.specs.Meaning.{stack_cmp}

-- each place that a stack has is one of the list
pub record AreInside (slots : BTreeMap (List (List ℕ)) ℕ) (sums : List ℤ) : Type 0 where
  pub each : (stack : List (List ℕ)) (slot : ℕ) → get stack_cmp slots stack ≡ Some slot → slot < length sums
