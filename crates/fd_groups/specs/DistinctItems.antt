-- Distinct items, and the one that was added last.
use Rattle.std.specs.Prelude.{◌≡◌, true, List, Option, IfSome}
use Rattle.std.specs.List.{list_any}
use Rattle.std.specs.BTreeMap.{is_at}
use Rattle.std.specs.declared.cmp.Ordering.{Ordering}
use Rattle.fd_kinds.specs.Meaning.{distinct}

-- The found items are the distinct ones of the list, and the last, where there is one, is among them.
pub record AreDistinct {T : Type 0} (order : T → T → Ordering) (found : List T) (last : Option T) (items : List T) : Type 0 where
  pub held : found ≡ distinct order items
  pub among : IfSome last (λ item. list_any (is_at (order item)) found ≡ true)
