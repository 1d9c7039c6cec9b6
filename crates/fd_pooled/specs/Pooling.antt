-- What contracts see of a store that many share.
use Rattle.std.specs.Prelude.{◌≡◌, ℕ, List, [], ◌∷◌, max}
use Rattle.atomic_table.specs.Seated.{TableId}
use Rattle.fd_kinds.specs.Stores.{StoreView}
use Rattle.fd_rule.specs.Tables.{Seated}
use Rattle.fd_rule.specs.View.{View, idle}
use Rattle.fd_pool.specs.Kept.{IsFree, in_order}

-- the table of the seat, how many seats that has, and what the seat knows
pub record PooledView : Type 0 where
  pub table : TableId
  pub seats : ℕ
  pub view : View

-- a seat at rest: it has no turn, no slot, nothing in flight and no pin
pub record IsResting {P : Type 0} (m : Seated P) : Type 0 where
  pub free : IsFree m
  pub idles : m.0.pinning.state ≡ idle

-- the greatest of numbers, and 0 where there is none
abbrev pub most : List ℕ → ℕ
most [] = 0
most (x ∷ xs) = max x (most xs)

-- Queries are answered from the history that the seat has seen. What the seat drew was written through the store, each batch
-- in the row order. No query is answered below a mark that the seat has loaded.
abbrev pub seen_by : PooledView → StoreView
seen_by s = record { history = s.view.seen.history; own = in_order s.view.draws.own; least = most s.view.seen.marks }
