-- What contracts see of a pool.
use Rattle.std.specs.Prelude.{◌≡◌, ℕ, List, map}
use Rattle.atomic_table.specs.Seated.{TableId}
use Rattle.fd_shelf.specs.Books.{Shelved}
use Rattle.fd_shelf.specs.Books.{Each as AllOf}
use Rattle.fd_rule.specs.Seats.{base_seats, base_shelf, base_table, pass_seats, pass_table, pass_view}
use Rattle.fd_rule.specs.View.{View}
use Rattle.fd_rule.specs.declared.pass.Pass.{Pass}
use Rattle.fd_pool.specs.declared.pool.NotStarted.{NotStarted}
use Rattle.fd_pool.specs.declared.pool.NotStarted.TheVariants.{NoMemory}
use Rattle.fd_pool.specs.declared.pool.Pool.{Pool}

-- its table, how many seats it has, and the shelf that it was started with
abbrev pub pool_table : {P : Type 0} → Pool P → TableId
pool_table pool = base_table pool.base

abbrev pub pool_seats : {P : Type 0} → Pool P → ℕ
pool_seats pool = base_seats pool.base

abbrev pub pool_shelf : {P : Type 0} → Pool P → Shelved
pool_shelf pool = base_shelf pool.base

-- the pass is of this table, which has so many seats
abbrev pub IsPassAt : TableId → ℕ → Pass → Type 0
IsPassAt table seats pass = (pass_table pass ≡ table) × (pass_seats pass ≡ seats)

abbrev pub IsPassOf : {P : Type 0} → Pool P → Pass → Type 0
IsPassOf pool pass = IsPassAt (pool_table pool) (pool_seats pool) pass

abbrev pub ArePassesOf : {P : Type 0} → Pool P → List Pass → Type 0
ArePassesOf pool passes = AllOf (IsPassAt (pool_table pool) (pool_seats pool)) passes

-- what the seats of passes know
abbrev pub views_of : List Pass → List View
views_of passes = map (λ p. pass_view p) passes

-- no pool was started, and the shelf came back
abbrev pub HandedBack : {P : Type 0} → Shelved → NotStarted P → Type 0
HandedBack shelf (NoMemory back) = back ≡ shelf
