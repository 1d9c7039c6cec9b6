-- A write.
use Rattle.std.specs.Prelude.{◌≡◌, ℕ, ◌<◌, ◌≤◌, ◌^◌, List, length}
use Rattle.fd_kinds.specs.declared.limits.TheConstants.{MOST_NUMBERS}
use Rattle.fd_kinds.specs.declared.row.Row.{Row}
use Rattle.fd_rule.specs.Kinds.BatchLanding.{with_landed}
use Rattle.fd_rule.specs.Kinds.DrawnLoad.{LoadedDrawn, with_drawn}
use Rattle.fd_rule.specs.Kinds.NumberDraw.{with_number}
use Rattle.fd_rule.specs.Lists.{Tops}
use Rattle.fd_rule.specs.View.{View}

-- A drawn number was loaded that leaves numbers to draw; then one number was drawn for the rows, above each that the seat
-- drew and above the history that it has seen, and landed.
pub record Took (old : View) (rows : List Row) (number : ℕ) (new : View) : Type 0 where
  pub drawn : ℕ
  pub loaded : LoadedDrawn drawn old
  pub few : drawn < MOST_NUMBERS
  pub some : 0 < number
  pub bounded : number < 2 ^ 63
  pub above : Tops number old.draws.own
  pub unseen : length old.seen.history < number
  pub becomes : new ≡ with_landed (with_number number rows (with_drawn drawn old))

-- the drawn number that was loaded leaves none, and nothing else was done
pub record WasSpent (old : View) (drawn : ℕ) (new : View) : Type 0 where
  pub loaded : LoadedDrawn drawn old
  pub many : MOST_NUMBERS ≤ drawn
  pub becomes : new ≡ with_drawn drawn old
