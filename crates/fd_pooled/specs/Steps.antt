-- What the steps of one call of a store do to what its seat knows.
use Rattle.std.specs.Prelude.{◌≡◌, ℕ, ◌≤◌, List, ◌++◌}
use Rattle.fd_kinds.specs.Parts.{PartMeaning}
use Rattle.fd_kinds.specs.Stores.{Grows}
use Rattle.fd_shelf.specs.Books.{Book}
use Rattle.fd_rule.specs.Kinds.MarkLoad.{Loaded, with_mark}
use Rattle.fd_rule.specs.Kinds.PinDeparture.{without_pin}
use Rattle.fd_rule.specs.View.{View, Given}
use Rattle.fd_pins.specs.Pinned.{with_pinned}
use Rattle.fd_pool.specs.Kept.{HasDrawn}
use Rattle.fd_pool.specs.Lists.{IsListed}
use Rattle.fd_pool.specs.Sweeps.{HasSwept}
use Rattle.fd_pool.specs.Turns.{Turned}
use Rattle.fd_pool.specs.declared.sweeps.Sweep.{Sweep}
use Rattle.fd_pool.specs.declared.sweeps.Sweep.TheVariants.{Swept, Busy, NoMemory}

-- What each call keeps: the seen history grows, and has what the seat drew where it reaches that; the marks that were loaded,
-- the turns that were given back and the holders that were found come behind those from before. A book that the seat knew it
-- still knows, and so what later books keep of it.
pub record Later (old new : View) : Type 0 where
  pub grows : Grows old.seen.history new.seen.history
  pub marks : List ℕ
  pub marked : new.seen.marks ≡ old.seen.marks ++ marks
  pub known : List Book
  pub books : new.books ≡ known ++ old.books
  pub turns : List Given
  pub given : new.tries.given ≡ old.tries.given ++ turns
  pub busy : List ℕ
  pub refused : new.tries.refused ≡ old.tries.refused ++ busy
  pub place : new.place ≡ old.place
  pub holds : HasDrawn old → HasDrawn new

-- a call that draws nothing
pub record Passes (old new : View) : Type 0 where
  pub later : Later old new
  pub own : new.draws.own ≡ old.draws.own

-- .. and loads nothing but marks
pub record Looks (old new : View) : Type 0 where
  pub passes : Passes old new
  pub drawns : new.seen.drawns ≡ old.seen.drawns
  pub synceds : new.seen.synceds ≡ old.seen.synceds
  pub pins : new.pinning.pins ≡ old.pinning.pins

-- the sweep gave the turn back at a mark of at most w, or found it with another seat
abbrev pub IsUpto : ℕ → Sweep → Type 0
IsUpto w (Swept mark) = mark ≤ w
IsUpto w (Busy holder) = Unit {0}
IsUpto w NoMemory = ⊥

-- one sweep, which found memory, and then a load of the mark
pub record HasLooked (seats : ℕ) (old : View) (mark : ℕ) (new : View) : Type 0 where
  pub sweep : Sweep
  pub swept : View
  pub does : HasSwept seats old sweep swept
  pub upto : IsUpto mark sweep
  pub loaded : Loaded mark swept
  pub becomes : new ≡ with_mark mark swept

-- the last of sweeps was followed by a load of a mark that is not below a number
pub record HasReached (seats : ℕ) (old : View) (after : ℕ) (new : View) : Type 0 where
  pub before : View
  pub looked : Looks old before
  pub mark : ℕ
  pub looks : HasLooked seats before mark new
  pub reaches : after ≤ mark

-- The mark w was pinned, the turn given back as g while it was, and the pin given up.
pub record HasPinned (old : View) (w : ℕ) (g : Given) (new : View) : Type 0 where
  pub loaded : Loaded w old
  pub listed : View
  pub turned : Turned (with_pinned w old) g listed
  pub becomes : new ≡ without_pin listed

-- .. and the parts up to it were listed
pub record HasListed (old : View) (w : ℕ) (parts : List PartMeaning) (new : View) : Type 0 where
  pub given : Given
  pub pinned : HasPinned old w given new
  pub lists : IsListed given w new.seen.history parts
