-- Events of any seats in any order.
use Rattle.std.specs.Prelude.{◌≡◌, ℕ, ◌<◌, ◌≤◌, Bool, List, [], ◌∷◌}
use Rattle.atomic_table.specs.Table.{opening}
use Rattle.fd_kinds.specs.declared.row.Row.{Row}
use Rattle.fd_kinds.specs.Parts.{PartMeaning}
use Rattle.fd_shelf.specs.Books.{Shelved}
use Rattle.fd_shelf.specs.Marks.{IsBook}
use Rattle.fd_rule.specs.Kinds.Announcement.{Happens as Announces}
use Rattle.fd_rule.specs.Kinds.BatchLanding.{Happens as Lands}
use Rattle.fd_rule.specs.Kinds.DrawnLoad.{Happens as LoadsDrawn}
use Rattle.fd_rule.specs.Kinds.FloorRaise.{Happens as RaisesFloor}
use Rattle.fd_rule.specs.Kinds.LaneClearance.{Happens as ClearsLane}
use Rattle.fd_rule.specs.Kinds.LaneLoad.{Happens as LoadsLane}
use Rattle.fd_rule.specs.Kinds.MarkLoad.{Happens as LoadsMark}
use Rattle.fd_rule.specs.Kinds.MarkRaise.{Happens as RaisesMark}
use Rattle.fd_rule.specs.Kinds.NumberDraw.{Happens as Draws}
use Rattle.fd_rule.specs.Kinds.PinArrival.{Happens as Arrives}
use Rattle.fd_rule.specs.Kinds.PinDeparture.{Happens as Departs}
use Rattle.fd_rule.specs.Kinds.PinScan.{Happens as Scans}
use Rattle.fd_rule.specs.Kinds.PinSettlement.{Happens as Settles}
use Rattle.fd_rule.specs.Kinds.SeatJoin.{Happens as Joins}
use Rattle.fd_rule.specs.Kinds.SeatSplit.{Happens as Splits}
use Rattle.fd_rule.specs.Kinds.SyncedLoad.{Happens as LoadsSynced}
use Rattle.fd_rule.specs.Kinds.TurnReturn.{Happens as GivesTurn}
use Rattle.fd_rule.specs.Kinds.TurnTry.{Happens as TriesTurn}
use Rattle.fd_rule.specs.Tables.{TableState, empties}
use Rattle.fd_rule.specs.declared.limits.TheConstants.{MOST_SEATS}
use Rattle.fd_rule.specs.View.{first, first_words}
use Rattle.fd_rule.specs.declared.slot.SlotValue.TheVariants.{Home}

-- a step of each kind, with what its call is given
pub data Event (P : Type 0) : Type 0 where
  draw : List Row → Event P
  load_drawn : Event P
  load_mark : Bool → Event P
  load_synced : Event P
  load_lane : ℕ → Event P
  take_turn : Event P
  raise_mark : ℕ → Event P
  give_turn : Shelved → Event P
  land : P → Event P
  clear_lane : ℕ → Event P
  arrive : Event P
  settle : ℕ → Event P
  leave : Event P
  scan_pin : Event P
  raise_floor : ℕ → Event P
  announce : ℕ → Event P
  split : Event P
  join : ℕ → Event P

-- The event by the seat `id` leads from the table s to t: the seat may take the step in s, and t is the table after it.
abbrev pub Leads : {P : Type 0} → (P → PartMeaning) → ℕ → ℕ → Event P → TableState P → TableState P → Type 0
Leads means seats id (draw rows) s t = Draws rows id s t
Leads means seats id load_drawn s t = LoadsDrawn id s t
Leads means seats id (load_mark scan) s t = LoadsMark scan id s t
Leads means seats id load_synced s t = LoadsSynced id s t
Leads means seats id (load_lane k) s t = LoadsLane means seats k id s t
Leads means seats id take_turn s t = TriesTurn id s t
Leads means seats id (raise_mark mark) s t = RaisesMark mark id s t
Leads means seats id (give_turn shelf) s t = GivesTurn shelf id s t
Leads means seats id (land part) s t = Lands means part id s t
Leads means seats id (clear_lane k) s t = ClearsLane k id s t
Leads means seats id arrive s t = Arrives id s t
Leads means seats id (settle w) s t = Settles w id s t
Leads means seats id leave s t = Departs id s t
Leads means seats id scan_pin s t = Scans seats id s t
Leads means seats id (raise_floor l) s t = RaisesFloor seats l id s t
Leads means seats id (announce n) s t = Announces n id s t
Leads means seats id split s t = Splits seats id s t
Leads means seats id (join other) s t = Joins other id s t

-- a list of events, each by some seat, and the table after them
abbrev pub Reaches : {P : Type 0} → (P → PartMeaning) → ℕ → TableState P → List (ℕ × Event P) → TableState P → Type 0
Reaches means seats s [] t = s ≡ t
Reaches {P} means seats s (e ∷ es) t = (m : TableState P) × Leads means seats e.0 e.1 s m × Reaches means seats m es t

-- what a table may be made with
pub record MayOpen (start : Shelved) (synced seats : ℕ) : Type 0 where
  pub some : 0 < seats
  pub few : seats ≤ MOST_SEATS
  pub synced_low : synced ≤ start.mark
  pub order : IsBook start.book start.mark
  pub settled : start.book.stragglers ≡ []

-- the table when it is made
abbrev pub opening_of : {P : Type 0} → Shelved → ℕ → ℕ → TableState P
opening_of start synced seats = opening (first_words start.mark synced seats) (Home start ∷ empties seats) (first start synced)
