-- What a seat knows, as plain data with no type of the program in it.
use Rattle.std.specs.Prelude.{ℕ, zero, suc, ◌-◌, ◌^◌, Bool, true, false, List, [], ◌∷◌}
use Rattle.fd_kinds.specs.declared.row.Row.{Row}
use Rattle.fd_kinds.specs.History.{History}
use Rattle.fd_kinds.specs.Stores.{Written}
use Rattle.fd_shelf.specs.Books.{Book, Shelved}
use Rattle.fd_shelf.specs.Histories.{hist}
use Rattle.fd_shelf.specs.Steps.{empty_book}

-- the pin word of a seat that has no pin
abbrev pub IDLE : ℕ
IDLE = 2 ^ 64 - 1

-- above every watermark
abbrev pub NONE : ℕ
NONE = 2 ^ 64

-- A seat has no pin, or it is about to pin one of the marks that it has loaded since it arrived, or it has a pin.
pub data PinState : Type 0 where
  idle : PinState
  arriving : List ℕ → PinState
  settled : ℕ → PinState

-- the batch that the holder of the turn has taken out of a lane, with the number of the lane
pub data Hand : Type 0 where
  bare : Hand
  laden : ℕ → Written → Hand

-- The number of the seat, and those that it has joined. A seat that splits has those from `next` on to split off. A seat
-- that another has joined is spent.
pub record Place : Type 0 where
  pub spent : Bool
  pub number : ℕ
  pub splits : Bool
  pub next : ℕ
  pub joined : List ℕ

-- the turn: the book and the mark in hand, the batch out of a lane, and the lanes that were looked at in this turn
pub record TurnView : Type 0 where
  pub holds : Bool
  pub book : Book
  pub mark : ℕ
  pub hand : Hand
  pub looked : List ℕ

-- what a turn was given back with: mark and book, the lanes looked at, and the seat's own numbers with the one in flight
pub record Given : Type 0 where
  pub mark : ℕ
  pub book : Book
  pub looked : List ℕ
  pub own : List Written
  pub flight : ℕ

-- the holders that were found where the turn was tried for, each as its turn word, and the turns that were given back
pub record Tries : Type 0 where
  pub refused : List ℕ
  pub given : List Given

-- Whether the seat may draw, whether its lane is known to be empty, the number in flight, 0 where there is none, with its
-- batch, and all numbers that the seat drew with their batches.
pub record Draws : Type 0 where
  pub cleared : Bool
  pub empty : Bool
  pub flight : ℕ
  pub batch : List Row
  pub own : List Written

-- The history that the seat has seen, what it has loaded, what it has announced (seat 0), and the histories that those
-- seats had seen which were joined.
pub record Knowledge : Type 0 where
  pub history : History
  pub marks : List ℕ
  pub drawns : List ℕ
  pub synceds : List ℕ
  pub announced : ℕ
  pub others : List History

-- how the seat stands to its pin, the limit of its scan and the next seat of it, what the seat has raised the floor to,
-- and the watermarks that it has pinned
pub record Pinning : Type 0 where
  pub state : PinState
  pub limit : ℕ
  pub next : ℕ
  pub raised : ℕ
  pub pins : List ℕ

-- `books` are those that the seat has taken and given back.
pub record View : Type 0 where
  pub place : Place
  pub turn : TurnView
  pub tries : Tries
  pub draws : Draws
  pub seen : Knowledge
  pub books : List Book
  pub pinning : Pinning

abbrev pub no_place : Place
no_place = record { spent = true; number = 0; splits = false; next = 0; joined = [] }

abbrev pub no_turn : TurnView
no_turn = record { holds = false; book = empty_book; mark = 0; hand = bare; looked = [] }

abbrev pub no_tries : Tries
no_tries = record { refused = []; given = [] }

abbrev pub no_draws : Draws
no_draws = record { cleared = false; empty = false; flight = 0; batch = []; own = [] }

abbrev pub no_knowledge : Knowledge
no_knowledge = record { history = []; marks = []; drawns = []; synceds = []; announced = 0; others = [] }

abbrev pub no_pinning : Pinning
no_pinning = record { state = idle; limit = 0; next = 0; raised = 0; pins = [] }

-- the view of a seat that is spent
abbrev pub no_view : View
no_view = record { place = no_place; turn = no_turn; tries = no_tries; draws = no_draws; seen = no_knowledge; books = []; pinning = no_pinning }

-- The first seat has the number 0 and all others to split off. It has seen the shelf that the table is made with.
abbrev pub first : Shelved → ℕ → View
first shelf synced = record {
  place = record { spent = false; number = 0; splits = true; next = 1; joined = [] };
  turn = no_turn;
  tries = no_tries;
  draws = no_draws;
  seen = record { history = hist shelf.book shelf.mark; marks = []; drawns = []; synceds = []; announced = synced; others = [] };
  books = shelf.book ∷ [];
  pinning = no_pinning;
}

-- a seat that arrives has loaded the mark
abbrev pub loaded : ℕ → PinState → PinState
loaded m idle = idle
loaded m (arriving ws) = arriving (m ∷ ws)
loaded m (settled w) = settled w

-- the lane and pin words of so many seats that have nothing
abbrev pub idle_words : ℕ → List ℕ
idle_words zero = []
idle_words (suc n) = 0 ∷ IDLE ∷ idle_words n

-- the words of a table that is made at this mark
abbrev pub first_words : ℕ → ℕ → ℕ → List ℕ
first_words mark synced seats = mark ∷ mark ∷ 0 ∷ synced ∷ mark ∷ idle_words seats
