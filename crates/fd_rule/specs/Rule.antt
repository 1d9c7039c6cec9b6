-- The rule of the table: what holds of its words, its slots and the views of all seats between any two steps.
--
-- It is laid out by concerns. Each record has what one concern says, over only those numbers that it speaks of; `Ruled` at
-- the end puts them together. docs/ARCHITECTURE.md tells the same in one page.
use Rattle.std.specs.Prelude.{◌≡◌, ◌≢◌, ◌⊎◌, ℕ, ◌+◌, ◌*◌, ◌-◌, ◌^◌, ◌<◌, ◌≤◌, min, Bool, true, false, cond, eqb, List, [], ◌∷◌, length, slice_index}
use mathlib.Core.Option.{Option, some}
use lib.ListN.{get_elem?}
use Rattle.fd_kinds.specs.declared.row.Row.{Row}
use Rattle.fd_kinds.specs.Parts.{PartMeaning, loose_part}
use Rattle.fd_kinds.specs.declared.limits.TheConstants.{MOST_NUMBERS}
use Rattle.fd_kinds.specs.History.{History, IsSmall}
use Rattle.fd_kinds.specs.Stores.{Written, Grows}
use Rattle.fd_shelf.specs.Books.{Book, Shelved, all_parts}
use Rattle.fd_shelf.specs.Marks.{IsBook}
use Rattle.fd_shelf.specs.Books.{Each as AllOf}
use Rattle.fd_shelf.specs.Histories.{hist, batch_at, in_row_order}
use Rattle.fd_shelf.specs.Numbers.{IsIn, IsInSealed, Keeps}
use Rattle.fd_rule.specs.declared.limits.TheConstants.{MOST_SEATS}
use Rattle.fd_rule.specs.Lists.{AllUpto, In}
use Rattle.fd_rule.specs.Tables.{TableState, Homes}
use Rattle.fd_rule.specs.View.{IDLE, NONE, PinState, idle, arriving, settled, Hand, bare, laden, Place, TurnView, Draws, Knowledge, Pinning, View, no_view}
use Rattle.fd_rule.specs.declared.slot.SlotValue.{SlotValue}
use Rattle.fd_rule.specs.declared.slot.SlotValue.TheVariants.{Empty, Home, Landed}

-- K holds of the part f of each view
pub record Each {A : Type 0} (f : View → A) (vs : List View) (K : ℕ → A → Type 0) : Type 0 where
  pub known : (j : ℕ) (v : View) → get_elem? vs j ≡ some v → K j (f v)

-- the parts of a view
abbrev pub place : View → Place
place v = v.place

abbrev pub turn : View → TurnView
turn v = v.turn

abbrev pub draws : View → Draws
draws v = v.draws

abbrev pub seen : View → Knowledge
seen v = v.seen

abbrev pub books : View → List Book
books v = v.books

abbrev pub pinning : View → Pinning
pinning v = v.pinning

abbrev pub whole : View → View
whole v = v

-- where a lane stands: word and slot empty, slot out with its seat, filled, or slot out with the holder of the turn
pub data Stage : Type 0 where
  free : Stage
  flying : Stage
  full : Stage
  looked : Stage

-- What is not in the view of one seat alone: the book, home or in hand; the numbers that the words tell; of each lane its
-- word and its stage; of each number the batch that it was drawn for; of each seat its pin word and the least watermark that
-- it may rest on; and the seat that still splits others off.
pub record Globals : Type 0 where
  pub book : Book
  pub mark : ℕ
  pub drawn : ℕ
  pub taken : ℕ
  pub synced : ℕ
  pub floor : ℕ
  pub lane : ℕ → ℕ
  pub stage : ℕ → Stage
  pub batch_of : ℕ → List Row
  pub pin : ℕ → ℕ
  pub pinned : ℕ → ℕ
  pub splitter : ℕ

-- what the words are
pub record Words (seats : ℕ) (ws : List ℕ) (drawn mark taken synced floor : ℕ) (lane pin : ℕ → ℕ) : Type 0 where
  pub wide : length ws ≡ 2 * seats + 5
  pub drawn_is : slice_index ws 0 ≡ drawn
  pub mark_is : slice_index ws 1 ≡ mark
  pub taken_is : slice_index ws 2 ≡ taken
  pub synced_is : slice_index ws 3 ≡ synced
  pub floor_is : slice_index ws 4 ≡ floor
  pub lane_is : (k : ℕ) → k < seats → slice_index ws (2 * k + 5) ≡ lane k
  pub pin_is : (k : ℕ) → k < seats → slice_index ws (2 * k + 6) ≡ pin k

-- the order of the numbers, of which the first is the opening mark
pub record Order (start drawn mark synced floor : ℕ) : Type 0 where
  pub opening_low : start ≤ mark
  pub marks_drawn : mark ≤ drawn
  pub small : drawn < 2 ^ 63
  pub synced_low : synced ≤ mark
  pub floor_low : floor ≤ mark

-- while nobody has the turn, the shelf is home
pub record AtHome {P : Type 0} (seats : ℕ) (homes : Homes P) (book : Book) (mark taken : ℕ) : Type 0 where
  pub deep : length homes ≡ seats + 1
  pub home : taken ≡ 0 → (spare : ℕ) × (get_elem? homes 0 ≡ some (some (Home record { book = book; mark = mark; spare = spare })))

-- The book: it is in order up to some number, has each number up to the mark, none that was not drawn, and of each the
-- batch that it was drawn for.
pub record Booked (start : Shelved) (drawn mark : ℕ) (book : Book) (batch_of : ℕ → List Row) : Type 0 where
  pub base : ℕ
  pub well : IsBook book base
  pub low : base ≤ mark
  pub marked : (n : ℕ) → 0 < n → n ≤ mark → IsIn n (all_parts book)
  pub held : (n : ℕ) → IsIn n (all_parts book) → n ≤ drawn
  pub rows : (n : ℕ) → start.mark < n → IsIn n (all_parts book) → batch_at (all_parts book) n ≡ in_row_order (batch_of n)
  pub began : Grows (hist start.book start.mark) (hist book mark)

-- each number of a sealed part is at most the floor
abbrev pub Sealed : ℕ → Book → Type 0
Sealed floor book = (n : ℕ) → IsInSealed n (all_parts book) → n ≤ floor

-- the word of a lane and its slot, at each stage
abbrev pub LaneOk : {P : Type 0} → (P → PartMeaning) → (ℕ → List Row) → ℕ → Option (Option (SlotValue P)) → Stage → Type 0
LaneOk means batch_of word home free = (word ≡ 0) × (home ≡ some (some Empty))
LaneOk means batch_of word home flying = word ≡ 0
LaneOk {P} means batch_of word home full = (0 < word) × ((p : P) × (home ≡ some (some (Landed p))) × (means p ≡ loose_part word (batch_of word)))
LaneOk means batch_of word home looked = 0 < word

-- Each lane is at its stage. A lane whose seat was not split off is free, and no slot is out with a holder where there is none.
pub record Lanes {P : Type 0} (means : P → PartMeaning) (seats : ℕ) (homes : Homes P) (taken : ℕ) (lane : ℕ → ℕ) (stage : ℕ → Stage) (batch_of : ℕ → List Row) (count : ℕ) : Type 0 where
  pub ok : (k : ℕ) → k < seats → LaneOk means batch_of (lane k) (get_elem? homes (1 + k)) (stage k)
  pub unsplit : (k : ℕ) → count ≤ k → stage k ≡ free
  pub none_looked : taken ≡ 0 → (k : ℕ) → stage k ≢ looked

-- sums over views
abbrev pub sum : (View → ℕ) → List View → ℕ
sum f [] = 0
sum f (v ∷ vs) = f v + sum f vs

abbrev pub one_if : Bool → ℕ
one_if true = 1
one_if false = 0

-- how often the number is drawn
abbrev pub count_of : ℕ → List Written → ℕ
count_of n [] = 0
count_of n (o ∷ os) = one_if (eqb o.number n) + count_of n os

-- how often the number is in the list
abbrev pub count_in : ℕ → List ℕ → ℕ
count_in n [] = 0
count_in n (x ∷ xs) = one_if (eqb x n) + count_in n xs

-- how often the seat drew the number
abbrev pub owns : ℕ → View → ℕ
owns n v = count_of n v.draws.own

-- how often the number of a seat stands in the view of one that is not spent
abbrev pub seated : ℕ → View → ℕ
seated k v = cond v.place.spent 0 (count_in k (v.place.number ∷ v.place.joined))

-- the seat holds the turn, is cleared to draw, splits others off
abbrev pub holding : View → ℕ
holding v = one_if v.turn.holds

abbrev pub clearance : View → ℕ
clearance v = one_if v.draws.cleared

abbrev pub splitting : View → ℕ
splitting v = one_if v.place.splits

-- Each number above the opening mark was drawn once, each seat's number stands in one view, the turn is held once where it
-- is taken, and one seat splits others off. Where a number was drawn or a seat is cleared to draw, the greatest number drawn and the seats that are cleared
-- are at most `MOST_NUMBERS` and the seats ever made, so that no number reaches 2^63.
pub record Counts (start drawn taken : ℕ) (vs : List View) : Type 0 where
  pub numbers : (n : ℕ) → start < n → sum (owns n) vs ≡ min 1 (drawn + 1 - n)
  pub seats : (k : ℕ) → sum (seated k) vs ≡ min 1 (length vs - k)
  pub holders : sum holding vs ≡ min 1 taken
  pub splitters : sum splitting vs ≡ 1
  pub room : start < drawn + sum clearance vs → drawn + sum clearance vs ≤ MOST_NUMBERS + length vs

-- A seat that is not spent has the number of its place, and the one that splits others off has those to come.
pub record Placed (count splitter j : ℕ) (p : Place) : Type 0 where
  pub number : p.spent ≡ false → p.number ≡ j
  pub splits : p.splits ≡ true → (j ≡ splitter) × (p.next ≡ count)

-- the seats that were made
pub record Roster (seats splitter : ℕ) (vs : List View) : Type 0 where
  pub few : seats ≤ MOST_SEATS
  pub count : length vs ≤ seats
  pub places : Each place vs (Placed (length vs) splitter)

-- a spent seat has nothing, and seat 0 knows what it announced
pub record Live (synced j : ℕ) (v : View) : Type 0 where
  pub gone : v.place.spent ≡ true → v ≡ no_view
  pub announced : v.place.spent ≡ false → j ≡ 0 → v.seen.announced ≡ synced

-- the number is one of these
abbrev pub Entry : ℕ → List Written → Type 0
Entry n own = 0 < count_of n own

-- One of the seat's own numbers: it was drawn for this batch, and where it is not in flight it has landed, in the book or in
-- the seat's lane word.
pub record Owned (start drawn flight word : ℕ) (book : Book) (batch_of : ℕ → List Row) (o : Written) : Type 0 where
  pub above : start < o.number
  pub below : o.number ≤ drawn
  pub rows : batch_of o.number ≡ o.rows
  pub small : IsSmall o.rows
  pub landed : o.number ≢ flight → IsIn o.number (all_parts book) ⊎ (word ≡ o.number)

-- The number in flight: the slot of its lane is out with the seat, and no part of the book has it.
pub record Flies (book : Book) (batch_of : ℕ → List Row) (stage : Stage) (d : Draws) : Type 0 where
  pub out : stage ≡ flying
  pub entry : Entry d.flight d.own
  pub rows : batch_of d.flight ≡ d.batch
  pub outside : IsIn d.flight (all_parts book) → ⊥

-- What one seat drew, the word of its lane and the lane's stage. The number in the lane word is one of its own, and not in
-- the book.
pub record Draw (start drawn : ℕ) (book : Book) (batch_of : ℕ → List Row) (word : ℕ) (stage : Stage) (d : Draws) : Type 0 where
  pub own : AllOf (Owned start drawn d.flight word book batch_of) d.own
  pub lies : 0 < word → Entry word d.own × (IsIn word (all_parts book) → ⊥)
  pub flies : d.flight ≢ 0 → Flies book batch_of stage d
  pub rests : d.flight ≡ 0 → stage ≢ flying
  pub empty : d.empty ≡ true → word ≡ 0

abbrev pub Drawing : ℕ → ℕ → Book → (ℕ → List Row) → (ℕ → ℕ) → (ℕ → Stage) → ℕ → Draws → Type 0
Drawing start drawn book batch_of lane stage j d = Draw start drawn book batch_of (lane j) (stage j) d

-- The batch that the holder of the turn has out of a lane: the number still stands in the lane word, and no other lane's slot
-- is out.
pub record OutOf (seats : ℕ) (lane : ℕ → ℕ) (stage : ℕ → Stage) (batch_of : ℕ → List Row) (k : ℕ) (b : Written) : Type 0 where
  pub inside : k < seats
  pub out : stage k ≡ looked
  pub number : b.number ≡ lane k
  pub rows : b.rows ≡ batch_of (lane k)
  pub only : (j : ℕ) → stage j ≡ looked → j ≡ k

abbrev pub HandOk : ℕ → (ℕ → ℕ) → (ℕ → Stage) → (ℕ → List Row) → Hand → Type 0
HandOk seats lane stage batch_of bare = (k : ℕ) → stage k ≢ looked
HandOk seats lane stage batch_of (laden k b) = OutOf seats lane stage batch_of k b

-- what the holder of the turn knows
pub record InTurn (seats taken mark : ℕ) (book : Book) (batch_of : ℕ → List Row) (lane : ℕ → ℕ) (stage : ℕ → Stage) (j : ℕ) (t : TurnView) : Type 0 where
  pub mine : taken ≡ j + 1
  pub book_is : t.book ≡ book
  pub mark_is : t.mark ≡ mark
  pub hand : HandOk seats lane stage batch_of t.hand

abbrev pub Hands : ℕ → ℕ → ℕ → Book → (ℕ → List Row) → (ℕ → ℕ) → (ℕ → Stage) → ℕ → TurnView → Type 0
Hands seats taken mark book batch_of lane stage j t = t.holds ≡ true → InTurn seats taken mark book batch_of lane stage j t

-- what a seat has seen and loaded
pub record Saw (drawn mark synced : ℕ) (past : History) (j : ℕ) (e : Knowledge) : Type 0 where
  pub history : Grows e.history past
  pub marks : AllUpto mark e.marks
  pub drawns : AllUpto drawn e.drawns
  pub synceds : AllUpto synced e.synceds
  pub others : AllOf (λ h. Grows h past) e.others

-- the book keeps what it should of each book that a seat has taken or given back
abbrev pub Kept : Book → ℕ → List Book → Type 0
Kept book j bs = AllOf (λ b. Keeps b book) bs

-- the word of a seat, and the least watermark that it may rest on
abbrev pub PinOk : ℕ → ℕ → PinState → Type 0
PinOk pin pinned idle = (pin ≡ IDLE) × (pinned ≡ NONE)
PinOk pin pinned (arriving ws) = (pin ≡ 0) × ((w : ℕ) → In w ws → pinned ≤ w)
PinOk pin pinned (settled w) = (pin ≡ w) × (pinned ≡ w)

-- A scan's limit is at most the mark, and at most each watermark that a seat which it passed may rest on.
pub record PinningOk (mark floor : ℕ) (pin pinned : ℕ → ℕ) (j : ℕ) (p : Pinning) : Type 0 where
  pub state : PinOk (pin j) (pinned j) p.state
  pub low : p.limit ≤ mark
  pub passed : (k : ℕ) → k < p.next → p.limit ≤ pinned k
  pub raised : p.raised ≤ floor

-- No seat rests on a watermark below the floor, and those that were not split off are idle.
pub record Pins (mark floor : ℕ) (pin pinned : ℕ → ℕ) (vs : List View) : Type 0 where
  pub below : (k : ℕ) → pin k ≤ pinned k
  pub kept : (k : ℕ) → floor ≤ pinned k
  pub beyond : (k : ℕ) → length vs ≤ k → (pin k ≡ IDLE) × (pinned k ≡ NONE)
  pub rests : Each pinning vs (PinningOk mark floor pin pinned)

-- The rule of a table that was made with the shelf `start` for so many seats.
pub record Ruled {P : Type 0} (means : P → PartMeaning) (start : Shelved) (seats : ℕ) (s : TableState P) : Type 0 where
  pub g : Globals
  pub words : Words seats s.words g.drawn g.mark g.taken g.synced g.floor g.lane g.pin
  pub order : Order start.mark g.drawn g.mark g.synced g.floor
  pub home : AtHome seats s.homes g.book g.mark g.taken
  pub booked : Booked start g.drawn g.mark g.book g.batch_of
  pub sealed : Sealed g.floor g.book
  pub lanes : Lanes means seats s.homes g.taken g.lane g.stage g.batch_of (length s.views)
  pub counts : Counts start.mark g.drawn g.taken s.views
  pub roster : Roster seats g.splitter s.views
  pub lives : Each whole s.views (Live g.synced)
  pub draws : Each draws s.views (Drawing start.mark g.drawn g.book g.batch_of g.lane g.stage)
  pub hands : Each turn s.views (Hands seats g.taken g.mark g.book g.batch_of g.lane g.stage)
  pub saw : Each seen s.views (Saw g.drawn g.mark g.synced (hist g.book g.mark))
  pub kept : Each books s.views (Kept g.book)
  pub pins : Pins g.mark g.floor g.pin g.pinned s.views
