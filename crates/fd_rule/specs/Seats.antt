-- What contracts see of a base, of a seat at it, and of a pass.
use Rattle.std.specs.Prelude.{◌≡◌, ℕ, List}
use Rattle.atomic_table.specs.Seated.{TableId}
use Rattle.fd_shelf.specs.Books.{Shelved}
use Rattle.fd_rule.specs.Passes.{view_of}
use Rattle.fd_rule.specs.Tables.{Seated}
use Rattle.fd_rule.specs.View.{View}
use Rattle.fd_rule.specs.declared.base.Base.{Base}
use Rattle.fd_rule.specs.declared.pass.Pass.{Pass}
use Rattle.fd_rule.specs.declared.seat.Seat.{Seat}
use Rattle.fd_rule.specs.declared.slot.SlotValue.{SlotValue}

-- what the seat knows, and the slots that it holds, each with its value
abbrev pub seat_state : {P : Type 0} → Seat P → Seated P
seat_state seat = seat.inner.me

abbrev pub seat_view : {P : Type 0} → Seat P → View
seat_view seat = seat.inner.me.0

abbrev pub seat_slots : {P : Type 0} → Seat P → List (ℕ × SlotValue P)
seat_slots seat = seat.inner.me.1

abbrev pub seat_number : {P : Type 0} → Seat P → ℕ
seat_number seat = seat.number

-- the table that it is at, and how many seats that has
abbrev pub seat_table : {P : Type 0} → Seat P → TableId
seat_table seat = seat.inner.table_id

abbrev pub seat_count : {P : Type 0} → Seat P → ℕ
seat_count seat = seat.board.now.shared.key.seats

-- the seat is at the same table, and has the same number
abbrev pub IsSameSeat : {P : Type 0} → Seat P → Seat P → Type 0
IsSameSeat old new = (new.board ≡ old.board) × (new.number ≡ old.number)

abbrev pub pass_view : Pass → View
pass_view pass = view_of pass.badge.views

abbrev pub pass_table : Pass → TableId
pass_table pass = pass.badge.table_id

abbrev pub pass_seats : Pass → ℕ
pass_seats pass = pass.count

abbrev pub base_table : {P : Type 0} → Base P → TableId
base_table base = base.board.shared.table_id

abbrev pub base_seats : {P : Type 0} → Base P → ℕ
base_seats base = base.count

-- the shelf that the table was made with
abbrev pub base_shelf : {P : Type 0} → Base P → Shelved
base_shelf base = base.board.shared.key.shelf.value
