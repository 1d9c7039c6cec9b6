-- The seats of a pool that was started.
use Rattle.std.specs.Prelude.{ℕ, zero, suc, ◌+◌, ◌-◌, List, [], ◌∷◌, ◌++◌}
use Rattle.fd_shelf.specs.Books.{Shelved}
use Rattle.fd_rule.specs.Kinds.SeatSplit.{split_right}
use Rattle.fd_rule.specs.View.{View, first}

-- a seat that has those from a number on to split off
abbrev pub with_next : ℕ → View → View
with_next next v = record v { place = record v.place { next = next } }

-- the first so many seats that it splits off
abbrev pub split_off : View → ℕ → List View
split_off v zero = []
split_off v (suc n) = split_off v n ++ split_right (with_next (v.place.next + n) v) ∷ []

-- Seat 0 has the number 0 and the others split off. Each has seen the history of the shelf up to its mark, and drew nothing.
abbrev pub first_views : Shelved → ℕ → ℕ → List View
first_views shelf synced seats = with_next seats (first shelf synced) ∷ split_off (first shelf synced) (seats - 1)
