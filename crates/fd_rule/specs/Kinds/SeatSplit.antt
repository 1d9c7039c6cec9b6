-- Split: a new seat has the least number that was not split off, and begins with what the other has seen. It is a load of
-- word 0.
use Rattle.std.specs.Prelude.{◌≡◌, ℕ, ◌+◌, ◌<◌, true, false, [], ◌∷◌, ◌++◌, slice_set}
use Rattle.fd_rule.specs.Tables.{TableState, Sits}
use Rattle.fd_rule.specs.View.{View, Place, no_turn, no_tries, no_draws, no_knowledge, no_pinning}

-- there is a number left to split off
pub record MaySplit (seats : ℕ) (p : Place) : Type 0 where
  pub splits : p.splits ≡ true
  pub inside : p.next < seats

abbrev pub split_left : View → View
split_left v = record v { place = record v.place { next = v.place.next + 1 } }

abbrev pub split_right : View → View
split_right v = record {
  place = record { spent = false; number = v.place.next; splits = false; next = 0; joined = [] };
  turn = no_turn;
  tries = no_tries;
  draws = no_draws;
  seen = record no_knowledge { history = v.seen.history };
  books = v.books;
  pinning = no_pinning;
}

-- the step on the table
pub record Happens {P : Type 0} (seats id : ℕ) (s t : TableState P) : Type 0 where
  pub view : View
  pub sits : Sits s id view
  pub may : MaySplit seats view.place
  pub becomes : t ≡ record { words = s.words; homes = s.homes; views = slice_set s.views id (split_left view) ++ split_right view ∷ [] }
