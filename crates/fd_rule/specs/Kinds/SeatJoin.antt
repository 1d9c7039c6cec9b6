-- Join: a seat takes over the numbers of another, its own numbers and what it knows of books, and keeps the longer history
-- and the greater floor. It is a load of word 0.
use Rattle.std.specs.Prelude.{◌≡◌, ◌≢◌, ℕ, max, true, false, ◌||◌, if◌then◌else◌, List, ◌∷◌, ◌++◌, length, slice_set}
use Rattle.std.proofs.Math.Dec.{ltb}
use Rattle.fd_rule.specs.Tables.{TableState, Sits}
use Rattle.fd_rule.specs.View.{View, idle, no_view}

-- The other holds no turn and no pin, has nothing in flight, and knows that its lane is empty.
pub record MayJoin (v : View) : Type 0 where
  pub turn : v.turn.holds ≡ false
  pub flight : v.draws.flight ≡ 0
  pub empty : v.draws.empty ≡ true
  pub idles : v.pinning.state ≡ idle

abbrev pub longer : {A : Type 0} → List A → List A → List A
longer xs ys = if ltb (length xs) (length ys) then ys else xs

abbrev pub join_of : View → View → View
join_of v u = record v {
  place = record v.place { joined = v.place.joined ++ u.place.number ∷ u.place.joined; splits = u.place.splits || v.place.splits; next = if u.place.splits then u.place.next else v.place.next };
  draws = record v.draws { own = v.draws.own ++ u.draws.own };
  seen = record v.seen { history = longer v.seen.history u.seen.history; others = v.seen.history ∷ u.seen.history ∷ (v.seen.others ++ u.seen.others) };
  books = v.books ++ u.books;
  pinning = record v.pinning { raised = max v.pinning.raised u.pinning.raised };
}

-- the step on the table
pub record Happens {P : Type 0} (other id : ℕ) (s t : TableState P) : Type 0 where
  pub view : View
  pub sits : Sits s id view
  pub joined : View
  pub other_sits : Sits s other joined
  pub apart : other ≢ id
  pub may : MayJoin joined
  pub becomes : t ≡ record { words = s.words; homes = s.homes; views = slice_set (slice_set s.views id (join_of view joined)) other no_view }
