-- Parts of a book that were listed.
use Rattle.std.specs.Prelude.{◌≡◌, ◌≢◌, ℕ, ◌+◌, ◌-◌, ◌<◌, ◌≤◌, List, [], ◌∷◌, length, filter, Some, slice_get, IsPermutation}
use Rattle.fd_kinds.specs.History.{History, upto}
use Rattle.fd_kinds.specs.Parts.{PartMeaning, rows_of}
use Rattle.fd_shelf.specs.Books.{rows_in, settled_parts}
use Rattle.fd_shelf.specs.Histories.{batch_at}
use Rattle.fd_shelf.specs.Marks.{IsBook}
use Rattle.fd_shelf.specs.Runs.{AreSealable}
use Rattle.fd_shelf.specs.Steps.{is_upto, loose_upto, lowest, highest}
use Rattle.fd_rule.specs.Kinds.TurnReturn.{first_loose}
use Rattle.fd_rule.specs.View.{Given}

-- The parts of the book up to w. Each number up to w has among them its batch of the history, and all their rows are those of
-- these batches.
pub record IsListed (g : Given) (w : ℕ) (history : History) (parts : List PartMeaning) : Type 0 where
  pub low : w ≤ length history
  pub those : parts ≡ filter (is_upto w) (settled_parts g.book)
  pub batches : (n : ℕ) → 0 < n → n ≤ w → slice_get history (n - 1) ≡ Some (batch_at parts n)
  pub rows : IsPermutation (rows_of (rows_in parts)) (upto history w)

-- the history reaches the end of the part, which has the rows that the history has there
pub record SeenRows (history : History) (part : PartMeaning) : Type 0 where
  pub counted : 0 < part.lo
  pub reaches : part.hi ≤ length history
  pub rows : (n : ℕ) → part.lo ≤ n → n ≤ part.hi → slice_get history (n - 1) ≡ Some (batch_at (part ∷ []) n)

-- The book is in order up to its mark. Where there are loose parts up to the limit, one part of their range and with their
-- rows may stand in their place, and has the rows of the history. Up to a limit that is at most the mark there is one for
-- each number, from the first that no sealed part holds.
pub record IsRun (g : Given) (limit : ℕ) (history : History) : Type 0 where
  pub order : IsBook g.book g.mark
  pub range : loose_upto g.book limit ≢ [] → (0 < lowest (loose_upto g.book limit)) × (lowest (loose_upto g.book limit) ≤ highest (loose_upto g.book limit)) × (highest (loose_upto g.book limit) ≤ length history)
  pub sealable : loose_upto g.book limit ≢ [] → AreSealable (loose_upto g.book limit)
  pub rows : loose_upto g.book limit ≢ [] → (part : PartMeaning) → part.lo ≡ lowest (loose_upto g.book limit) → part.hi ≡ highest (loose_upto g.book limit) → IsPermutation (rows_in (loose_upto g.book limit)) part.rows → SeenRows history part
  pub count : limit ≤ g.mark → length (loose_upto g.book limit) ≡ (limit + 1) - first_loose g
  pub first : limit ≤ g.mark → loose_upto g.book limit ≢ [] → lowest (loose_upto g.book limit) ≡ first_loose g
  pub last : limit ≤ g.mark → loose_upto g.book limit ≢ [] → highest (loose_upto g.book limit) ≡ limit
