-- A scan of all pins.
use Rattle.std.specs.Prelude.{◌≡◌, ℕ, min, List, [], ◌∷◌, length}
use Rattle.fd_rule.specs.Kinds.MarkLoad.{Loaded, with_scan}
use Rattle.fd_rule.specs.View.{View}

-- the least of a number and others
abbrev pub least : ℕ → List ℕ → ℕ
least n [] = n
least n (m ∷ ms) = min (least n ms) m

-- the scan has passed the seats below one, with this limit
abbrev pub with_limit : ℕ → ℕ → View → View
with_limit limit next v = record v { pinning = record v.pinning { limit = limit; next = next } }

-- The scan loaded the mark first, and then the pin word of each seat, here with the last one first. Its limit is the least of
-- them.
pub record IsScan (seats : ℕ) (old : View) (limit : ℕ) (new : View) : Type 0 where
  pub mark : ℕ
  pub loaded : Loaded mark old
  pub pins : List ℕ
  pub all : length pins ≡ seats
  pub is_least : limit ≡ least mark pins
  pub becomes : new ≡ with_limit limit seats (with_scan mark old)
