-- How the search for a front stands.
use Rattle.std.specs.Prelude.{ℕ, ◌≡◌, ◌≤◌, List, [], ◌∷◌, length, take, ◌||◌, nat_eq, IsFalse}
use Rattle.std.specs.List.{list_any, ends_with}
use Rattle.httparse.specs.Ascii.{line_feed, carriage_return}
use Rattle.fd_http.specs.declared.front.FrontSearch.{FrontSearch}
use Rattle.fd_http.specs.Front.{is_text_byte, is_blank_ended}

-- what it keeps of the bytes that it has seen
pub record EndsAs (seen : List ℕ) (search : FrontSearch) : Type 0 where
  pub text : search.has_text ≡ list_any is_text_byte seen
  pub feed : search.after_feed ≡ ends_with nat_eq seen (line_feed ∷ [])
  pub line : search.after_line ≡ (ends_with nat_eq seen (line_feed ∷ []) || ends_with nat_eq seen (line_feed ∷ carriage_return ∷ []))

-- it has seen some of the bytes, and no front ends among them
pub record HasSearched (bytes : List ℕ) (search : FrontSearch) : Type 0 where
  pub within : search.place ≤ length bytes
  pub ends : EndsAs (take search.place bytes) search
  pub none : (k : ℕ) → k ≤ search.place → IsFalse (is_blank_ended (take k bytes))
