-- The front of a rest of the input: its bytes up to the first blank line that follows a byte of a
-- line. A line ends in CR LF or in LF alone (RFC 9112, section 2.2).
use Rattle.std.specs.Prelude.{ℕ, ◌≡◌, ◌<◌, ◌≤◌, List, [], ◌∷◌, ◌++◌, length, take, Bool, not, ◌&&◌, ◌||◌, ◌==◌, nat_eq, IsTrue, IsFalse}
use Rattle.std.specs.List.{list_any, ends_with}
use Rattle.httparse.specs.Ascii.{line_feed, carriage_return}

-- a byte other than CR and LF
abbrev pub is_text_byte : ℕ → Bool
is_text_byte b = not (b == carriage_return) && not (b == line_feed)

-- the last bytes are LF LF, or LF CR LF
abbrev pub ends_blank : List ℕ → Bool
ends_blank bytes = ends_with nat_eq bytes (line_feed ∷ line_feed ∷ []) || ends_with nat_eq bytes (line_feed ∷ carriage_return ∷ line_feed ∷ [])

-- there is a byte other than CR and LF, and the last line is blank
abbrev pub is_blank_ended : List ℕ → Bool
is_blank_ended bytes = list_any is_text_byte bytes && ends_blank bytes

-- the shortest such prefix of a rest, and what follows it
pub record IsFront (rest front more : List ℕ) : Type 0 where
  pub parts : rest ≡ front ++ more
  pub ends : IsTrue (is_blank_ended front)
  pub shortest : (n : ℕ) → n < length front → IsFalse (is_blank_ended (take n front))

-- no prefix is such
abbrev pub HasNoFront : List ℕ → Type 0
HasNoFront bytes = (n : ℕ) → n ≤ length bytes → IsFalse (is_blank_ended (take n bytes))
