-- What reading the text behind `{` answers.
use Rattle.std.specs.Prelude.{ℕ, ◌<◌, ◌≤◌, List, ◌∷◌, ◌++◌, length, take, IsUtf8, Result, Ok, Err}
use Rattle.fd_kinds.specs.declared.query.Matcher.{Matcher}
use Rattle.fd_select.specs.declared.braces.BracesFault.{BracesFault}
use Rattle.fd_select.specs.declared.braces.BracesFault.TheVariants.{Stops, NoMemory}
use Rattle.fd_select.specs.SelectorTexts.{IsBraced}

-- behind `{`, matchers in braces begin with these bytes
pub record BeginsBraces (bytes : List ℕ) : Type 0 where
  pub more : List ℕ
  pub is_text : IsUtf8 (bytes ++ more)
  pub matchers : List Matcher
  pub is_braced : IsBraced (123 ∷ (bytes ++ more)) matchers

-- the text is none behind `{`, and this is the length of its longest prefix that such texts begin with
pub record IsStop (text : List ℕ) (at : ℕ) : Type 0 where
  pub none : (ms : List Matcher) → IsBraced (123 ∷ text) ms → ⊥
  pub within : at ≤ length text
  pub begins : BeginsBraces (take at text)
  pub longest : (n : ℕ) → at < n → n ≤ length text → (more : List ℕ) (ms : List Matcher) → IsBraced (123 ∷ (take n text ++ more)) ms → ⊥

abbrev pub ReadsBraces : List ℕ → Result (List Matcher) BracesFault → Type 0
ReadsBraces text (Ok ms) = IsBraced (123 ∷ text) ms
ReadsBraces text (Err (Stops at)) = IsStop text at
ReadsBraces text (Err NoMemory) = Unit {0}
