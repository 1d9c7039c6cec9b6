-- The texts of selectors: a profile type, and behind it matchers in braces.
use Rattle.std.specs.Prelude.{ℕ, ◌≡◌, ◌<◌, ◌≤◌, ◌==◌, ◌&&◌, ◌||◌, ◌⊎◌, Bool, false, IsTrue, if◌then◌else◌, List, [], ◌∷◌, ◌++◌, length, take, replicate, codes, IsUtf8}
use Rattle.std.specs.Char.{is_ascii_alphabetic, is_ascii_digit}
use Rattle.std.specs.List.{flat_map, list_all}
use Rattle.fd_kinds.specs.Names.{is_label_name}
use Rattle.fd_kinds.specs.declared.query.ProfileType.{ProfileType}
use Rattle.fd_kinds.specs.declared.query.MatchOp.{MatchOp}
use Rattle.fd_kinds.specs.declared.query.MatchOp.TheVariants.{Equal, NotEqual}
use Rattle.fd_kinds.specs.declared.query.Matcher.{Matcher}
use Rattle.fd_kinds.specs.declared.query.Selector.{Selector}
use Rattle.fd_select.specs.declared.faults.SelectFault.{SelectFault}
use Rattle.fd_select.specs.declared.faults.SelectFault.TheVariants.{BadType, BadMatcher, NoMemory}

-- the text before its first `{`, or all of it
abbrev pub type_part : List ℕ → List ℕ
type_part [] = []
type_part (b ∷ bs) = if b == 123 then [] else b ∷ type_part bs

-- the text from its first `{` on
abbrev pub braces_part : List ℕ → List ℕ
braces_part [] = []
braces_part (b ∷ bs) = if b == 123 then b ∷ bs else braces_part bs

-- the first of the parts has one more byte in front
abbrev pub onto_first : ℕ → List (List ℕ) → List (List ℕ)
onto_first b [] = (b ∷ []) ∷ []
onto_first b (part ∷ parts) = (b ∷ part) ∷ parts

-- the text split at each `:`
abbrev pub parts_of : List ℕ → List (List ℕ)
parts_of [] = [] ∷ []
parts_of (b ∷ bs) = if b == 58 then [] ∷ parts_of bs else onto_first b (parts_of bs)

-- the five parts of a profile type, and `delta` as a sixth where it is set
abbrev pub kind_parts : ProfileType → List (List ℕ)
kind_parts k = k.name ∷ k.sample_type ∷ k.sample_unit ∷ k.period_type ∷ k.period_unit ∷ (if k.delta then codes "delta" ∷ [] else [])

abbrev pub spaces : ℕ → List ℕ
spaces n = replicate n 32

abbrev pub op_text : MatchOp → List ℕ
op_text Equal = codes "="
op_text NotEqual = codes "!="

-- `"` and `\` stand behind a `\`, and every other byte stands for itself
abbrev pub escaped : ℕ → List ℕ
escaped b = if b == 34 || b == 92 then 92 ∷ b ∷ [] else b ∷ []

-- the value between `"` and `"`
abbrev pub quoted : List ℕ → List ℕ
quoted value = 34 ∷ (flat_map escaped value ++ 34 ∷ [])

-- a label name, `=` or `!=`, and a quoted text, with spaces between them
pub record IsMatcher (text : List ℕ) (m : Matcher) : Type 0 where
  pub is_name : IsTrue (is_label_name m.name)
  pub before : ℕ
  pub after : ℕ
  pub parts : text ≡ m.name ++ (spaces before ++ (op_text m.op ++ (spaces after ++ quoted m.value)))

-- a comma, with spaces around it
pub record IsComma (text : List ℕ) : Type 0 where
  pub before : ℕ
  pub after : ℕ
  pub parts : text ≡ spaces before ++ 44 ∷ spaces after

-- what stands behind a matcher: the others, each behind a comma, and behind the last at most one comma
abbrev pub IsRest : List ℕ → List Matcher → Type 0
IsRest text [] = (text ≡ []) ⊎ IsComma text
IsRest text (m ∷ ms) =
    (comma : List ℕ) × (matcher : List ℕ) × (rest : List ℕ) × (text ≡ comma ++ (matcher ++ rest))
    × IsComma comma × IsMatcher matcher m × IsRest rest ms

-- matchers with a comma between two, and at most one behind the last
abbrev pub IsList : List ℕ → List Matcher → Type 0
IsList text [] = text ≡ []
IsList text (m ∷ ms) =
    (matcher : List ℕ) × (rest : List ℕ) × (text ≡ matcher ++ rest) × IsMatcher matcher m × IsRest rest ms

-- such a list in braces, with spaces inside
pub record IsBraced (text : List ℕ) (ms : List Matcher) : Type 0 where
  pub before : ℕ
  pub after : ℕ
  pub list : List ℕ
  pub is_list : IsList list ms
  pub parts : text ≡ 123 ∷ (spaces before ++ (list ++ (spaces after ++ 125 ∷ [])))

-- no braces are no matchers
abbrev pub AreMatchers : List ℕ → List Matcher → Type 0
AreMatchers [] ms = ms ≡ []
AreMatchers (b ∷ bs) ms = IsBraced (b ∷ bs) ms

-- the text spells the selector; spaces, and the comma behind the last matcher, give it many spellings
pub record IsSelectorText (text : List ℕ) (s : Selector) : Type 0 where
  pub kind : parts_of (type_part text) ≡ kind_parts s.kind
  pub matchers : AreMatchers (braces_part text) s.matchers

-- The bytes are a prefix of some text in UTF-8 that spells some selector. A prefix may end within a character.
pub record BeginsSelector (bytes : List ℕ) : Type 0 where
  pub more : List ℕ
  pub is_text : IsUtf8 (bytes ++ more)
  pub selector : Selector
  pub spells : IsSelectorText (bytes ++ more) selector

-- the length, in bytes, of the text's longest prefix that is a prefix of some selector's text
pub record IsLongestBeginning (text : List ℕ) (at : ℕ) : Type 0 where
  pub within : at ≤ length text
  pub begins : BeginsSelector (take at text)
  pub longest : (n : ℕ) → at < n → n ≤ length text → BeginsSelector (take n text) → ⊥

-- the type part has not five parts, nor six with the last `delta`
abbrev pub HasNoType : List ℕ → Type 0
HasNoType text = (kind : ProfileType) → parts_of (type_part text) ≡ kind_parts kind → ⊥

-- the type part is right, and the matchers are not
pub record HasNoMatchers (text : List ℕ) (at : ℕ) : Type 0 where
  pub kind : ProfileType
  pub is_kind : parts_of (type_part text) ≡ kind_parts kind
  pub no_matchers : (ms : List Matcher) → AreMatchers (braces_part text) ms → ⊥
  pub place : IsLongestBeginning text at

-- where each refusal comes; want of memory is none of the text's
abbrev pub HasSelectFault : List ℕ → SelectFault → Type 0
HasSelectFault text BadType = HasNoType text
HasSelectFault text (BadMatcher at) = HasNoMatchers text at
HasSelectFault text NoMemory = ⊥
