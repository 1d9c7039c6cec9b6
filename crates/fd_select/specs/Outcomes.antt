-- What the parts of reading a selector answer.
use Rattle.std.specs.Prelude.{ℕ, ◌≡◌, ◌++◌, ◌∷◌, List, Result, Ok, Err}
use Rattle.fd_kinds.specs.declared.query.ProfileType.{ProfileType}
use Rattle.fd_kinds.specs.declared.query.Selector.{Selector}
use Rattle.fd_select.specs.declared.faults.SelectFault.{SelectFault}
use Rattle.fd_select.specs.declared.faults.SelectFault.TheVariants.{BadType, BadMatcher, NoMemory}
use Rattle.fd_select.specs.SelectorTexts.{type_part, parts_of, kind_parts, IsSelectorText, HasSelectFault}

-- the front has no `{`, and the rest stands behind the text's first
pub record OpensAt (text front rest : List ℕ) : Type 0 where
  pub alone : type_part front ≡ front
  pub parts : text ≡ front ++ 123 ∷ rest

-- the text of a profile type, and its refusal
abbrev pub ReadsKind : List ℕ → Result ProfileType SelectFault → Type 0
ReadsKind text (Ok kind) = parts_of text ≡ kind_parts kind
ReadsKind text (Err BadType) = (kind : ProfileType) → parts_of text ≡ kind_parts kind → ⊥
ReadsKind text (Err (BadMatcher at)) = ⊥
ReadsKind text (Err NoMemory) = Unit {0}

abbrev pub Meets : List ℕ → Result Selector SelectFault → Type 0
Meets text (Ok s) = IsSelectorText text s
Meets text (Err NoMemory) = Unit {0}
Meets text (Err fault) = HasSelectFault text fault
