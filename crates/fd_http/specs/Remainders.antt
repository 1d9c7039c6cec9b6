-- Facts on the rest of the input: the bytes that were read and not yet used, and those left in a
-- source, where it tells them.
use Rattle.std.specs.Prelude.{◌≡◌, ◌≤◌, ◌⊎◌, List, [], ℕ, ◌++◌, length, Option, None, Some, ⊤}
use Rattle.std.specs.Io.KnownBytes.{Consumes}
use Rattle.fd_http.specs.declared.limits.TheConstants.{LONGEST_PIECE}

-- The rest before and the rest after. A source that told its bytes before tells them after.
abbrev pub IfTold : Option (List ℕ) → Option (List ℕ) → List ℕ → List ℕ → (List ℕ → List ℕ → Type 0) → Type 0
IfTold None new a b P = ⊤
IfTold (Some old) None a b P = ⊥
IfTold (Some old) (Some new) a b P = P (a ++ old) (b ++ new)

-- The bytes that were given so far: those of the inbox before, and those that the source gave since.
pub record Given (old new : Option (List ℕ)) (inbox : List ℕ) (Is : List ℕ → Type 0) : Type 0 where
  pub bytes : List ℕ
  pub consumed : Consumes old new bytes
  pub holds : Is (inbox ++ bytes)

-- Nothing was read, or what was given before the last piece was still such.
pub record Paced (old new : Option (List ℕ)) (inbox : List ℕ) (Is : List ℕ → Type 0) : Type 0 where
  pub before : List ℕ
  pub piece : List ℕ
  pub consumed : Consumes old new (before ++ piece)
  pub small : length piece ≤ LONGEST_PIECE
  pub holds : (before ++ piece ≡ []) ⊎ Is (inbox ++ before)
