-- What lies in the slots of a table when it is made and when it ends.
use Rattle.std.specs.Prelude.{◌≡◌, List, [], ◌∷◌}
use Rattle.fd_shelf.specs.Books.{Shelved}
use Rattle.fd_rule.specs.declared.slot.SlotValue.{SlotValue}
use Rattle.fd_rule.specs.declared.slot.SlotValue.TheVariants.{Empty, Home, Landed}
use Rattle.fd_rule.specs.declared.made.NotMade.{NotMade}
use Rattle.fd_rule.specs.declared.made.NotMade.TheVariants.{NoMemory}

-- the shelf lies there
abbrev pub IsHome : {P : Type 0} → SlotValue P → Type 0
IsHome (Home shelf) = Unit {0}
IsHome Empty = ⊥
IsHome (Landed part) = ⊥

-- the shelf lies in the first slot
abbrev pub Opens : {P : Type 0} → List (SlotValue P) → Type 0
Opens [] = ⊥
Opens (value ∷ values) = IsHome value

abbrev pub rest_of : {P : Type 0} → List (SlotValue P) → List (SlotValue P)
rest_of [] = []
rest_of (value ∷ values) = values

-- no base was made, and the shelf came back
abbrev pub HandedBack : {P : Type 0} → Shelved → NotMade P → Type 0
HandedBack shelf (NoMemory back) = back ≡ shelf
