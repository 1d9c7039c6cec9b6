-- Parts that follow one another, in whose place one sealed part can stand.
use Rattle.std.specs.Prelude.{◌≤◌, ◌<◌, ◌^◌, List, All}
use Rattle.fd_kinds.specs.declared.limits.TheConstants.{BLOCK_BYTES_LIMIT}
use Rattle.fd_kinds.specs.Parts.{PartMeaning, IsWithin}
use Rattle.fd_shelf.specs.Books.{Each, rows_in, bytes_of}
use Rattle.fd_shelf.specs.Steps.{lowest, highest}

-- the numbers of the part fit 63 bits
abbrev pub IsNumbered : PartMeaning → Type 0
IsNumbered part = part.hi < 2 ^ 63

-- the rows of parts lie in their range, and are few enough for a file
pub record AreSealable (parts : List PartMeaning) : Type 0 where
  pub numbered : Each IsNumbered parts
  pub range : lowest parts ≤ highest parts
  pub below : highest parts < 2 ^ 63
  pub within : All (IsWithin (lowest parts) (highest parts)) (rows_in parts)
  pub light : bytes_of (rows_in parts) < BLOCK_BYTES_LIMIT
