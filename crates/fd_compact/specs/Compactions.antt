-- What compaction answers, and what it makes of a shelf.
use Rattle.std.specs.Prelude.{◌≡◌, ℕ, ◌≤◌, ◌<◌, List, length, filter, Option, Some, None}
use Rattle.fd_kinds.specs.declared.limits.TheConstants.{MOST_LOOSE_PARTS}
use Rattle.fd_kinds.specs.Parts.{PartMeaning}
use Rattle.fd_shelf.specs.Books.{Shelved, rows_in}
use Rattle.fd_shelf.specs.Steps.{lowest, highest, is_loose}
use Rattle.fd_shelf.specs.Replacement.{replaced}
use Rattle.fd_compact.specs.declared.compaction.Compaction.{Compaction}
use Rattle.fd_compact.specs.declared.compaction.Compaction.TheVariants.{Compacted, Nothing, Overtaken, Changed}
use Rattle.fd_compact.specs.Runs.{IsSealOf}

-- one sealed part stands in place of the parts, and all else of the shelf is as it was
pub record IsSealedOver (parts : List PartMeaning) (old new : Shelved) : Type 0 where
  pub part : PartMeaning
  pub seals : IsSealOf parts part
  pub placed : new ≡ replaced part old

-- two parts or more were compacted: their range and the count of their rows are told
pub record IsCompacted (parts : List PartMeaning) (old : Shelved) (lo hi rows : ℕ) (new : Shelved) : Type 0 where
  pub some : 2 ≤ length parts
  pub lo_is : lo ≡ lowest parts
  pub hi_is : hi ≡ highest parts
  pub rows_are : rows ≡ length (rows_in parts)
  pub put : IsSealedOver parts old new

-- Fewer than two parts stay as they are, and their count is told. Nobody else changes the shelf, so no other case comes.
abbrev pub Compacts : List PartMeaning → Shelved → Compaction → Shelved → Type 0
Compacts parts old (Compacted lo hi rows) new = IsCompacted parts old lo hi rows new
Compacts parts old (Nothing count) new = (length parts < 2) × (count ≡ length parts) × (new ≡ old)
Compacts parts old (Overtaken block) new = ⊥
Compacts parts old (Changed at) new = ⊥

-- all loose parts of the active block
abbrev pub loose_parts : Shelved → List PartMeaning
loose_parts shelf = filter is_loose shelf.book.active

-- few stay as they are, and else all are compacted
abbrev pub CompactsFull : Shelved → Option Compaction → Shelved → Type 0
CompactsFull old None new = (length (loose_parts old) < MOST_LOOSE_PARTS) × (new ≡ old)
CompactsFull old (Some done) new = (MOST_LOOSE_PARTS ≤ length (loose_parts old)) × Compacts (loose_parts old) old done new
