-- What recovery makes of the batches of a disk: the parts of a shelf.
use Rattle.std.specs.Prelude.{◌≡◌, ℕ, ◌+◌, ◌<◌, ◌≤◌, Bool, true, false, List, [], ◌∷◌, ◌++◌, length, Option, Some, None}
use Rattle.fd_kinds.specs.History.{History}
use Rattle.fd_kinds.specs.Parts.{PartMeaning, loose_part}
use Rattle.fd_device.specs.Disks.{Files}
use Rattle.fd_shelf.specs.Books.{Book, Shelved}
use Rattle.fd_shelf.specs.Histories.{hist}
use Rattle.fd_wal.specs.Frames.{Frame}
use Rattle.fd_wal.specs.Logs.{history_of, is_rotated, IsClosed, IsLog}
use Rattle.fd_keeper.specs.Blocks.{Block, log_of, seal_of, batches_in, history_in, recovered, LeadOn}
use Rattle.fd_open.specs.declared.reading.LogFound.{LogFound}
use Rattle.fd_open.specs.declared.tail.Tail.{Tail}
use Rattle.fd_open.specs.Barriers.{IsRead}

-- the loose parts of batches, with the numbers from the first on
abbrev pub parts_from : ℕ → History → List PartMeaning
parts_from first [] = []
parts_from first (rows ∷ history) = loose_part first rows ∷ parts_from (first + 1) history

-- the parts of blocks, whose numbers begin with the first
abbrev pub blocks_from : ℕ → List Block → List (List PartMeaning)
blocks_from first [] = []
blocks_from first (block ∷ blocks) = parts_from first (batches_in block) ∷ blocks_from (first + length (batches_in block)) blocks

-- the book of closed blocks and of the active one, which has these frames
abbrev pub book_of : List Block → List Frame → Book
book_of closed active = record { closed = blocks_from 1 closed; active = parts_from (1 + length (history_in closed)) (history_of active); stragglers = [] }

-- the last number of each block of logs, behind so many numbers
abbrev pub ends_behind : ℕ → List Block → List ℕ
ends_behind before [] = []
ends_behind before (block ∷ blocks) = (before + length (batches_in block)) ∷ ends_behind (before + length (batches_in block)) blocks

-- A shelf has the batches of blocks: each closed block of the one is a closed block of the other, with its numbers.
pub record IsShelfOf (closed : List Block) (active : List Frame) (shelf : Shelved) : Type 0 where
  pub book : shelf.book ≡ book_of closed active
  pub mark : shelf.mark ≡ length (recovered closed active)
  pub history : hist shelf.book shelf.mark ≡ recovered closed active

-- ---- on the way

-- a book with parts in the active block, which is closed then or not
abbrev pub with_parts : Bool → List PartMeaning → Book → Book
with_parts true parts book = record { closed = book.closed ++ parts ∷ []; active = []; stragglers = book.stragglers }
with_parts false parts book = record { closed = book.closed; active = parts; stragglers = book.stragglers }

-- The batches are those of the active block, which had none, and it is closed then or not.
pub record Shelves (batches : History) (rotated : Bool) (old new : Shelved) : Type 0 where
  pub book : new.book ≡ with_parts rotated (parts_from (old.mark + 1) batches) old.book
  pub mark : new.mark ≡ old.mark + length batches
  pub history : hist new.book new.mark ≡ hist old.book old.mark ++ batches

-- where the log ends, if it is not ended by a rotation
abbrev pub tail_if : Bool → LogFound → Option Tail
tail_if true found = None
tail_if false found = Some (record { gate = found.replayed.gate; size = found.size })

abbrev pub tail_of : LogFound → Option Tail
tail_of found = tail_if found.replayed.rotated found

-- another block follows, behind some batches, or the log ends
abbrev pub GoesOn : Shelved → Option Tail → Shelved → Type 0
GoesOn old None new = (new.book.active ≡ []) × (old.mark < new.mark)
GoesOn old (Some tail) new = tail.gate ≤ tail.size

-- the shelf has the batches of blocks that lead on, and nothing else
pub record IsUpto (files : Files) (closed : List Block) (shelf : Shelved) : Type 0 where
  pub lead : LeadOn files 0 1 closed
  pub book : shelf.book ≡ book_of closed []
  pub mark : shelf.mark ≡ length (history_in closed)
  pub history : hist shelf.book shelf.mark ≡ history_in closed

-- the log is ended, or ends here
abbrev pub EndsAt : List ℕ → List Frame → ℕ → Option Tail → Type 0
EndsAt bytes frames gate None = is_rotated frames ≡ true
EndsAt bytes frames gate (Some tail) = (is_rotated frames ≡ false) × (tail.gate ≡ gate) × (tail.size ≡ length bytes)

-- the block behind those of a shelf, whose batches are added to it
pub record AddsBlock (files : Files) (old new : Shelved) (tail : Option Tail) : Type 0 where
  pub frames : List Frame
  pub gate : ℕ
  pub unsealed : IsClosed (files (seal_of (length old.book.closed)))
  pub log : IsLog (files (log_of (length old.book.closed))) (old.mark + 1) frames gate
  pub ends : EndsAt (files (log_of (length old.book.closed))) frames gate tail
  pub shelves : Shelves (history_of frames) (is_rotated frames) old new

-- what the disk recovers to is on the shelf, and the active log ends here
pub record Reads {D : Type 0} (seen : D → Files) (may_leave : D → Files → Type 0) (old new : D) (shelf : Shelved) (tail : Tail) : Type 0 where
  pub closed : List Block
  pub active : List Frame
  pub shelf_is : IsShelfOf closed active shelf
  pub read : IsRead seen may_leave new (length closed) tail closed active
