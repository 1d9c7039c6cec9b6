-- When a book is in order, apart from the mark that it is read at and with it.
use Rattle.std.specs.Prelude.{◌≡◌, ℕ, ◌<◌, ◌^◌}
use Rattle.fd_kinds.specs.Parts.{IsPart}
use Rattle.fd_shelf.specs.Books.{Book, Each, Follows, Waits, SealedFirst, IsUsed, IsLight, HasSmallBatches, blocks_of, settled_parts, all_parts}
use Rattle.fd_shelf.specs.Steps.{highest}

-- the last number of the blocks, and 0 where they have none
abbrev pub end_of : Book → ℕ
end_of book = highest (settled_parts book)

-- A book in order: the ranges of its blocks follow one another from 1 on, and numbers wait behind their end, which may
-- follow it. No sealed part of a block stands after a loose one, each closed block has a number, and each number and each
-- block has few bytes.
pub record IsWellFormed (book : Book) : Type 0 where
  pub settled : Follows 1 (settled_parts book) (end_of book)
  pub bounded : end_of book < 2 ^ 63
  pub waiting : Waits (end_of book) book.stragglers
  pub parts : Each IsPart (all_parts book)
  pub small : Each HasSmallBatches (all_parts book)
  pub light : Each IsLight (blocks_of book)
  pub sealed_first : Each SealedFirst (blocks_of book)
  pub used : Each IsUsed book.closed

-- A book in order, and the mark at the end of its blocks.
pub record IsBook (book : Book) (mark : ℕ) : Type 0 where
  pub well_formed : IsWellFormed book
  pub ends : mark ≡ end_of book
