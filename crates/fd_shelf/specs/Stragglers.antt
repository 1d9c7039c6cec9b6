-- A batch that waits in a book.
use Rattle.std.specs.Prelude.{ℕ, List}
use Rattle.fd_kinds.specs.declared.row.Row.{Row}
use Rattle.fd_kinds.specs.Parts.{loose_part}
use Rattle.fd_shelf.specs.Books.{Book}
use Rattle.fd_shelf.specs.Steps.{placed}

-- The book with the loose part of a batch among its stragglers: what `Shelf::admit` makes of it.
abbrev pub with_straggler : ℕ → List Row → Book → Book
with_straggler number rows book = record { closed = book.closed; active = book.active; stragglers = placed (loose_part number rows) book.stragglers }
