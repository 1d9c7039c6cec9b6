use Rattle.std.proofs.Common.{ap}
use Rattle.fd_shelf.specs.Books.{Shelved}
use Rattle.stubs.specs.Stubs.{sealed_stub}
use Rattle.test_table.proofs.Replacements.{same_rows, sealed_over}
use Rattle.test_table.proofs.seals.seal_run.Goals as goal

pub returns-in-Ok-clause-rows : goal.returns-in-Ok-clause-rows
returns-in-Ok-clause-rows c = let is = c.in-Ok.ensures.replaced in
    same_rows c.args.shelf.now c.replace.new.self c.is_in_order.ensures.book c.is_in_order-in-Ok.ensures.book (ap (λ (s : Shelved). s.mark) is) (ap (λ (s : Shelved). s.book.stragglers) is)
    c.book_laws.ensures.held c.book_laws.ensures.only c.replace.ensures.history c.replace.ensures.numbers

pub returns-in-Ok-clause-sealed : goal.returns-in-Ok-clause-sealed
returns-in-Ok-clause-sealed c = sealed_over c.args.shelf.now c.replace.new.self (sealed_stub c.args.lo c.args.hi) c.in-Ok.ensures.replaced
