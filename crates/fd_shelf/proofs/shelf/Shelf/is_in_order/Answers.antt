use Rattle.std.proofs.Common.{subst}
use Rattle.fd_shelf.specs.Books.{Shelved}
use Rattle.fd_shelf.specs.Marks.{IsBook}
use Rattle.fd_shelf.proofs.Watermarks.{upto_mark}
use Rattle.fd_shelf.proofs.shelf.Shelf.is_in_order.Goals as goal

pub returns-clause-all : goal.returns-clause-all
returns-clause-all g c =
    upto_mark c.args.self.now.book c.args.self.now.mark (subst (λ (s : Shelved). IsBook s.book s.mark) c.self.view_is c.self.invariant.0)
