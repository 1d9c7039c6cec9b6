use Rattle.fd_shelf.proofs.StragglerLaws.{bounded, count, held, only, gap}
use Rattle.fd_shelf.proofs.laws.book_laws.Goals as goal

pub returns-clause-bounded : goal.returns-clause-bounded
returns-clause-bounded c = bounded

pub returns-clause-count : goal.returns-clause-count
returns-clause-count c = count

pub returns-clause-held : goal.returns-clause-held
returns-clause-held c = held

pub returns-clause-only : goal.returns-clause-only
returns-clause-only c = only

pub returns-clause-gap : goal.returns-clause-gap
returns-clause-gap c = gap
