use Rattle.fd_shelf.proofs.StragglerLaws.{straggler_book, straggler_batch, straggler_others, straggler_history, free_number}
use Rattle.fd_shelf.proofs.laws.straggler_laws.Goals as goal

pub returns-clause-book : goal.returns-clause-book
returns-clause-book c = straggler_book

pub returns-clause-batch : goal.returns-clause-batch
returns-clause-batch c = straggler_batch

pub returns-clause-others : goal.returns-clause-others
returns-clause-others c = straggler_others

pub returns-clause-history : goal.returns-clause-history
returns-clause-history c = straggler_history

pub returns-clause-free : goal.returns-clause-free
returns-clause-free c = free_number
