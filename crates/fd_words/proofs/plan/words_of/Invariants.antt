use Rattle.fd_words.proofs.Borrowed.{Borrows}
use Rattle.fd_words.proofs.plan.words_of.Given as goal

abbrev pub invariant-loop-text : goal.invariant-loop-text
invariant-loop-text l = Borrows l.texts l.text-index l.words.items
