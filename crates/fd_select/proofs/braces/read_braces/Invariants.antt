use Rattle.fd_select.proofs.Places.{Read}
use Rattle.fd_select.proofs.braces.read_braces.Given as goal

abbrev pub invariant-loop-i : goal.invariant-loop-i
invariant-loop-i l = Read l.text l.i l.reader
