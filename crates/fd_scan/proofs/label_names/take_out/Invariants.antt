use Rattle.std.proofs.Common.{◌≡◌, length}
use Rattle.fd_scan.specs.Removals.{undone}
use Rattle.fd_scan.proofs.label_names.take_out.Given as goal

abbrev pub invariant-loop-text : goal.invariant-loop-text
invariant-loop-text l = undone l.texts.keys l.noted ≡ undone l.initial.texts.keys l.fn.noted

abbrev pub decreases-loop-text : goal.decreases-loop-text
decreases-loop-text l = length l.noted
