use Rattle.std.proofs.Common.{◌≡◌, ℕ, List, [], take, drop}
use Rattle.std.specs.BTreeSet.{contains}
use Rattle.fd_lists.specs.Texts.{text_cmp}
use Rattle.fd_rows.specs.Labels.{has_label}
use Rattle.fd_rows.specs.Body.{labels_refusal}
use Rattle.fd_rows.proofs.checks.check_labels.Given as goal

abbrev pub invariant-loop-i : goal.invariant-loop-i
invariant-loop-i l = record {
  seen : (name : List ℕ) → contains text_cmp l.seen name ≡ has_label (take l.i l.pairs) name;
  rest : labels_refusal l.series (take l.i l.pairs) (drop l.i l.pairs) ≡ labels_refusal l.series [] l.pairs;
}
