use Rattle.std.proofs.Common.{◌≡◌, ◌≤◌, ℕ, List, drop, length}
use Rattle.std.specs.BTreeMap.{get}
use Rattle.fd_lists.specs.Texts.{text_cmp}
use Rattle.fd_pprof.specs.Winners.{place_from}
use Rattle.fd_pprof.proofs.numbers.text_places.Given as goal

abbrev pub invariant-loop-i : goal.invariant-loop-i
invariant-loop-i l = record {
  within : l.i ≤ length l.texts;
  first : (text : List ℕ) → get text_cmp l.places text ≡ place_from l.i (drop l.i l.texts) text;
}

abbrev pub decreases-loop-i : goal.decreases-loop-i
decreases-loop-i l = l.i
