use Rattle.std.proofs.Common.{◌≡◌, ◌+◌, drop}
use Rattle.std.specs.Prelude.{option_map}
use Rattle.fd_dictionary.specs.Dictionaries.{pick_in, entries_of}
use Rattle.fd_scan.proofs.lookup.entry_of.Given as goal

abbrev pub invariant-loop-at : goal.invariant-loop-at
invariant-loop-at l = pick_in (entries_of l.cells) l.text ≡ option_map (λ pick. pick + l.at) (pick_in (drop l.at (entries_of l.cells)) l.text)
