use Rattle.std.proofs.Common.{◌≡◌, take}
use Rattle.std.specs.Prelude.{filter}
use Rattle.std.specs.List.{list_all}
use Rattle.fd_kinds.specs.Meaning.{is_match}
use Rattle.fd_scan.specs.RowPlaces.{row_at}
use Rattle.fd_scan.proofs.matchers.keep_all_matching.Given as goal

abbrev pub invariant-loop-matcher : goal.invariant-loop-matcher
invariant-loop-matcher g l = l.places.items ≡ filter (λ at. list_all (is_match (row_at (g.C.Columns.rows l.columns) at)) (take l.matcher-index l.matchers)) l.initial.places.items
