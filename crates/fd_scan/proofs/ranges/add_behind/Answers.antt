use Rattle.std.proofs.Common.{◌++◌, [], ◌∷◌, subst}
use Rattle.fd_groups.specs.Groups.{AreRanges}
use Rattle.fd_scan.specs.RowPlaces.{row_at}
use Rattle.fd_scan.proofs.ranges.add_behind.Goals as goal

pub returns-clause-ok : goal.returns-clause-ok
returns-clause-ok g c = λ rows before.
    subst (λ at. AreRanges c.add_labelled.new.ranges (rows ++ row_at (g.C.Columns.rows c.args.columns.now) at ∷ [])) c.in_ok-place.ensures.here
    (c.in_ok-add_labelled.ensures.ok rows before)
