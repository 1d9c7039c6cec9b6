use Rattle.std.proofs.Common.{rules, ◌≡◌, ◌++◌, [], ◌∷◌, map, refl, Some, subst}
use Rattle.fd_kinds.specs.declared.row.Row.{Row}
use Rattle.fd_kinds.specs.Meaning.{series_of, series_cmp}
use Rattle.fd_scan.specs.RowPlaces.{row_at}
use Rattle.fd_groups.specs.DistinctItems.{AreDistinct}
use Rattle.fd_scan.specs.LastSeries.{last_series}
use Rattle.fd_scan.proofs.DistinctItemLaws.{distinct_last, rows_more, series_cmp_total}
use Rattle.fd_scan.proofs.series.add_behind.Goals as goal

pub returns-then-is_last_series-clause-ok : goal.returns-then-is_last_series-clause-ok
returns-then-is_last_series-clause-ok g c =
    let row : Row = row_at (g.C.Columns.rows c.args.columns.now) c.args.at in
    let is : last_series (g.C.Columns.rows c.args.columns.now) c.args.last ≡ Some (series_of row) = search rules in
    λ rows before. subst (λ last. AreDistinct series_cmp c.args.found.now.keys last (map series_of (rows ++ row ∷ []))) is
    (rows_more {R = series_cmp} series_of c.args.found.now.keys (last_series (g.C.Columns.rows c.args.columns.now) c.args.last) rows row (series_of row) refl
    (distinct_last series_cmp_total c.args.found.now.keys (last_series (g.C.Columns.rows c.args.columns.now) c.args.last) (series_of row) (map series_of rows) is before))
