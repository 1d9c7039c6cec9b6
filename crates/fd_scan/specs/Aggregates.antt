-- What was gathered for a query says of the rows that it was gathered from.
use Rattle.std.specs.Prelude.{◌≡◌, Bool, ◌&&◌, List, Option, Some, None, map}
use Rattle.fd_kinds.specs.declared.row.Row.{Row}
use Rattle.fd_kinds.specs.declared.query.Query.{Query}
use Rattle.fd_kinds.specs.declared.query.Query.TheVariants as query
use Rattle.fd_kinds.specs.declared.query.Selector.{Selector}
use Rattle.fd_kinds.specs.declared.query.Window.{Window}
use Rattle.fd_kinds.specs.Meaning.{is_within, is_selected, filtered_rows, kept_rows, type_of, type_cmp, label_names, label_values, series_of, series_cmp}
use Rattle.fd_scan.specs.declared.aggregate.Gathered.{Gathered}
use Rattle.fd_scan.specs.declared.aggregate.Groups.{Groups}
use Rattle.fd_scan.specs.declared.aggregate.Groups.TheVariants as groups
use Rattle.fd_groups.specs.Groups.{AreSums, AreRanges}
use Rattle.fd_groups.specs.DistinctItems.{AreDistinct}

-- whether the window keeps the row, and the filter where there is one
abbrev pub is_filtered : Option Selector → Window → Row → Bool
is_filtered None window row = is_within window row
is_filtered (Some selector) window row = is_within window row && is_selected selector row

-- whether the row counts for the query
abbrev pub counts : Query → Row → Bool
counts (query.Types window) row = is_within window row
counts (query.LabelNames selector window) row = is_filtered selector window row
counts (query.Values name selector window) row = is_filtered selector window row
counts (query.Series selector window) row = is_filtered selector window row
counts (query.Range selector window) row = is_within window row && is_selected selector row
counts (query.Merge selector window) row = is_within window row && is_selected selector row

-- the rows that count for the query, in order
abbrev pub counted : Query → List Row → List Row
counted (query.Types window) rows = filtered_rows None window rows
counted (query.LabelNames selector window) rows = filtered_rows selector window rows
counted (query.Values name selector window) rows = filtered_rows selector window rows
counted (query.Series selector window) rows = filtered_rows selector window rows
counted (query.Range selector window) rows = kept_rows selector window rows
counted (query.Merge selector window) rows = kept_rows selector window rows

-- The groups are of the query's kind, and are what it asks for of these rows, which all count for it.
abbrev pub AreGroups : Query → List Row → Groups → Type 0
AreGroups (query.Types window) rows (groups.Types types) = AreDistinct type_cmp types.found.keys types.last (map type_of rows)
AreGroups (query.LabelNames selector window) rows (groups.Names names) = names.keys ≡ label_names rows
AreGroups (query.Values name selector window) rows (groups.Values values) = (values.name ≡ name) × (values.found.keys ≡ label_values name rows)
AreGroups (query.Series selector window) rows (groups.Series series) = AreDistinct series_cmp series.keys None (map series_of rows)
AreGroups (query.Range selector window) rows (groups.Range ranges) = AreRanges ranges rows
AreGroups (query.Merge selector window) rows (groups.Merge sums) = AreSums sums.slots sums.sums.items sums.total rows
AreGroups query rows other = ⊥

-- exactly these rows were gathered for the query; those among them that count for it are in the groups
pub record AreGathered (query : Query) (rows : List Row) (gathered : Gathered) : Type 0 where
  pub groups : AreGroups query (counted query rows) gathered.groups
