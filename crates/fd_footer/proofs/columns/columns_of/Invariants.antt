use Rattle.std.proofs.Common.{◌≡◌, ◌++◌, drop, map}
use Rattle.std.specs.List.{list_all}
use Rattle.fd_thrift.specs.View.{view}
use Rattle.fd_footer.specs.Contents.{is_column, column_at}
use Rattle.fd_footer.proofs.columns.columns_of.Given as goal

-- the columns so far and those that are left
abbrev pub invariant-loop-element : goal.invariant-loop-element
invariant-loop-element l = record {
  so_far : l.columns ++ map column_at (map view (drop l.element-index l.elements)) ≡ map column_at (map view l.elements);
  none_bad : list_all is_column (map view (drop l.element-index l.elements)) ≡ list_all is_column (map view l.elements);
}
