use Rattle.std.proofs.Common.{◌≡◌, ◌∷◌, ◌++◌, length, map, drop}
use Rattle.fd_thrift.specs.View.{view}
use Rattle.fd_footer.specs.Tables.{root_value, column_value}
use Rattle.fd_footer.proofs.schema.schema_trees.Given as goal

-- the elements so far, and those that are left
abbrev pub invariant-loop-column : goal.invariant-loop-column
invariant-loop-column l =
    map view l.trees.items ++ map column_value (drop l.column-index l.columns)
    ≡ root_value (length l.columns) ∷ map column_value l.columns
