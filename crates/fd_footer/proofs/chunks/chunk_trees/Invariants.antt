use Rattle.std.proofs.Common.{◌≡◌, ◌++◌, ◌<◌, ◌^◌, map, drop}
use Rattle.fd_thrift.specs.View.{view}
use Rattle.fd_footer.specs.Tables.{chunk_values, total_size}
use Rattle.fd_footer.proofs.chunks.chunk_trees.Given as goal

-- the chunks so far, and those that are left
abbrev pub invariant-loop-at : goal.invariant-loop-at
invariant-loop-at l = record {
  whole : map view l.trees.items ++ chunk_values l.pages l.rows (drop l.at l.columns) (drop l.at l.chunks)
      ≡ chunk_values l.pages l.rows l.columns l.chunks;
  sizes : total_size (drop l.at l.chunks) < 2 ^ 63;
}
