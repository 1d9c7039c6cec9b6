use Rattle.std.proofs.Common.{length}
use Rattle.fd_table_file.specs.Columns.{IsStack}
use Rattle.fd_parquet.proofs.contents.is_stack.Given as goal

abbrev pub decreases-loop-rest : goal.decreases-loop-rest
decreases-loop-rest l = length l.rest

-- the bytes are a stack exactly where the rest is
abbrev pub invariant-loop-rest : goal.invariant-loop-rest
invariant-loop-rest l = record {
  behind : IsStack l.fn.bytes → IsStack l.rest;
  whole : IsStack l.rest → IsStack l.fn.bytes;
}
