use Rattle.std.proofs.Common.{◌-◌, length}
use Rattle.fd_parquet.proofs.PageReads.{ReadsPages}
use Rattle.fd_parquet.proofs.pages.chunk_in.Given as goal

abbrev pub decreases-loop-alloc : goal.decreases-loop-alloc
decreases-loop-alloc l = l.count - length l.cells

abbrev pub invariant-loop-alloc : goal.invariant-loop-alloc
invariant-loop-alloc l = ReadsPages l.kind l.required l.count l.fn.bytes l.cells l.rest
