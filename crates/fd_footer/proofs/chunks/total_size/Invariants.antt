use Rattle.std.proofs.Common.{◌≡◌, ◌+◌, drop}
use Rattle.fd_footer.specs.Tables.{total_size}
use Rattle.fd_footer.proofs.chunks.total_size.Given as goal

-- the sizes so far, and those that are left
abbrev pub invariant-loop-chunk : goal.invariant-loop-chunk
invariant-loop-chunk l = l.total + total_size (drop l.chunk-index l.chunks) ≡ total_size l.chunks
