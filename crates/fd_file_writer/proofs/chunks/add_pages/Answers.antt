use Rattle.std.proofs.Common.{◌≤◌, length, arith}
use Rattle.fd_table_file.specs.Columns.{cells_of, column_at}
use Rattle.fd_file_writer.proofs.ChunkPages.{cells_count, continues_all}
use Rattle.fd_file_writer.proofs.chunks.add_pages.Goals as goal

pub returns : goal.returns
returns c =
    let all : length (cells_of (column_at c.args.table.now c.args.column) c.args.table.now) ≤ c.loop-from.from =
    omega (arith, cells_count (column_at c.args.table.now c.args.column) c.args.table.now, c.len-count.ensures, c.loop-from-test.false) in
    continues_all c.args.table.now (column_at c.args.table.now c.args.column) c.loop-from.from c.args.out.now c.loop-from.out all c.loop-from.invariant.so_far
