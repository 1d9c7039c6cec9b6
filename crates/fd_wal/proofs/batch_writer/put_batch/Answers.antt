use Rattle.std.proofs.Common.{◌++◌, length, sym, arith}
use Rattle.fd_kinds.specs.RowSpelling.{count_bytes, row_spelling}
use Rattle.fd_wal.specs.Frames.{IsRow}
use Rattle.std.proofs.lemmas.List.Elements.{All-same}
use Rattle.fd_wal.proofs.Sizes.{few_rows, adds_more, adds_all}
use Rattle.fd_wal.proofs.batch_writer.put_batch.Goals as goal

pub put_count-requires : goal.put_count-requires
put_count-requires c = omega (arith, few_rows c.args.batch.now.rows, c.requires, c.len.ensures)

pub loop-row-preserved : goal.loop-row-preserved
loop-row-preserved c =
    let xs = c.as_slice-row-items.result.now in
    adds_more row_spelling IsRow (c.args.out.now ++ count_bytes (length xs)) c.loop-row.out c.put_row.new.out xs c.loop-row.row-index c.row-item.result c.loop-row-test.true c.row-item.is
    c.loop-row.invariant c.in_ok-put_row.ensures.ok c.in_ok-put_row.ensures.row

pub returns-clause-rows : goal.returns-clause-rows
returns-clause-rows c =
    let xs = c.as_slice-row-items.result.now in
    All-same IsRow c.args.batch.now.rows xs (sym c.as_slice-row-items.ensures)
    (adds_all row_spelling IsRow (c.args.out.now ++ count_bytes (length xs)) c.loop-row.out xs c.loop-row.row-index c.loop-row-test.false c.loop-row.invariant).1
