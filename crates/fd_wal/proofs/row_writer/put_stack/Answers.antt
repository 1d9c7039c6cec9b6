use Rattle.std.proofs.Common.{◌++◌, length, sym, arith}
use Rattle.fd_kinds.specs.RowSpelling.{count_bytes, text_spelling}
use Rattle.std.specs.Prelude.{IsUtf8}
use Rattle.std.proofs.lemmas.List.Elements.{All-same}
use Rattle.fd_wal.proofs.Sizes.{few_frames, adds_more, adds_all}
use Rattle.fd_wal.proofs.row_writer.put_stack.Goals as goal

pub put_count-requires : goal.put_count-requires
put_count-requires c = omega (arith, few_frames c.args.stack.now, c.requires, c.len.ensures)

pub loop-frame-preserved : goal.loop-frame-preserved
loop-frame-preserved c =
    let xs = c.as_slice-frame-items.result.now in
    adds_more text_spelling IsUtf8 (c.args.out.now ++ count_bytes (length xs)) c.loop-frame.out c.put_text.new.out xs c.loop-frame.frame-index c.frame-item.result c.loop-frame-test.true c.frame-item.is
    c.loop-frame.invariant c.in_ok-put_text.ensures.ok c.in_ok-put_text.ensures.utf8

pub returns-clause-utf8 : goal.returns-clause-utf8
returns-clause-utf8 c =
    let xs = c.as_slice-frame-items.result.now in
    All-same IsUtf8 c.args.stack.now xs (sym c.as_slice-frame-items.ensures)
    (adds_all text_spelling IsUtf8 (c.args.out.now ++ count_bytes (length xs)) c.loop-frame.out xs c.loop-frame.frame-index c.loop-frame-test.false c.loop-frame.invariant).1
