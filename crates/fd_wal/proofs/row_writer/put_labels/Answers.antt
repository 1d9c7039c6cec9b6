use Rattle.std.proofs.Common.{◌++◌, length, sym, arith}
use Rattle.fd_kinds.specs.RowSpelling.{count_bytes, pair_spelling}
use Rattle.fd_wal.specs.Frames.{IsTextPair}
use Rattle.std.proofs.lemmas.List.Elements.{All-same}
use Rattle.fd_wal.proofs.Sizes.{few_pairs, adds_more, adds_all}
use Rattle.fd_wal.proofs.row_writer.put_labels.Goals as goal

pub put_count-requires : goal.put_count-requires
put_count-requires c = omega (arith, few_pairs c.args.labels.now.pairs, c.requires, c.len.ensures)

pub loop-pair-preserved : goal.loop-pair-preserved
loop-pair-preserved c =
    let xs = c.as_slice-pair-items.result.now in
    adds_more pair_spelling IsTextPair (c.args.out.now ++ count_bytes (length xs)) c.loop-pair.out c.put_pair.new.out xs c.loop-pair.pair-index c.pair-item.result c.loop-pair-test.true c.pair-item.is
    c.loop-pair.invariant c.in_ok-put_pair.ensures.ok c.in_ok-put_pair.ensures.utf8

pub returns-clause-utf8 : goal.returns-clause-utf8
returns-clause-utf8 c =
    let xs = c.as_slice-pair-items.result.now in
    All-same IsTextPair c.args.labels.now.pairs xs (sym c.as_slice-pair-items.ensures)
    (adds_all pair_spelling IsTextPair (c.args.out.now ++ count_bytes (length xs)) c.loop-pair.out xs c.loop-pair.pair-index c.loop-pair-test.false c.loop-pair.invariant).1
