use Rattle.std.proofs.Common.{◌<◌, length, arith}
use Rattle.fd_footer.proofs.Loops.{next_chunk, next_size, one_more}
use Rattle.fd_footer.proofs.chunks.chunk_trees.Goals as goal

pub loop-at-preserved : goal.loop-at-preserved
loop-at-preserved c =
    let more : c.loop-at.at < length c.args.chunks.now = omega arith in
    let chunk = next_chunk c.args.pages c.args.rows c.args.columns.now c.args.chunks.now c.loop-at.at c.index-columns-at.result (record { place = 0; size = 0; data_page = 0 }) c.loop-at-test.true more c.index-columns-at.is in
    let size = next_size c.args.chunks.now c.loop-at.at (record { place = 0; size = 0; data_page = 0 }) more in
    record {
      whole = one_more c.loop-at.trees.items _ c.in_ok-chunk_tree.field-0 _ _ _ _ c.in_ok-push.ensures.items c.in_ok-chunk_tree.ensures chunk c.loop-at.invariant.whole;
      sizes = omega (arith, size, c.loop-at.invariant.sizes);
    }
