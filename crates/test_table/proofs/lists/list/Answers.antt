use Rattle.test_table.proofs.PinnedParts.{marked, whole}
use Rattle.test_table.proofs.lists.list.Goals as goal

pub parts_upto-picked-requires-clause-marked : goal.parts_upto-picked-requires-clause-marked
parts_upto-picked-requires-clause-marked c lives = marked c.in-Taken.shelf c.args.seat.now.inner.me.0 c.args.w c.in-Taken.ensures.tried.1 c.requires.loaded

pub parts_upto-picked-requires-clause-whole : goal.parts_upto-picked-requires-clause-whole
parts_upto-picked-requires-clause-whole c lives = whole c.in-Taken.shelf c.args.seat.now.inner.me.0 c.args.w c.in-Taken.ensures.tried.1 c.requires.pinned c.is_in_order.ensures.book
