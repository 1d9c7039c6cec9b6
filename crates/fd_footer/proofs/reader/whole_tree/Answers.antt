use Rattle.std.proofs.Common.{sym}
use Rattle.fd_thrift.specs.View.{view}
use Rattle.fd_footer.proofs.Extent.{one_tree, no_tree, err_is}
use Rattle.fd_footer.proofs.reader.whole_tree.Goals as goal

pub returns-then-end-bytes-clause-one : goal.returns-then-end-bytes-clause-one
returns-then-end-bytes-clause-one c =
    λ v spelled. (one_tree c.args.bytes.now (view c.in-Ok.tree) c.in-Ok.end c.in-Ok.ensures.only v spelled).0

pub returns-else-end-bytes-clause-none : goal.returns-else-end-bytes-clause-none
returns-else-end-bytes-clause-none c =
    λ e v spelled. c.if-end-bytes.false (sym (one_tree c.args.bytes.now (view c.in-Ok.tree) c.in-Ok.end c.in-Ok.ensures.only v spelled).1)

pub returns-in-Err-clause-none : goal.returns-in-Err-clause-none
returns-in-Err-clause-none c =
    λ e v spelled. no_tree c.args.bytes.now c.in-Err.fault (c.fault_of.ensures.refused (err_is e)) c.in-Err.ensures.only v spelled
