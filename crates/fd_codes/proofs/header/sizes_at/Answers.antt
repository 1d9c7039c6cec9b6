use Rattle.std.proofs.Common.{length}
use Rattle.fd_thrift.specs.View.{view}
use Rattle.fd_codes.specs.Headers.{header_value, header_text}
use Rattle.fd_codes.proofs.HeaderLaws.{pair, pair_is, some_is, none_is}
use Rattle.fd_codes.proofs.header.sizes_at.Goals as goal

pub returns-in-Some-clause-only : goal.returns-in-Some-clause-only
returns-in-Some-clause-only c = λ kind count size rest counted small e.
    let p = pair_is (view c.in_ok-tree.tree) (header_value kind count size) c.in_ok-tree.end (length (header_text kind count size)) (c.in_ok-tree.ensures.only kind count size rest counted small e) in
    let sizes-is = some_is c.in-Some.sizes (pair count size) (c.in-Some.ensures.value kind count size p.0) in
    rw (sizes-is, p.1)

pub returns-clause-only : goal.returns-clause-only
returns-clause-only c = λ kind count size rest counted small e.
    let p = pair_is (view c.in_ok-tree.tree) (header_value kind count size) c.in_ok-tree.end (length (header_text kind count size)) (c.in_ok-tree.ensures.only kind count size rest counted small e) in
    absurd (none_is (pair count size) (c.in-None.ensures.value kind count size p.0))
