use Rattle.std.proofs.Common.{length}
use Rattle.fd_thrift.specs.View.{view}
use Rattle.fd_pages.specs.Pages.{page_header, header_bytes}
use Rattle.fd_pages.proofs.HeaderLaws.{pair_is, some_is, none_is}
use Rattle.fd_pages.proofs.header.size_in.Goals as goal

pub returns-in-Some-clause-only : goal.returns-in-Some-clause-only
returns-in-Some-clause-only c = λ count size rest counted small e.
    let p = pair_is (view c.in_ok-tree.tree) (page_header count size) c.in_ok-tree.end (length (header_bytes count size)) (c.in_ok-tree.ensures.only count size rest counted small e) in
    let size-is = some_is c.in-Some.size size (c.in-Some.ensures.value count size p.0) in
    rw (size-is, p.1)

pub returns-clause-only : goal.returns-clause-only
returns-clause-only c = λ count size rest counted small e.
    let p = pair_is (view c.in_ok-tree.tree) (page_header count size) c.in_ok-tree.end (length (header_bytes count size)) (c.in_ok-tree.ensures.only count size rest counted small e) in
    absurd (none_is size (c.in-None.ensures.value count size p.0))
