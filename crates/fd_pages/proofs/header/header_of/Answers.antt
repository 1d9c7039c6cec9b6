use Rattle.std.proofs.Common.{length, sym, ◌∙◌}
use Rattle.fd_pages.specs.Pages.{header_bytes}
use Rattle.fd_pages.proofs.HeaderLaws.{pair_is, front_is, not_unequal}
use Rattle.fd_pages.proofs.header.header_of.Goals as goal

pub returns-then-ne-clause-only : goal.returns-then-ne-clause-only
returns-then-ne-clause-only c = λ size rest small e.
    let p = pair_is c.in_ok-size.size size c.in_ok-size.end (length (header_bytes c.args.count size)) (c.in_ok-size.ensures.only c.args.count size rest c.requires small e) in
    let f = front_is c.args.bytes.now c.split_at.result.0.now c.split_at.result.1.now c.in_ok-size.end size c.args.count c.in_ok-size.size rest e p.0 p.1 c.split_at.ensures.front c.split_at.ensures.back in
    absurd (not_unequal c.split_at.result.0.now c.as_slice.result.now c.ne.result c.ne.ensures c.if-ne.true (f.0 ∙ sym c.in_ok-expected.ensures ∙ sym c.as_slice.ensures))
