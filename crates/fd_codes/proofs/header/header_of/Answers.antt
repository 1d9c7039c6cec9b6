use Rattle.std.proofs.Common.{ℕ, length, sym, ap, ◌∙◌}
use Rattle.fd_codes.specs.Headers.{header_text}
use Rattle.fd_codes.proofs.HeaderLaws.{pair, pair_is, front_is, not_unequal}
use Rattle.fd_codes.proofs.header.header_of.Goals as goal

pub returns-then-ne-clause-only : goal.returns-then-ne-clause-only
returns-then-ne-clause-only c = λ count size rest counted small e.
    let p = pair_is c.in_ok-sizes.sizes (pair count size) c.in_ok-sizes.end (length (header_text c.args.kind count size)) (c.in_ok-sizes.ensures.only c.args.kind count size rest counted small e) in
    let first = ap (λ (x : ℕ × ℕ). x.0) p.0 in
    let second = ap (λ (x : ℕ × ℕ). x.1) p.0 in
    let f = front_is c.args.kind c.args.bytes.now c.split_at.result.0.now c.split_at.result.1.now c.in_ok-sizes.end count size c.in_ok-sizes.sizes.1 c.in_ok-sizes.sizes.0 rest e first second p.1 c.split_at.ensures.front c.split_at.ensures.back in
    absurd (not_unequal c.split_at.result.0.now c.as_slice.result.now c.ne.result c.ne.ensures c.if-ne.true (f.0 ∙ sym c.in_ok-expected.ensures ∙ sym c.as_slice.ensures))
