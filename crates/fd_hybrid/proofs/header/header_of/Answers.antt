use Rattle.std.proofs.Common.{arith, refl, sym, ap, ◌∙◌, ◌≡◌, ℕ, ◌*◌, ◌+◌, min, get_or, Ok}
use Rattle.fd_hybrid.proofs.Headers.{none_before, most, zero_found, last_found, more_found, weight_more, end_found, whole_rest, no_rest}
use Rattle.fd_hybrid.proofs.header.header_of.Goals as goal

pub returns-then-is_needless : goal.returns-then-is_needless
returns-then-is_needless c =
    let h = c.is_needless.ensures.0 c.if-is_needless.true in
    zero_found c.loop-k.invariant.so_far.0 c.loop-k.k c.args.bytes.now c.loop-k-test.true h.1 h.0 c.loop-k.invariant.so_far.2

pub returns-then-byte-lt128 : goal.returns-then-byte-lt128
returns-then-byte-lt128 c =
    let b : ℕ = get_or c.args.bytes.now c.loop-k.k 0 in
    let some : b ≡ 0 → c.loop-k.k ≡ 0 = none_before b c.loop-k.k c.is_needless.result c.is_needless.ensures c.if-is_needless.false in
    last_found c.loop-k.invariant.so_far.0 c.loop-k.k c.loop-k.number c.loop-k.weight b c.saturating_mul.result c.saturating_add-number.result c.args.bytes.now
    c.loop-k-test.true refl some c.if-byte-lt128.true c.loop-k.invariant.so_far.1 c.loop-k.invariant.weight
    (c.saturating_mul.ensures ∙ ap (λ d. min (c.loop-k.weight * d) most) c.from.ensures) c.saturating_add-number.ensures c.loop-k.invariant.so_far.2
    ∙ ap (λ rest. Ok (c.saturating_add-number.result, rest)) (sym (whole_rest (c.loop-k.k + 1) c.args.bytes.now))

pub loop-k-preserved : goal.loop-k-preserved
loop-k-preserved c =
    let b : ℕ = get_or c.args.bytes.now c.loop-k.k 0 in
    record {
      weight = weight_more c.loop-k.k c.loop-k.weight c.saturating_mul-weight.result c.loop-k.invariant.weight c.saturating_mul-weight.ensures;
      so_far = more_found c.loop-k.invariant.so_far.0 c.loop-k.k c.loop-k.number c.loop-k.weight b c.saturating_mul.result c.saturating_add-number.result c.args.bytes.now
          c.loop-k-test.true refl c.if-byte-lt128.false (omega (arith, c.type_inv.bytes c.loop-k.k)) c.loop-k.invariant.so_far.1 c.loop-k.invariant.weight
          (c.saturating_mul.ensures ∙ ap (λ d. min (c.loop-k.weight * d) most) c.from.ensures) c.saturating_add-number.ensures c.loop-k.invariant.so_far.2;
    }

pub returns : goal.returns
returns c =
    end_found c.loop-k.invariant.so_far.0 c.loop-k.k c.loop-k.number c.loop-k.weight c.saturating_add.result c.args.bytes.now
    c.loop-k-test.false c.loop-k.invariant.so_far.1 c.loop-k.invariant.weight c.saturating_add.ensures c.loop-k.invariant.so_far.2
    ∙ ap (λ rest. Ok (c.saturating_add.result, rest)) (sym (no_rest c.args.bytes.now))
