use Rattle.std.proofs.Common.{ap, sym, ◌∙◌, ◌≡◌, ◌<◌, ◌≤◌, length, get_or, arith, Some}
use Rattle.fd_select.specs.Machine.{step}
use Rattle.fd_select.proofs.Places.{read_more, read_whole}
use Rattle.fd_select.proofs.braces.read_braces.Goals as goal

pub loop-i-preserved : goal.loop-i-preserved
loop-i-preserved c =
    let same = c.as_bytes-byte-items.ensures.value in
    let here : c.loop-i.i < length c.args.text.now = omega (arith, c.as_bytes-byte-items.ensures.len) in
    let e : step c.loop-i.reader (get_or c.args.text.now c.loop-i.i 0) ≡ Some c.in-Some.next = ap (λ t. step c.loop-i.reader (get_or t c.loop-i.i 0)) (sym same) ∙ sym c.in-Ok.ensures ∙ c.in-Some.is in
    read_more c.args.text.now c.loop-i.i c.loop-i.reader c.in-Some.next c.loop-i.invariant here e

pub returns-in-Some-finish : goal.returns-in-Some-finish
returns-in-Some-finish c =
    let past : length c.args.text.now ≤ c.loop-i.i = omega (arith, c.as_bytes-byte-items.ensures.len) in
    read_whole c.args.text.now c.loop-i.i c.loop-i.reader c.in-Some-finish.matchers c.loop-i.invariant past c.in-Some-finish.ensures
