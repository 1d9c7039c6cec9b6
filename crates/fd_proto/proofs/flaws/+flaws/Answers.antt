use Rattle.std.proofs.Common.{refl}
use Rattle.fd_proto.proofs.flaws.+flaws.Goals as goal

pub flaw_in-returns-in-Numbers-Span : goal.flaw_in-returns-in-Numbers-Span
flaw_in-returns-in-Numbers-Span t c =
    let e = c.held_in.ensures.flaw c.args.bytes.now c.args.field.value in
    rw (e, c.in-Numbers-Span.is-0, c.in-Numbers-Span.is-1) c.packed.ensures

pub flaw_in-returns-in-Part-Span : goal.flaw_in-returns-in-Part-Span
flaw_in-returns-in-Part-Span t c =
    let e = c.held_in.ensures.flaw c.args.bytes.now c.args.field.value in
    rw (e, c.in-Part-Span.is-0, c.in-Part-Span.is-1) c.flaw.ensures

pub flaw_in-returns-in_default-3 : goal.flaw_in-returns-in_default-3
flaw_in-returns-in_default-3 t c =
    let e = c.held_in.ensures.flaw c.args.bytes.now c.args.field.value in
    rw (e, c.in_default.is-0) refl
