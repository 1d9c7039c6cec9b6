use Rattle.std.proofs.Common.{subst}
use Rattle.fd_shelf.specs.Replacement.{HandsBack}
use Rattle.fd_compact.proofs.compactor.put.Goals as goal

pub unreachable-requires-in-Err-Changed : goal.unreachable-requires-in-Err-Changed
unreachable-requires-in-Err-Changed c =
    let cause = subst (λ why. HandsBack c.args.shelf.now.book c.active-active.result c.args.run.lo c.args.run.hi c.args.run.part why) c.in-Err-Changed.field-0-is c.in-Err-Changed.ensures.cause in
    c.requires.free c.in-Err-Changed.field-0-0 cause.1.here
