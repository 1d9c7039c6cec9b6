use Rattle.std.proofs.Common.{arith, ◌≡◌, ◌≤◌, ap, length, subst}
use Rattle.fd_shelf.specs.Steps.{loose_upto}
use Rattle.fd_kinds.specs.declared.limits.TheConstants.{MOST_LOOSE_PARTS}
use Rattle.fd_compact.specs.Compactions.{Compacts, loose_parts}
use Rattle.fd_compact.proofs.LooseParts.{fewer_left}
use Rattle.fd_compact.proofs.compactor.compact_full.Goals as goal

pub returns-clause-compacts : goal.returns-clause-compacts
returns-clause-compacts c =
    let old = c.args.shelf.now in
    let upto : old.mark ≤ c.mark-limit.result = omega (arith, c.mark-limit.ensures) in
    let same : loose_upto old.book c.mark-limit.result ≡ loose_parts old = c.level0_laws.ensures.all upto in
    (omega (arith, c.loose.ensures, c.if-loose-lt-MOST_LOOSE_PARTS.false), subst (λ parts. Compacts parts old c.in_ok-done.done c.compact_shelf.new.shelf) same c.in_ok-done.ensures.compacts)

pub returns-clause-fewer : goal.returns-clause-fewer
returns-clause-fewer c =
    let old = c.args.shelf.now in
    let parts = loose_upto old.book c.mark-limit.result in
    let upto : old.mark ≤ c.mark-limit.result = omega (arith, c.mark-limit.ensures) in
    let same : length parts ≡ length (loose_parts old) = ap length (c.level0_laws.ensures.all upto) in
    let many : MOST_LOOSE_PARTS ≤ length parts = omega (arith, same, c.loose.ensures, c.if-loose-lt-MOST_LOOSE_PARTS.false) in
    fewer_left parts old c.in_ok-done.done c.compact_shelf.new.shelf many (c.level0_laws.ensures.none_left upto) c.in_ok-done.ensures.compacts
