use Rattle.std.proofs.Common.{ap, ◌∙◌}
use Rattle.fd_hybrid.specs.Digits.{digits}
use Rattle.fd_hybrid.proofs.DigitQueue.{starts_at}
use Rattle.fd_hybrid.proofs.DigitLaws.{eight_digits}
use Rattle.fd_hybrid.proofs.groups.group_of.Goals as goal

pub returns : goal.returns
returns c = eight_digits c.args.width _ _ _ _ _ _ _ _ _ _ _ _ _ _ _ _
    c.value_of-a.ensures.value c.value_of-a.ensures.rest c.value_of-b.ensures.value c.value_of-b.ensures.rest
    c.value_of-c.ensures.value c.value_of-c.ensures.rest c.value_of-d.ensures.value c.value_of-d.ensures.rest
    c.value_of-e.ensures.value c.value_of-e.ensures.rest c.value_of-f.ensures.value c.value_of-f.ensures.rest
    c.value_of-g.ensures.value c.value_of-g.ensures.rest c.value_of-h.ensures.value
    ∙ ap (digits c.args.width 8) (starts_at 8 c.args.bytes.now c.new.result.at c.new.result.held c.new.result.count c.new.ensures.at c.new.ensures.held c.new.ensures.count)
