use Rattle.fd_rows.proofs.LabelSteps.{seen_more}
use Rattle.fd_rows.proofs.checks.label_fault.Goals as goal

pub returns-then-branch-clause-seen : goal.returns-then-branch-clause-seen
returns-then-branch-clause-seen c =
    λ none earlier before. seen_more c.args.seen.now c.insert.new.self earlier c.args.pair.now c.in_ok-share.field-0 c.in_ok-share.ensures before c.in_ok-insert.ensures.updates.0
