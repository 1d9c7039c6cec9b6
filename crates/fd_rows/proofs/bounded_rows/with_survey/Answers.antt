use Rattle.std.proofs.Common.{◌<◌, arith}
use Rattle.fd_rows.specs.declared.limits.TheConstants.{MOST_BODY_ROW_BYTES}
use Rattle.fd_rows.specs.Rows.{profile_rows}
use Rattle.fd_rows.proofs.RowSteps.{more_large}
use Rattle.fd_rows.proofs.bounded_rows.with_survey.Goals as goal

pub returns-then-bytes-gt-MOST_BODY_ROW_BYTES : goal.returns-then-bytes-gt-MOST_BODY_ROW_BYTES
returns-then-bytes-gt-MOST_BODY_ROW_BYTES c =
    let above : MOST_BODY_ROW_BYTES < c.in_ok-bytes.bytes = omega arith in
    more_large c.args.rows.rows (profile_rows c.args.of.now.series c.args.survey.now) c.args.rows.bytes c.in_ok-bytes.bytes c.args.rows.counted c.in_ok-bytes.ensures above
