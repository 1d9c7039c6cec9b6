use Rattle.fd_scan.proofs.TypeCells.{type_made}
use Rattle.fd_scan.proofs.types.type_at.Goals as goal

pub returns : goal.returns
returns g c =
    type_made (g.C.Columns.rows c.args.columns.now) c.args.at
    record {
      name = c.in_ok-text_at.field-0;
      sample_type = c.in_ok-text_at-2.field-0;
      sample_unit = c.in_ok-text_at-3.field-0;
      period_type = c.in_ok-text_at-4.field-0;
      period_unit = c.in_ok-text_at-5.field-0;
      delta = c.is_delta_at.result;
    }
    c.in_ok-text_at.ensures c.in_ok-text_at-2.ensures c.in_ok-text_at-3.ensures c.in_ok-text_at-4.ensures c.in_ok-text_at-5.ensures c.is_delta_at.ensures
