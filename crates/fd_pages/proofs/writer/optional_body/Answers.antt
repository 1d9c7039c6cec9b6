use Rattle.std.proofs.Common.{◌^◌, ◌++◌, length, refl, arith, ap}
use Rattle.fd_pages.specs.Columns.{sized, plain_values}
use Rattle.fd_pages.proofs.ValueLaws.{parts_within}
use Rattle.fd_pages.proofs.writer.optional_body.Goals as goal

pub put_sized-requires : goal.put_sized-requires
put_sized-requires c =
    let within = parts_within c.in_ok-runs.runs (plain_values c.args.cells.now) (2 ^ 31) (c.requires (sized c.in_ok-runs.runs ++ plain_values c.args.cells.now) (c.in_ok-runs.runs, c.in_ok-runs.ensures, refl)) in
    omega (arith, ap length c.as_slice.ensures, within.0)

pub put_values-requires : goal.put_values-requires
put_values-requires c =
    let within = parts_within c.in_ok-runs.runs (plain_values c.args.cells.now) (2 ^ 31) (c.requires (sized c.in_ok-runs.runs ++ plain_values c.args.cells.now) (c.in_ok-runs.runs, c.in_ok-runs.ensures, refl)) in
    omega (arith, within.1)
