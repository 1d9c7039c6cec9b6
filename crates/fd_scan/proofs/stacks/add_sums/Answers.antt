use Rattle.std.proofs.Common.{List, ℕ, subst, sym, append-nil, ◌++◌, take}
use Rattle.fd_kinds.specs.declared.row.Row.{Row}
use Rattle.fd_groups.specs.Groups.{AreSums}
use Rattle.fd_scan.specs.RowPlaces.{rows_at}
use Rattle.fd_scan.proofs.Outcomes.{on_err}
use Rattle.fd_scan.proofs.stacks.add_sums.Goals as goal

pub returns-in_err-known-clause-err : goal.returns-in_err-known-clause-err
returns-in_err-known-clause-err g c =
    on_err c.from_residual.result
    ((k : ℕ)
    × ((rows : List Row) → AreSums c.args.sums.now.slots c.args.sums.now.sums.items c.args.sums.now.total rows
    → AreSums c.args.sums.now.slots c.args.sums.now.sums.items c.args.sums.now.total (rows ++ rows_at (g.C.Columns.rows c.args.columns.now) (take k c.args.places.now))))
    (0, λ rows held. subst (AreSums c.args.sums.now.slots c.args.sums.now.sums.items c.args.sums.now.total) (sym (append-nil rows)) held)

pub returns-in_err-add_sum-clause-err : goal.returns-in_err-add_sum-clause-err
returns-in_err-add_sum-clause-err g c =
    on_err c.from_residual-in_err-add_sum.result
    ((k : ℕ)
    × ((rows : List Row) → AreSums c.args.sums.now.slots c.args.sums.now.sums.items c.args.sums.now.total rows
    → AreSums c.add_sum.new.sums.slots c.add_sum.new.sums.sums.items c.add_sum.new.sums.total (rows ++ rows_at (g.C.Columns.rows c.args.columns.now) (take k c.args.places.now)))) (
      c.loop-at.at-index,
      λ rows held. c.in_err-add_sum.ensures.err (rows ++ rows_at (g.C.Columns.rows c.args.columns.now) (take c.loop-at.at-index c.args.places.now)) (c.loop-at.invariant.held rows held),
    )
