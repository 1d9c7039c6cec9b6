use Rattle.std.proofs.Common.{rules, ℕ, ◌<◌, List, length, ◌++◌, take, subst}
use Rattle.std.proofs.lemmas.List.{take_all}
use Rattle.fd_kinds.specs.declared.row.Row.{Row}
use Rattle.fd_groups.specs.Groups.{AreRanges}
use Rattle.fd_scan.specs.RowPlaces.{rows_at}
use Rattle.fd_scan.proofs.Outcomes.{on_err}
use Rattle.fd_scan.proofs.RowLists.{places_more}
use Rattle.fd_scan.proofs.ranges.add_ranges_at.Goals as goal

pub returns-in_err-add_behind-clause-err : goal.returns-in_err-add_behind-clause-err
returns-in_err-add_behind-clause-err g c =
    on_err c.from_residual.result
    ((k : ℕ) × ((rows : List Row) → AreRanges c.args.ranges.now rows → AreRanges c.add_behind.new.ranges (rows ++ rows_at (g.C.Columns.rows c.args.columns.now) (take k c.args.places.now)))) (
      c.loop-at.at-index,
      λ rows before. c.in_err-add_behind.ensures.err (rows ++ rows_at (g.C.Columns.rows c.args.columns.now) (take c.loop-at.at-index c.args.places.now)) (c.loop-at.invariant.1 rows before),
    )

pub loop-at-preserved : goal.loop-at-preserved
loop-at-preserved g c =
    let within : c.loop-at.at-index < length c.args.places.now = search rules in (
      c.in_ok-add_behind.ensures.labelled,
      λ rows before.
          subst (AreRanges c.add_behind.new.ranges) (places_more (g.C.Columns.rows c.args.columns.now) rows c.args.places.now c.loop-at.at-index 0 within)
          (c.in_ok-add_behind.ensures.ok (rows ++ rows_at (g.C.Columns.rows c.args.columns.now) (take c.loop-at.at-index c.args.places.now)) (c.loop-at.invariant.1 rows before)),
    )

pub returns-clause-ok : goal.returns-clause-ok
returns-clause-ok g c = λ rows before.
    subst (λ places. AreRanges c.loop-at.ranges (rows ++ rows_at (g.C.Columns.rows c.args.columns.now) places)) (take_all c.loop-at.at-index c.args.places.now (search rules))
    (c.loop-at.invariant.1 rows before)
