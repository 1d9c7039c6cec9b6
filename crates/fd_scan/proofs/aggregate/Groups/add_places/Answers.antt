use Rattle.std.proofs.Common.{subst, ◌++◌, take}
use Rattle.std.proofs.lemmas.Result.{on_ok_weaker, on_err_weaker}
use Rattle.fd_scan.specs.Aggregates.{AreGroups}
use Rattle.fd_scan.specs.RowPlaces.{rows_at}
use Rattle.fd_scan.proofs.AggregateSteps.{names_step, names_kept, ranges_step, sums_step, values_step}
use Rattle.fd_scan.proofs.aggregate.Groups.add_places.Goals as goal

pub returns-in-Merge-clause-ok : goal.returns-in-Merge-clause-ok
returns-in-Merge-clause-ok g c =
    on_ok_weaker c.add_sums.result
    (λ step query rows held. sums_step (λ l. l ++ rows_at (g.C.Columns.rows c.args.columns.now) c.args.places.now) c.in-Merge.sums c.add_sums.new.sums step query rows (subst (AreGroups query rows) c.in-Merge.is held))
    c.add_sums.ensures.ok

pub returns-in-Merge-clause-err : goal.returns-in-Merge-clause-err
returns-in-Merge-clause-err g c =
    on_err_weaker c.add_sums.result
    (λ (k, step). (k, λ query rows held. sums_step (λ l. l ++ rows_at (g.C.Columns.rows c.args.columns.now) (take k c.args.places.now)) c.in-Merge.sums c.add_sums.new.sums step query rows (subst (AreGroups query rows) c.in-Merge.is held)))
    c.add_sums.ensures.err

pub returns-in-Values-clause-ok : goal.returns-in-Values-clause-ok
returns-in-Values-clause-ok g c =
    on_ok_weaker c.add_places.result
    (λ step query rows held. values_step (λ l. l ++ rows_at (g.C.Columns.rows c.args.columns.now) c.args.places.now) c.in-Values.values c.add_places.new.self c.add_places.ensures.name step query rows (subst (AreGroups query rows) c.in-Values.is held))
    c.add_places.ensures.ok

pub returns-in-Values-clause-err : goal.returns-in-Values-clause-err
returns-in-Values-clause-err g c =
    on_err_weaker c.add_places.result
    (λ (k, step). (k, λ query rows held. values_step (λ l. l ++ rows_at (g.C.Columns.rows c.args.columns.now) (take k c.args.places.now)) c.in-Values.values c.add_places.new.self c.add_places.ensures.name step query rows (subst (AreGroups query rows) c.in-Values.is held)))
    c.add_places.ensures.err

pub returns-in-Names-clause-ok : goal.returns-in-Names-clause-ok
returns-in-Names-clause-ok g c =
    on_ok_weaker c.add_names_of.result
    (λ step query rows held. names_step (λ l. l ++ rows_at (g.C.Columns.rows c.args.columns.now) c.args.places.now) c.in-Names.names c.add_names_of.new.names step query rows (subst (AreGroups query rows) c.in-Names.is held))
    c.add_names_of.ensures.ok

pub returns-in-Names-clause-err : goal.returns-in-Names-clause-err
returns-in-Names-clause-err g c =
    on_err_weaker c.add_names_of.result
    (λ same. (0, λ query rows held. names_kept c.in-Names.names c.add_names_of.new.names same query rows (subst (AreGroups query rows) c.in-Names.is held)))
    c.add_names_of.ensures.err

pub returns-in-Range-clause-ok : goal.returns-in-Range-clause-ok
returns-in-Range-clause-ok g c =
    on_ok_weaker c.add_ranges_at.result
    (λ step query rows held. ranges_step (λ l. l ++ rows_at (g.C.Columns.rows c.args.columns.now) c.args.places.now) c.in-Range.ranges c.add_ranges_at.new.ranges step query rows (subst (AreGroups query rows) c.in-Range.is held))
    c.add_ranges_at.ensures.ok

pub returns-in-Range-clause-err : goal.returns-in-Range-clause-err
returns-in-Range-clause-err g c =
    on_err_weaker c.add_ranges_at.result
    (λ (k, step). (k, λ query rows held. ranges_step (λ l. l ++ rows_at (g.C.Columns.rows c.args.columns.now) (take k c.args.places.now)) c.in-Range.ranges c.add_ranges_at.new.ranges step query rows (subst (AreGroups query rows) c.in-Range.is held)))
    c.add_ranges_at.ensures.err
