use Rattle.std.proofs.Common.{rules, ◌≡◌, map, refl, Some}
use Rattle.std.proofs.lemmas.Result.{on_ok_weaker, on_err_weaker}
use Rattle.fd_kinds.specs.Meaning.{type_of, type_cmp}
use Rattle.fd_scan.specs.RowPlaces.{row_at}
use Rattle.fd_scan.proofs.DistinctItemLaws.{distinct_last, rows_more, type_cmp_total}
use Rattle.fd_scan.proofs.types.add_type_at.Goals as goal

pub returns-then-is_last_at-clause-ok : goal.returns-then-is_last_at-clause-ok
returns-then-is_last_at-clause-ok g c =
    let is : c.args.types.now.last ≡ Some (type_of (row_at (g.C.Columns.rows c.args.columns.now) c.args.at)) = search rules in
    λ rows before. rows_more {R = type_cmp} type_of c.args.types.now.found.keys c.args.types.now.last rows (row_at (g.C.Columns.rows c.args.columns.now) c.args.at) (type_of (row_at (g.C.Columns.rows c.args.columns.now) c.args.at)) refl
    (distinct_last type_cmp_total c.args.types.now.found.keys c.args.types.now.last (type_of (row_at (g.C.Columns.rows c.args.columns.now) c.args.at)) (map type_of rows) is before)

pub returns-clause-ok : goal.returns-clause-ok
returns-clause-ok g c =
    let is : c.in_ok-type_at.field-0 ≡ type_of (row_at (g.C.Columns.rows c.args.columns.now) c.args.at) = search rules in
    on_ok_weaker c.add.result
    (λ step rows before. rows_more {R = type_cmp} type_of c.add.new.self.found.keys c.add.new.self.last rows (row_at (g.C.Columns.rows c.args.columns.now) c.args.at) c.in_ok-type_at.field-0 is (step (map type_of rows) before))
    c.add.ensures.ok

pub returns-clause-err : goal.returns-clause-err
returns-clause-err g c = on_err_weaker c.add.result (λ keeps rows before. keeps (map type_of rows) before) c.add.ensures.err
