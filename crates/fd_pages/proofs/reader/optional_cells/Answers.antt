use Rattle.std.proofs.Common.{map, subst, sym, ap, ◌∙◌, arith}
use Rattle.std.proofs.lemmas.Result.{err_from_is_err_and}
use Rattle.fd_hybrid.specs.Refusals.{Spells}
use Rattle.fd_pages.specs.Columns.{level, plain_values}
use Rattle.fd_pages.specs.Reader.{cells_at, ended}
use Rattle.fd_pages.proofs.Bodies.{optional_found, optional_sized, optional_levels, optional_again, split_is, levels_same, gives, gives_other, not_ok}
use Rattle.fd_pages.proofs.reader.optional_cells.Goals as goal

pub returns-in_err-runs-clause-only : goal.returns-in_err-runs-clause-only
returns-in_err-runs-clause-only c = λ cells are (runs, spelled, e).
    absurd (not_ok c.in_err-runs.field-0.0 (runs, plain_values cells) (sym c.in_err-runs.ensures ∙ optional_sized runs c.args.body.now cells c.requires e))

pub returns-in_err-levels-clause-only : goal.returns-in_err-levels-clause-only
returns-in_err-levels-clause-only c = λ cells are (runs, spelled, e).
    let split = split_is c.in_ok-runs.runs.now c.in_ok-runs.values.now runs (plain_values cells) (sym c.in_ok-runs.ensures ∙ optional_sized runs c.args.body.now cells c.requires e) in
    let levels = subst (λ rs. Spells 1 c.args.count rs (map level cells)) (sym split.0) (optional_levels c.args.kind c.args.count runs cells are spelled) in
    let p = err_from_is_err_and c.from_residual-in_err-levels.result c.from_residual-in_err-levels.ensures.1 in
    rw (p.1, p.2) (gives_other c.in_err-levels.field-0.0 (map level cells) cells (c.in_err-levels.ensures.only (map level cells) levels))

pub returns-clause-found : goal.returns-clause-found
returns-clause-found c =
    optional_found c.args.kind c.args.count c.args.body.now c.in_ok-runs.runs.now c.in_ok-runs.values.now c.as_slice.result.now c.all_cells.result (λ i. omega (arith, c.type_inv.body i)) c.in_ok-runs.ensures
    (subst (Spells 1 c.args.count c.in_ok-runs.runs.now) (sym c.as_slice.ensures) c.in_ok-levels.ensures.found) c.all_cells.ensures

pub returns-clause-only : goal.returns-clause-only
returns-clause-only c = λ cells are (runs, spelled, e).
    let split = split_is c.in_ok-runs.runs.now c.in_ok-runs.values.now runs (plain_values cells) (sym c.in_ok-runs.ensures ∙ optional_sized runs c.args.body.now cells c.requires e) in
    let levels = subst (λ rs. Spells 1 c.args.count rs (map level cells)) (sym split.0) (optional_levels c.args.kind c.args.count runs cells are spelled) in
    let same = c.as_slice.ensures ∙ levels_same c.in_ok-levels.levels (map level cells) (c.in_ok-levels.ensures.only (map level cells) levels) in
    gives c.all_cells.result (ended (cells_at c.args.kind c.as_slice.result.now c.in_ok-runs.values.now)) cells c.all_cells.ensures
    (ap (λ ls. ended (cells_at c.args.kind ls c.in_ok-runs.values.now)) same ∙ ap (λ vs. ended (cells_at c.args.kind (map level cells) vs)) split.1 ∙ optional_again c.args.kind c.args.count cells are)
