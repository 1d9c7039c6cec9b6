use Rattle.std.proofs.Common.{ℕ, List, map, sym, ap, subst, ◌∙◌, arith}
use Rattle.std.proofs.lemmas.Result.{err_from_is_err_and}
use Rattle.fd_hybrid.specs.Refusals.{Spells}
use Rattle.fd_pages.specs.Columns.{level}
use Rattle.fd_codes.proofs.Outcomes.{split_is, levels_same, gives_other, not_ok}
use Rattle.fd_codes.specs.Picks.{picked_cells, present, spread}
use Rattle.fd_codes.specs.Codes.{ArePicks}
use Rattle.fd_codes.proofs.PageLaws.{optional_all, optional_spelled, seen_back}
use Rattle.fd_codes.proofs.pick_pages.optional_picks.Goals as goal

pub returns-in_err-runs-clause-only : goal.returns-in_err-runs-clause-only
returns-in_err-runs-clause-only c = λ texts cells same h.
    let p = optional_spelled texts c.args.size c.args.count cells c.args.body.now same c.requires.short h in
    absurd (not_ok c.in_err-runs.field-0.0 (p.levels, p.bytes) (sym c.in_err-runs.ensures ∙ p.parts))

pub returns-in_err-levels-clause-only : goal.returns-in_err-levels-clause-only
returns-in_err-levels-clause-only c = λ texts cells same h.
    let p = optional_spelled texts c.args.size c.args.count cells c.args.body.now same c.requires.short h in
    let split = split_is c.in_ok-runs.runs.now c.in_ok-runs.bytes.now p.levels p.bytes (sym c.in_ok-runs.ensures ∙ p.parts) in
    let levels = subst (λ rs. Spells 1 c.args.count rs (map level cells)) (sym split.0) p.leveled in
    let q = err_from_is_err_and c.from_residual-in_err-levels.result c.from_residual-in_err-levels.ensures.1 in
    rw (q.1, q.2) (gives_other c.in_err-levels.field-0.0 (map level cells) cells (c.in_err-levels.ensures.only (map level cells) levels))

pub returns-clause-found : goal.returns-clause-found
returns-clause-found c =
    optional_all c.args.size c.args.count c.args.body.now c.in_ok-runs.runs.now c.in_ok-runs.bytes.now c.as_slice.result.now c.leveled_picks.result (λ i. omega (arith, c.type_inv.body i)) c.in_ok-runs.ensures
    (subst (Spells 1 c.args.count c.in_ok-runs.runs.now) (sym c.as_slice.ensures) c.in_ok-levels.ensures.found) c.leveled_picks.ensures.found

pub returns-clause-only : goal.returns-clause-only
returns-clause-only c = λ texts cells same h.
    let p = optional_spelled texts c.args.size c.args.count cells c.args.body.now same c.requires.short h in
    let split = split_is c.in_ok-runs.runs.now c.in_ok-runs.bytes.now p.levels p.bytes (sym c.in_ok-runs.ensures ∙ p.parts) in
    let levels = subst (λ rs. Spells 1 c.args.count rs (map level cells)) (sym split.0) p.leveled in
    let read = c.as_slice.ensures ∙ levels_same c.in_ok-levels.levels (map level cells) (c.in_ok-levels.ensures.only (map level cells) levels) in
    let first = subst (λ (bs : List ℕ). ArePicks c.args.size (present (map level cells)) bs p.there) (sym split.1) p.picks in
    let indexed = subst (λ (ls : List ℕ). ArePicks c.args.size (present ls) c.in_ok-runs.bytes.now p.there) (sym read) first in
    seen_back texts c.leveled_picks.result (spread c.as_slice.result.now p.there) cells (c.leveled_picks.ensures.only p.there indexed) (ap (λ (ls : List ℕ). picked_cells texts (spread ls p.there)) read ∙ p.back)
