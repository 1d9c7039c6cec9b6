use Rattle.std.proofs.Common.{ℕ, ◌-◌, List, length, drop, refl, sym, subst}
use Rattle.std.proofs.lemmas.List.{take_rest}
use Rattle.std.proofs.lemmas.Result.{err_from_is_err_and}
use Rattle.fd_pages.specs.declared.cell.Cell.{Cell}
use Rattle.fd_codes.proofs.Outcomes.{gives_other}
use Rattle.fd_codes.specs.Picks.{picked_cells}
use Rattle.fd_codes.specs.Places.{Fronts, IsCodePageOf, IsPickPage}
use Rattle.fd_codes.proofs.BadPages.{not_bad}
use Rattle.fd_codes.proofs.HeaderLaws.{pair_is, pair_ok}
use Rattle.fd_codes.proofs.Places.{place_fronts, fronts_place, end_is}
use Rattle.fd_codes.proofs.CellPicks.{stands_cells}
use Rattle.fd_codes.proofs.pick_pages.read_picks.Goals as goal

pub returns-in_err-picks-clause-only : goal.returns-in_err-picks-clause-only
returns-in_err-picks-clause-only c = λ texts cells end same p.
    let bytes = c.args.bytes.now in
    let IsSuch = IsCodePageOf c.args.required texts c.args.count cells in
    let fronts = subst (λ x. Fronts IsSuch x (drop end bytes)) (sym (take_rest bytes c.args.at)) (place_fronts IsSuch bytes c.args.at end p) in
    let q = err_from_is_err_and c.from_residual.result c.from_residual.ensures.1 in
    let read : List Cell × List ℕ = (cells, drop end bytes) in
    let answer : List Cell × ℕ = (cells, end) in
    rw (q.1, q.2) (gives_other c.in_err-picks.field-0.0 read answer (c.in_err-picks.ensures.only texts cells (drop end bytes) same fronts))

pub returns-in_err-picks-clause-bad : goal.returns-in_err-picks-clause-bad
returns-in_err-picks-clause-bad c = λ texts same bad (cells, end, p).
    let bytes = c.args.bytes.now in
    let IsSuch = IsCodePageOf c.args.required texts c.args.count cells in
    let fronts = subst (λ x. Fronts IsSuch x (drop end bytes)) (sym (take_rest bytes c.args.at)) (place_fronts IsSuch bytes c.args.at end p) in
    let q = err_from_is_err_and c.from_residual.result c.from_residual.ensures.1 in
    let read : List Cell × List ℕ = (cells, drop end bytes) in
    not_bad c.from_residual.result q.0 c.in_err-picks.field-0.0 read q.1 q.2 bad (c.in_err-picks.ensures.only texts cells (drop end bytes) same fronts)

pub returns-clause-only : goal.returns-clause-only
returns-clause-only c = λ texts cells end same p.
    let bytes = c.args.bytes.now in
    let IsSuch = IsCodePageOf c.args.required texts c.args.count cells in
    let fronts = subst (λ x. Fronts IsSuch x (drop end bytes)) (sym (take_rest bytes c.args.at)) (place_fronts IsSuch bytes c.args.at end p) in
    let alike = pair_is (picked_cells texts c.in_ok-picks.picks) cells c.in_ok-picks.rest.now (drop end bytes) (c.in_ok-picks.ensures.only texts cells (drop end bytes) same fronts) in
    pair_ok (picked_cells texts c.in_ok-picks.picks) cells (length bytes - length c.in_ok-picks.rest.now) end alike.0 (end_is bytes c.in_ok-picks.rest.now end p.within alike.1)

pub returns-clause-found : goal.returns-clause-found
returns-clause-found c =
    let bytes = c.args.bytes.now in
    let IsSuch = IsPickPage c.args.required c.args.size c.args.count c.in_ok-picks.picks in
    let fronts = subst (λ x. Fronts IsSuch x c.in_ok-picks.rest.now) (take_rest bytes c.args.at) c.in_ok-picks.ensures.found in
    fronts_place IsSuch bytes c.args.at c.in_ok-picks.rest.now c.requires.within fronts

pub returns-clause-bad_only : goal.returns-clause-bad_only
returns-clause-bad_only c = λ texts same none.
    let bytes = c.args.bytes.now in
    let fronts = subst (λ x. Fronts (IsPickPage c.args.required c.args.size c.args.count c.in_ok-picks.picks) x c.in_ok-picks.rest.now) (take_rest bytes c.args.at) c.in_ok-picks.ensures.found in
    let stands = fronts_place (IsPickPage c.args.required c.args.size c.args.count c.in_ok-picks.picks) bytes c.args.at c.in_ok-picks.rest.now c.requires.within fronts in
    let end = length bytes - length c.in_ok-picks.rest.now in
    absurd (none (picked_cells texts c.in_ok-picks.picks, end, stands_cells c.args.required texts c.args.size c.args.count c.in_ok-picks.picks bytes c.args.at end (picked_cells texts c.in_ok-picks.picks) same stands refl))
