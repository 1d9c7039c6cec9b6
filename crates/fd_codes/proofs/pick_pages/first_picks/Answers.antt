use Rattle.std.proofs.Common.{◌≡◌, ℕ, List, ◌++◌, length, sym, ap, subst, ◌∙◌, arith}
use Rattle.std.proofs.lemmas.Result.{err_from_is_err_and}
use Rattle.fd_pages.specs.declared.cell.Cell.{Cell}
use Rattle.fd_codes.proofs.Outcomes.{gives_other}
use Rattle.fd_codes.specs.declared.page_type.PageType.TheVariants.{Codes}
use Rattle.fd_codes.specs.Headers.{header_text}
use Rattle.fd_codes.specs.Picks.{picked_cells}
use Rattle.fd_codes.specs.Codes.{HasBody}
use Rattle.fd_codes.proofs.HeaderLaws.{pair, page_is, pair_ok}
use Rattle.fd_codes.proofs.CodeLaws.{pick_front, code_parts, header_told, long_enough, body_told}
use Rattle.fd_codes.proofs.pick_pages.first_picks.Goals as goal

pub returns-in_err-counted-clause-only : goal.returns-in_err-counted-clause-only
returns-in_err-counted-clause-only c = λ texts cells rest same b.
    let p = code_parts c.args.required texts c.args.count cells c.args.bytes.now rest b in
    let q = err_from_is_err_and c.from_residual.result c.from_residual.ensures.1 in
    let told : (ℕ × ℕ) × List ℕ = (pair c.args.count (length p.body), p.body ++ rest) in
    let answer : List Cell × List ℕ = (cells, rest) in
    rw (q.1, q.2) (gives_other c.in_err-counted.field-0.0 told answer (c.in_err-counted.ensures.only c.args.count (length p.body) (p.body ++ rest) (omega (arith, p.few)) p.small p.whole))

pub returns-then-counted-count-clause-only : goal.returns-then-counted-count-clause-only
returns-then-counted-count-clause-only c = λ texts cells rest same b.
    let p = code_parts c.args.required texts c.args.count cells c.args.bytes.now rest b in
    let t = header_told p.body c.args.count c.in_ok-counted.counted c.in_ok-counted.length c.in_ok-counted.rest.now rest (c.in_ok-counted.ensures.only c.args.count (length p.body) (p.body ++ rest) (omega (arith, p.few)) p.small p.whole) in
    absurd (omega (arith, t.counted, c.if-counted-count.true))

pub returns-then-rest-length-clause-only : goal.returns-then-rest-length-clause-only
returns-then-rest-length-clause-only c = λ texts cells rest same b.
    let p = code_parts c.args.required texts c.args.count cells c.args.bytes.now rest b in
    let t = header_told p.body c.args.count c.in_ok-counted.counted c.in_ok-counted.length c.in_ok-counted.rest.now rest (c.in_ok-counted.ensures.only c.args.count (length p.body) (p.body ++ rest) (omega (arith, p.few)) p.small p.whole) in
    absurd (omega (arith, c.if-rest-length.true, long_enough p.body c.args.count c.in_ok-counted.counted c.in_ok-counted.length c.in_ok-counted.rest.now rest t))

pub returns-in_err-picks-clause-only : goal.returns-in_err-picks-clause-only
returns-in_err-picks-clause-only c = λ texts cells rest same b.
    let p = code_parts c.args.required texts c.args.count cells c.args.bytes.now rest b in
    let t = header_told p.body c.args.count c.in_ok-counted.counted c.in_ok-counted.length c.in_ok-counted.rest.now rest (c.in_ok-counted.ensures.only c.args.count (length p.body) (p.body ++ rest) (omega (arith, p.few)) p.small p.whole) in
    let s = body_told p.body c.args.count c.in_ok-counted.counted c.in_ok-counted.length c.in_ok-counted.rest.now rest c.split_at.result.0.now c.split_at.result.1.now t c.split_at.ensures.front c.split_at.ensures.back in
    let has = subst (λ (x : List ℕ). HasBody c.args.required texts c.args.count x cells) (sym s.0) p.has in
    let q = err_from_is_err_and c.from_residual-in_err-picks.result c.from_residual-in_err-picks.ensures.1 in
    let answer : List Cell × List ℕ = (cells, rest) in
    rw (q.1, q.2) (gives_other c.in_err-picks.field-0.0 cells answer (c.in_err-picks.ensures.only texts cells same has))

pub returns-clause-found : goal.returns-clause-found
returns-clause-found c =
    let counted : c.in_ok-counted.counted ≡ c.args.count = omega arith in
    pick_front c.args.required c.args.bytes.now c.in_ok-counted.rest.now c.split_at.result.0.now c.split_at.result.1.now c.args.size c.args.count c.in_ok-counted.length c.in_ok-picks.picks (omega arith) (omega arith)
    (c.in_ok-counted.ensures.found ∙ ap (λ (n : ℕ). header_text Codes n c.in_ok-counted.length ++ c.in_ok-counted.rest.now) counted) c.in_ok-counted.ensures.small.1 (omega arith) c.split_at.ensures.front c.split_at.ensures.back c.in_ok-picks.ensures.found

pub returns-clause-only : goal.returns-clause-only
returns-clause-only c = λ texts cells rest same b.
    let p = code_parts c.args.required texts c.args.count cells c.args.bytes.now rest b in
    let t = header_told p.body c.args.count c.in_ok-counted.counted c.in_ok-counted.length c.in_ok-counted.rest.now rest (c.in_ok-counted.ensures.only c.args.count (length p.body) (p.body ++ rest) (omega (arith, p.few)) p.small p.whole) in
    let s = body_told p.body c.args.count c.in_ok-counted.counted c.in_ok-counted.length c.in_ok-counted.rest.now rest c.split_at.result.0.now c.split_at.result.1.now t c.split_at.ensures.front c.split_at.ensures.back in
    let has = subst (λ (x : List ℕ). HasBody c.args.required texts c.args.count x cells) (sym s.0) p.has in
    pair_ok (picked_cells texts c.in_ok-picks.picks) cells c.split_at.result.1.now rest (page_is (picked_cells texts c.in_ok-picks.picks) cells (c.in_ok-picks.ensures.only texts cells same has)) s.1
