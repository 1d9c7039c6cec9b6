use Rattle.std.proofs.Common.{◌≡◌, ◌<◌, ◌≤◌, ◌-◌, length, min, sym, ap, ◌∙◌, subst, arith}
use Rattle.std.proofs.lemmas.Result.{err_from_is_err_and}
use Rattle.fd_parquet.proofs.PageReads.{ReadsPages, pages_more, pages_refused, pages_all, pages_one}
use Rattle.fd_parquet.proofs.pages.chunk_in.Goals as goal

pub returns-in_err-more-clause-only : goal.returns-in_err-more-clause-only
returns-in_err-more-clause-only c = λ cells rest b.
    let q = err_from_is_err_and c.from_residual.result c.from_residual.ensures.1 in
    let some : length c.loop-alloc.cells < c.args.count = omega (arith, c.loop-alloc-test.true, c.len.ensures) in
    let size : c.min-size.result ≡ min (c.args.count - length c.loop-alloc.cells) 1000 = c.min-size.ensures ∙ ap (λ n. min (c.args.count - n) 1000) c.len-in-loop-alloc.ensures in
    rw (q.1, q.2)
    (pages_refused c.args.kind c.args.required c.args.count c.min-size.result c.args.bytes.now c.loop-alloc.cells c.loop-alloc.rest.now c.in_err-more.field-0.0 some size c.loop-alloc.invariant
    c.in_err-more.ensures.only cells rest b)

pub loop-alloc-preserved : goal.loop-alloc-preserved
loop-alloc-preserved c =
    let some : length c.loop-alloc.cells < c.args.count = omega (arith, c.loop-alloc-test.true, c.len.ensures) in
    let size : c.min-size.result ≡ min (c.args.count - length c.loop-alloc.cells) 1000 = c.min-size.ensures ∙ ap (λ n. min (c.args.count - n) 1000) c.len-in-loop-alloc.ensures in
    subst (λ xs. ReadsPages c.args.kind c.args.required c.args.count c.args.bytes.now xs c.in_ok-more.behind.now) (sym c.in_ok-cells.ensures)
    (pages_more c.args.kind c.args.required c.args.count c.min-size.result c.args.bytes.now c.loop-alloc.cells c.loop-alloc.rest.now c.in_ok-more.more c.in_ok-more.behind.now
    some size c.loop-alloc.invariant c.in_ok-more.ensures.found c.in_ok-more.ensures.only)

pub returns-clause-found : goal.returns-clause-found
returns-clause-found c =
    let done : c.args.count ≤ length c.loop-alloc.cells = omega (arith, c.loop-alloc-test.false, c.len.ensures) in
    pages_all c.args.kind c.args.required c.args.count c.args.bytes.now c.loop-alloc.cells c.loop-alloc.rest.now done c.loop-alloc.invariant

pub returns-clause-only : goal.returns-clause-only
returns-clause-only c =
    let done : c.args.count ≤ length c.loop-alloc.cells = omega (arith, c.loop-alloc-test.false, c.len.ensures) in
    pages_one c.args.kind c.args.required c.args.count c.args.bytes.now c.loop-alloc.cells c.loop-alloc.rest.now done c.loop-alloc.invariant
