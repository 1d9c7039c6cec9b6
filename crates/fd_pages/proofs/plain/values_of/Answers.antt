use Rattle.std.proofs.Common.{◌≡◌, ◌++◌, ◌∷◌, [], ◌+◌, ◌-◌, replicate}
use Rattle.std.proofs.lemmas.Result.{err_from_is_err_and}
use Rattle.fd_pages.specs.Reader.{cells_at}
use Rattle.fd_pages.proofs.Loop.{goes_on, ends, is_done, next_one, no_one}
use Rattle.fd_pages.proofs.plain.values_of.Goals as goal

pub returns-in_err-cell : goal.returns-in_err-cell
returns-in_err-cell c =
    let p = err_from_is_err_and c.from_residual.result c.from_residual.ensures.1 in
    let count = c.args.count in
    let i = c.loop.counter in
    let total = cells_at c.args.kind (replicate count 1) c.args.bytes.now in
    rw (p.1, p.2) (ends c.in_err-cell.field-0.0 c.args.kind c.loop.cells 1 (replicate (count - (i + 1)) 1) c.loop.rest.now total c.in_err-cell.ensures
    (next_one c.args.kind c.loop.cells count i c.loop.rest.now total c.loop-test.true c.loop.invariant))

pub loop-preserved : goal.loop-preserved
loop-preserved c =
    let count = c.args.count in
    let i = c.loop.counter in
    let total = cells_at c.args.kind (replicate count 1) c.args.bytes.now in
    let cell = c.in_ok-cell.cell in
    let e : c.push.new.self ≡ c.loop.cells ++ cell ∷ [] = c.in_ok-push.ensures.ok in
    rw e (goes_on c.args.kind c.loop.cells 1 (replicate (count - (i + 1)) 1) c.loop.rest.now cell c.in_ok-cell.behind.now total c.in_ok-cell.ensures
    (next_one c.args.kind c.loop.cells count i c.loop.rest.now total c.loop-test.true c.loop.invariant))

pub returns : goal.returns
returns c =
    let total = cells_at c.args.kind (replicate c.args.count 1) c.args.bytes.now in
    is_done c.args.kind c.loop.cells c.loop.rest.now total
    (no_one c.args.kind c.loop.cells c.args.count c.loop.counter c.loop.rest.now total c.loop-test.false c.loop.invariant)
