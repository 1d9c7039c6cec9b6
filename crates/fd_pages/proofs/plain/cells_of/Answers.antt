use Rattle.std.proofs.Common.{◌≡◌, ◌++◌, ◌∷◌, [], ◌+◌, drop, get_or}
use Rattle.std.proofs.lemmas.Result.{err_from_is_err_and}
use Rattle.fd_pages.specs.Reader.{cells_at}
use Rattle.fd_pages.proofs.Loop.{goes_on, ends, is_done, next_level, no_level}
use Rattle.fd_pages.proofs.plain.cells_of.Goals as goal

pub returns-in_err-cell : goal.returns-in_err-cell
returns-in_err-cell c =
    let p = err_from_is_err_and c.from_residual.result c.from_residual.ensures.1 in
    let levels = c.args.levels.now in
    let i = c.loop-level.level-index in
    let total = cells_at c.args.kind levels c.args.bytes.now in
    rw (p.1, p.2) (ends c.in_err-cell.field-0.0 c.args.kind c.loop-level.cells (get_or levels i 0) (drop (i + 1) levels) c.loop-level.rest.now total c.in_err-cell.ensures
    (next_level c.args.kind c.loop-level.cells levels i c.loop-level.rest.now total c.loop-level-test.true c.loop-level.invariant))

pub loop-level-preserved : goal.loop-level-preserved
loop-level-preserved c =
    let levels = c.args.levels.now in
    let i = c.loop-level.level-index in
    let total = cells_at c.args.kind levels c.args.bytes.now in
    let cell = c.in_ok-cell.cell in
    let e : c.push.new.self ≡ c.loop-level.cells ++ cell ∷ [] = c.in_ok-push.ensures.ok in
    rw e (goes_on c.args.kind c.loop-level.cells (get_or levels i 0) (drop (i + 1) levels) c.loop-level.rest.now cell c.in_ok-cell.behind.now total c.in_ok-cell.ensures
    (next_level c.args.kind c.loop-level.cells levels i c.loop-level.rest.now total c.loop-level-test.true c.loop-level.invariant))

pub returns : goal.returns
returns c =
    let total = cells_at c.args.kind c.args.levels.now c.args.bytes.now in
    is_done c.args.kind c.loop-level.cells c.loop-level.rest.now total
    (no_level c.args.kind c.loop-level.cells c.args.levels.now c.loop-level.level-index c.loop-level.rest.now total c.loop-level-test.false c.loop-level.invariant)
