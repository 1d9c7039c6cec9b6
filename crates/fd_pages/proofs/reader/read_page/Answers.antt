use Rattle.std.proofs.Common.{ℕ, ◌-◌, List, length, drop, sym, subst}
use Rattle.std.proofs.lemmas.List.{take_rest}
use Rattle.std.proofs.lemmas.Result.{err_from_is_err_and}
use Rattle.fd_pages.specs.declared.cell.Cell.{Cell}
use Rattle.fd_pages.specs.declared.cell.Cells.{Cells}
use Rattle.fd_pages.specs.Pages.{BeginsPage}
use Rattle.fd_pages.proofs.Bodies.{place_begins, begins_place, end_is, bad_none, gives_other, read_is}
use Rattle.fd_pages.proofs.reader.read_page.Goals as goal

pub returns-in_err-cells-clause-only : goal.returns-in_err-cells-clause-only
returns-in_err-cells-clause-only c = λ cells end p.
    let bytes = c.args.bytes.now in
    let begins = subst (λ x. BeginsPage c.args.kind c.args.required c.args.count x cells (drop end bytes)) (sym (take_rest bytes c.args.at)) (place_begins c.args.kind c.args.required c.args.count bytes c.args.at cells end p) in
    let q = err_from_is_err_and c.from_residual.result c.from_residual.ensures.1 in
    let read : List Cell × List ℕ = (cells, drop end bytes) in
    let answer : Cells × ℕ = (record { kind = c.args.kind; required = c.args.required; cells = cells }, end) in
    rw (q.1, q.2) (gives_other c.in_err-cells.field-0.0 read answer (c.in_err-cells.ensures.only cells (drop end bytes) begins))

pub returns-in_err-cells-clause-bad : goal.returns-in_err-cells-clause-bad
returns-in_err-cells-clause-bad c = λ bad (cells, end, p).
    let answer : Cells × ℕ = (record { kind = c.args.kind; required = c.args.required; cells = cells }, end) in
    bad_none c.from_residual.result answer bad (returns-in_err-cells-clause-only c cells end p)

pub returns-clause-only : goal.returns-clause-only
returns-clause-only c = λ cells end p.
    let bytes = c.args.bytes.now in
    let begins = subst (λ x. BeginsPage c.args.kind c.args.required c.args.count x cells (drop end bytes)) (sym (take_rest bytes c.args.at)) (place_begins c.args.kind c.args.required c.args.count bytes c.args.at cells end p) in
    let same = read_is c.in_ok-cells.cells cells c.in_ok-cells.rest.now (drop end bytes) (c.in_ok-cells.ensures.only cells (drop end bytes) begins) in
    rw (same.0, end_is bytes c.in_ok-cells.rest.now end p.within same.1)

pub returns-clause-bad_only : goal.returns-clause-bad_only
returns-clause-bad_only c = λ none.
    let bytes = c.args.bytes.now in
    let begins = subst (λ x. BeginsPage c.args.kind c.args.required c.args.count x c.in_ok-cells.cells c.in_ok-cells.rest.now) (take_rest bytes c.args.at) c.in_ok-cells.ensures.found in
    absurd (none (c.in_ok-cells.cells, length bytes - length c.in_ok-cells.rest.now, begins_place c.args.kind c.args.required c.args.count bytes c.args.at c.in_ok-cells.cells c.in_ok-cells.rest.now c.requires begins))
