use Rattle.std.proofs.Common.{List, length, Some, sym, ap, ◌∙◌, subst}
use Rattle.std.specs.Prelude.{IfSome, All, IsSorted}
use Rattle.fd_kinds.specs.declared.row.Numbered.{Numbered}
use Rattle.fd_column.specs.RowNumbers.{numbered_cmp}
use Rattle.fd_table_file.specs.Files.{IsWithin}
use Rattle.fd_parquet.specs.Stages.{BuildsRows}
use Rattle.fd_parquet.proofs.RowOrder.{rows_all}
use Rattle.fd_parquet.proofs.rows.part_of.Goals as goal

pub returns-in_default-clause-only : goal.returns-in_default-clause-only
returns-in_default-clause-only c = λ rows counted are. absurd (c.in_ok-rows.ensures.none c.in_default.is rows counted are)

pub finish-requires : goal.finish-requires
finish-requires c =
    let b : BuildsRows c.args.columns.now c.args.cells.now c.args.lo c.args.hi c.args.count c.in-Some.rows = (subst (λ o. IfSome o (BuildsRows c.args.columns.now c.args.cells.now c.args.lo c.args.hi c.args.count)) c.in-Some.is c.in_ok-rows.ensures.found) in
    b.sorted

pub returns-clause-within : goal.returns-clause-within
returns-clause-within c =
    let b : BuildsRows c.args.columns.now c.args.cells.now c.args.lo c.args.hi c.args.count c.in-Some.rows = (subst (λ o. IfSome o (BuildsRows c.args.columns.now c.args.cells.now c.args.lo c.args.hi c.args.count)) c.in-Some.is c.in_ok-rows.ensures.found) in
    subst (λ xs. All (IsWithin c.args.lo c.args.hi) xs) (sym c.in_ok-part.ensures) b.within

pub returns-clause-sorted : goal.returns-clause-sorted
returns-clause-sorted c =
    let b : BuildsRows c.args.columns.now c.args.cells.now c.args.lo c.args.hi c.args.count c.in-Some.rows = (subst (λ o. IfSome o (BuildsRows c.args.columns.now c.args.cells.now c.args.lo c.args.hi c.args.count)) c.in-Some.is c.in_ok-rows.ensures.found) in
    subst (λ xs. IsSorted numbered_cmp xs) (sym c.in_ok-part.ensures) b.sorted

pub returns-clause-counted : goal.returns-clause-counted
returns-clause-counted c =
    let b : BuildsRows c.args.columns.now c.args.cells.now c.args.lo c.args.hi c.args.count c.in-Some.rows = (subst (λ o. IfSome o (BuildsRows c.args.columns.now c.args.cells.now c.args.lo c.args.hi c.args.count)) c.in-Some.is c.in_ok-rows.ensures.found) in
    ap (λ (xs : List Numbered). length xs) c.in_ok-part.ensures ∙ b.counted

pub returns-clause-only : goal.returns-clause-only
returns-clause-only c = λ rows counted are.
    let b : BuildsRows c.args.columns.now c.args.cells.now c.args.lo c.args.hi c.args.count c.in-Some.rows = (subst (λ o. IfSome o (BuildsRows c.args.columns.now c.args.cells.now c.args.lo c.args.hi c.args.count)) c.in-Some.is c.in_ok-rows.ensures.found) in
    ap (λ (xs : List Numbered). Some xs) (c.in_ok-part.ensures ∙ rows_all c.args.columns.now c.args.cells.now c.args.lo c.args.hi c.args.count c.in-Some.rows rows b counted are)
