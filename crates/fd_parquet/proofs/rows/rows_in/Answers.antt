use Rattle.std.proofs.Common.{◌≡◌, ◌<◌, ◌≤◌, ◌++◌, ◌∷◌, [], List, pos, length, subst, arith}
use Rattle.std.specs.Prelude.{IfSome}
use Rattle.fd_kinds.specs.declared.row.Numbered.{Numbered}
use Rattle.fd_column.specs.Stacks.{AreShort}
use Rattle.fd_table_file.specs.Files.{IsWithin}
use Rattle.fd_parquet.specs.Rows.{cell_in, cell_number, row_in, MayFollow}
use Rattle.std.specs.Prelude.{slice_get}
use Rattle.std.proofs.Common.{◌-◌}
use Rattle.fd_parquet.proofs.RowOrder.{rows_more, no_number, no_order}
use Rattle.fd_parquet.proofs.rows.rows_in.Goals as goal

pub returns-in_default-clause-none : goal.returns-in_default-clause-none
returns-in_default-clause-none c = λ _ rows counted are.
    let lt : c.loop-at.at < length rows = omega (arith, counted, c.loop-at-test.true) in
    no_number c.args.columns.now c.args.cells.now c.args.lo c.args.hi c.loop-at.at rows lt are (c.in_ok-next.ensures.none c.in_default.is)

pub returns-in_default-2-clause-none : goal.returns-in_default-2-clause-none
returns-in_default-2-clause-none c = λ _ rows counted are.
    let lt : c.loop-at.at < length rows = omega (arith, counted, c.loop-at-test.true) in
    let number : cell_number (cell_in c.args.cells.now 0 c.loop-at.at) ≡ pos c.in-Some.next.number =
    subst (λ o. IfSome o (λ (n : Numbered). cell_number (cell_in c.args.cells.now 0 c.loop-at.at) ≡ pos n.number)) c.in-Some.is c.in_ok-next.ensures.number in
    let row : c.in-Some.next.row ≡ row_in c.args.columns.now c.args.cells.now c.loop-at.at =
    subst (λ o. IfSome o (λ (n : Numbered). n.row ≡ row_in c.args.columns.now c.args.cells.now c.loop-at.at)) c.in-Some.is c.in_ok-next.ensures.row in
    no_order c.args.columns.now c.args.cells.now c.args.lo c.args.hi c.loop-at.at c.loop-at.rows c.in-Some.next rows c.loop-at.invariant c.requires.texts lt are number row (c.in_ok-more.ensures.none c.in_default-2.is)

pub loop-at-preserved : goal.loop-at-preserved
loop-at-preserved c =
    let number : cell_number (cell_in c.args.cells.now 0 c.loop-at.at) ≡ pos c.in-Some.next.number =
    subst (λ o. IfSome o (λ (n : Numbered). cell_number (cell_in c.args.cells.now 0 c.loop-at.at) ≡ pos n.number)) c.in-Some.is c.in_ok-next.ensures.number in
    let row : c.in-Some.next.row ≡ row_in c.args.columns.now c.args.cells.now c.loop-at.at =
    subst (λ o. IfSome o (λ (n : Numbered). n.row ≡ row_in c.args.columns.now c.args.cells.now c.loop-at.at)) c.in-Some.is c.in_ok-next.ensures.row in
    let within : IsWithin c.args.lo c.args.hi c.in-Some.next = subst (λ o. IfSome o (IsWithin c.args.lo c.args.hi)) c.in-Some.is c.in_ok-next.ensures.within in
    let follows : MayFollow (slice_get c.loop-at.rows (length c.loop-at.rows - 1)) c.in-Some.next =
    subst (λ o. IfSome o (λ (all : List Numbered). MayFollow (slice_get c.loop-at.rows (length c.loop-at.rows - 1)) c.in-Some.next)) c.in-Some-2.is c.in_ok-more.ensures.follows in
    let pushed : c.in-Some-2.more ≡ c.loop-at.rows ++ c.in-Some.next ∷ [] =
    subst (λ o. IfSome o (λ (all : List Numbered). all ≡ c.loop-at.rows ++ c.in-Some.next ∷ [])) c.in-Some-2.is c.in_ok-more.ensures.pushed in
    rows_more c.args.columns.now c.args.cells.now c.args.lo c.args.hi c.loop-at.at c.loop-at.rows c.in-Some-2.more c.in-Some.next c.loop-at.invariant c.requires.texts number within row follows pushed

pub with_next-requires-clause-short : goal.with_next-requires-clause-short
with_next-requires-clause-short c =
    subst (λ o. IfSome o (λ (n : Numbered). AreShort n.row.stack)) c.in-Some.is c.in_ok-next.ensures.short

pub with_next-requires-clause-number : goal.with_next-requires-clause-number
with_next-requires-clause-number c =
    let within : IsWithin c.args.lo c.args.hi c.in-Some.next = subst (λ o. IfSome o (IsWithin c.args.lo c.args.hi)) c.in-Some.is c.in_ok-next.ensures.within in
    let high : c.in-Some.next.number ≤ c.args.hi = within.1 in
    omega (arith, high, c.requires.below)
