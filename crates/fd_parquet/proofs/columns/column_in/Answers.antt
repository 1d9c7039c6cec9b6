use Rattle.std.proofs.Common.{◌≡◌, ℕ, List, true≢false, sym, ap, ◌∙◌, subst}
use Rattle.std.specs.Prelude.{All}
use Rattle.fd_pages.specs.declared.cell.Cell.{Cell}
use Rattle.fd_table_file.specs.Columns.{HasText}
use Rattle.fd_table_file.specs.Chunks.{BeginsCells}
use Rattle.fd_parquet.proofs.PageReads.{chunk_cells, cells_chunk, ok_is}
use Rattle.fd_parquet.proofs.columns.column_in.Goals as goal

pub returns-then-not-have_texts-clause-only : goal.returns-then-not-have_texts-clause-only
returns-then-not-have_texts-clause-only c = λ cells rest b.
    let begins = subst (λ k. BeginsCells k c.args.column.now.required c.args.count c.args.bytes.now cells rest) (sym c.kind_in-kind.ensures) (chunk_cells c.args.pages c.args.column.now c.args.count c.args.bytes.now cells rest b) in
    let found : List Cell × List ℕ = (c.in_ok-cells.cells, c.in_ok-cells.rest.now) in
    let other : List Cell × List ℕ = (cells, rest) in
    let same : found ≡ other = ok_is found other (c.in_ok-cells.ensures.only cells rest begins) in
    let cell : cells ≡ c.as_slice.result.now = sym (c.as_slice.ensures ∙ ap (λ (x : List Cell × List ℕ). x.0) same) in
    let texts : All (HasText c.args.column.now) c.as_slice.result.now = subst (All (HasText c.args.column.now)) cell b.is.texts in
    absurd (true≢false (sym (c.have_texts.ensures.1 texts) ∙ c.if-not-have_texts.true))

pub returns-clause-only : goal.returns-clause-only
returns-clause-only c = λ cells rest b.
    let begins = subst (λ k. BeginsCells k c.args.column.now.required c.args.count c.args.bytes.now cells rest) (sym c.kind_in-kind.ensures) (chunk_cells c.args.pages c.args.column.now c.args.count c.args.bytes.now cells rest b) in
    c.in_ok-cells.ensures.only cells rest begins

pub returns-clause-found : goal.returns-clause-found
returns-clause-found c =
    let begins = subst (λ k. BeginsCells k c.args.column.now.required c.args.count c.args.bytes.now c.in_ok-cells.cells c.in_ok-cells.rest.now) c.kind_in-kind.ensures c.in_ok-cells.ensures.found in
    let texts : All (HasText c.args.column.now) c.in_ok-cells.cells = subst (All (HasText c.args.column.now)) c.as_slice.ensures (c.have_texts.ensures.0 c.if-not-have_texts.false) in
    cells_chunk c.args.pages c.args.column.now c.args.count c.args.bytes.now c.in_ok-cells.cells c.in_ok-cells.rest.now (sym c.has_dictionary.ensures ∙ c.if-has_dictionary.false) texts begins
