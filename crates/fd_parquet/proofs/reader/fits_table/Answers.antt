use Rattle.std.proofs.Common.{true≢false, sym, ◌∙◌, arith}
use Rattle.std.proofs.lemmas.Result.{IfOk-weaker}
use Rattle.fd_parquet.proofs.FileReads.{cells_count}
use Rattle.fd_parquet.proofs.reader.fits_table.Goals as goal

pub returns-then-not-has_cells : goal.returns-then-not-has_cells
returns-then-not-has_cells c = (
  (λ e. absurd (true≢false (sym e))),
  (λ f. absurd (true≢false (sym (c.has_cells.ensures.1 f.each) ∙ c.if-not-has_cells.true))),
)

pub has_footer-requires-clause-chunks : goal.has_footer-requires-clause-chunks
has_footer-requires-clause-chunks c = c.requires.chunks ∙ cells_count c.args.cells.now c.args.table.now (c.has_cells.ensures.0 c.if-not-has_cells.false)

pub returns : goal.returns
returns c =
    IfOk-weaker c.has_footer.result _ _ (λ b d. (
      (λ t. record { each = c.has_cells.ensures.0 c.if-not-has_cells.false; names = c.utf8-2.ensures.names; footer_is = d.0 t }),
      (λ f. d.1 f.footer_is),
    )) c.has_footer.ensures

pub has_footer-requires-clause-few : goal.has_footer-requires-clause-few
has_footer-requires-clause-few c =
    omega (arith, c.requires.few, cells_count c.args.cells.now c.args.table.now (c.has_cells.ensures.0 c.if-not-has_cells.false))
