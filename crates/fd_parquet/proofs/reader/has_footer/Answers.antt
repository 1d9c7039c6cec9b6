use Rattle.std.proofs.Common.{rules, ◌≡◌, ◌<◌, ◌^◌, length, sym, ap, ◌∙◌, subst, arith}
use Rattle.std.specs.Prelude.{Decides}
use Rattle.fd_footer.specs.declared.footer.Footer.{Footer}
use Rattle.fd_footer.specs.Footers.{IsWritable, footer_bytes}
use Rattle.fd_parquet.proofs.FileReads.{footer_writes, footer_decided}
use Rattle.fd_parquet.proofs.reader.has_footer.Goals as goal

pub write_footer-requires : goal.write_footer-requires
write_footer-requires c =
    let few : length c.in_ok-told.told.columns < 2 ^ 31 = search rules in
    subst IsWritable (sym c.in_ok-told.ensures) (footer_writes c.args.pages c.args.table.now c.args.lo c.args.hi c.args.places c.in_ok-told.told c.in_ok-told.ensures few c.requires.chunks c.requires.placed c.requires.small c.requires.rows (omega (arith, c.ranges.lo.fits)) (omega (arith, c.ranges.hi.fits)))

pub returns : goal.returns
returns c =
    let few : length c.in_ok-told.told.columns < 2 ^ 31 = search rules in
    footer_decided c.args.pages c.args.footer.now c.in_ok-expected.expected c.args.table.now c.args.lo c.args.hi c.args.places c.are_same.result (footer_writes c.args.pages c.args.table.now c.args.lo c.args.hi c.args.places c.in_ok-told.told c.in_ok-told.ensures few c.requires.chunks c.requires.placed c.requires.small c.requires.rows (omega (arith, c.ranges.lo.fits)) (omega (arith, c.ranges.hi.fits)))
    (c.in_ok-expected.ensures.value ∙ ap (λ (f : Footer). footer_bytes f) c.in_ok-told.ensures)
    (subst (λ xs. Decides c.are_same.result (xs ≡ c.args.footer.now)) c.as_slice.ensures c.are_same.ensures)
