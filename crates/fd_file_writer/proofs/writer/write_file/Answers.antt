use Rattle.std.proofs.Common.{◌<◌, ◌^◌, length, ap, arith}
use Rattle.fd_footer.specs.declared.footer.Pages.TheVariants.{Plain}
use Rattle.fd_file_writer.proofs.FileLaws.{footer_writable, file_is}
use Rattle.fd_file_writer.proofs.writer.write_file.Goals as goal

pub add_footer-requires : goal.add_footer-requires
add_footer-requires c =
    let few : length c.add_chunks.new.out < 2 ^ 63 = omega (arith, c.are_few.ensures, ap length c.as_slice.ensures) in
    footer_writable c.chunks_are_placed.ensures.count c.chunks_are_placed.ensures.fit c.chunks_are_placed.ensures.sizes Plain c.args.table.now c.args.lo c.args.hi c.add_chunks.new.out c.in_ok-places.places c.in_ok-footer.footer
    c.requires.range c.requires.below c.requires.small few
    (record { chunked = c.in_ok-places.ensures; is = c.in_ok-footer.ensures })

pub returns : goal.returns
returns c =
    let few : length c.add_chunks.new.out < 2 ^ 63 = omega (arith, c.are_few.ensures, ap length c.as_slice.ensures) in
    file_is Plain c.args.table.now c.args.lo c.args.hi c.add_chunks.new.out c.in_ok-places.places c.in_ok-footer.footer c.add_footer.new.out
    c.requires.range c.requires.below c.requires.within c.in_order.ensures.sorted
    (record { chunked = c.in_ok-places.ensures; is = c.in_ok-footer.ensures })
    (footer_writable c.chunks_are_placed.ensures.count c.chunks_are_placed.ensures.fit c.chunks_are_placed.ensures.sizes Plain c.args.table.now c.args.lo c.args.hi c.add_chunks.new.out c.in_ok-places.places c.in_ok-footer.footer
    c.requires.range c.requires.below c.requires.small few
    (record { chunked = c.in_ok-places.ensures; is = c.in_ok-footer.ensures }))
    c.in_ok-add_footer.ensures.short c.in_ok-add_footer.ensures.added
