use Rattle.std.proofs.Common.{◌<◌, length, arith, refl}
use Rattle.fd_hybrid.proofs.Headers.{whole_rest}
use Rattle.fd_hybrid.proofs.RunWrites.{repeated_put, as_values, bytes_of_width}
use Rattle.fd_hybrid.proofs.packer.push_repeated.Goals as goal

pub returns-clause-run : goal.returns-clause-run
returns-clause-run c =
    let some : 0 < length c.args.values.now = omega arith in
    repeated_put c.args.width c.args.copies c.div_ceil.result c.args.out.now c.push_varint.new.out c.push_digits.new.out c.args.values.now _ _ some c.requires.all
    c.requires.many c.in_ok-push_varint.ensures refl (bytes_of_width c.args.width c.from-2.result c.div_ceil.result c.from-2.ensures c.div_ceil.ensures)
    (as_values c.args.width c.from.result c.div_ceil.result c.push_varint.new.out c.push_digits.new.out _ c.from.ensures c.in_ok-push_digits.ensures)
    (whole_rest c.args.copies c.args.values.now)
