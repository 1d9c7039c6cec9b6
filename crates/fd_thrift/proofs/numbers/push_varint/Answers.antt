use Rattle.std.proofs.Common.{arith, refl}
use Rattle.fd_thrift.specs.Format.{varint}
use Rattle.fd_thrift.proofs.numbers.push_varint.Goals as goal

pub loop-rest-init : goal.loop-rest-init
unfolding varint
loop-rest-init c = (9, omega arith, refl)
