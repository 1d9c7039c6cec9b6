use Rattle.std.proofs.Common.{arith, refl}
use Rattle.fd_gen.specs.Fields.{varint}
use Rattle.fd_gen.proofs.fields.put_varint.Goals as goal

pub loop-rest-init : goal.loop-rest-init
unfolding varint
loop-rest-init c = (9, omega arith, refl)
