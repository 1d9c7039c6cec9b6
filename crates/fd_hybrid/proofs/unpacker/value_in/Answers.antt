use Rattle.std.proofs.Common.{arith}
use Rattle.fd_hybrid.proofs.DigitLaws.{number_of_front}
use Rattle.fd_hybrid.proofs.unpacker.value_in.Goals as goal

pub returns : goal.returns
returns c = number_of_front c.args.size c.first_of.result c.args.bytes.now c.front-piece.result.now (λ i. omega (arith, c.type_inv.bytes i)) c.front-piece.ensures c.first_of.ensures
