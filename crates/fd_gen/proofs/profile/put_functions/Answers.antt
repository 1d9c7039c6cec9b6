use Rattle.std.proofs.Common.{arith}
use Rattle.fd_gen.specs.Profile.{function_field}
use Rattle.fd_gen.proofs.Pieces.{added_number, functions_added}
use Rattle.fd_gen.proofs.profile.put_functions.Goals as goal

pub loop-function-preserved : goal.loop-function-preserved
loop-function-preserved c =
    added_number function_field c.args.out.now c.loop-function.out c.put_function.new.out c.loop-function.function
    c.loop-function.invariant c.in_ok-put_function.ensures

pub returns : goal.returns
returns c = functions_added function_field c.args.out.now c.loop-function.out c.loop-function.function (omega arith) c.loop-function.invariant
