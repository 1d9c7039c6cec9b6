use Rattle.std.proofs.Common.{arith}
use Rattle.fd_gen.specs.Profile.{location_field}
use Rattle.fd_gen.proofs.Pieces.{added_number, functions_added}
use Rattle.fd_gen.proofs.profile.put_locations.Goals as goal

pub loop-function-preserved : goal.loop-function-preserved
loop-function-preserved c =
    added_number location_field c.args.out.now c.loop-function.out c.put_location.new.out c.loop-function.function
    c.loop-function.invariant c.in_ok-put_location.ensures

pub returns : goal.returns
returns c = functions_added location_field c.args.out.now c.loop-function.out c.loop-function.function (omega arith) c.loop-function.invariant
