use Rattle.std.proofs.Common.{arith}
use Rattle.fd_gen.specs.Profile.{name, text_field}
use Rattle.fd_gen.proofs.Pieces.{added_next, names_added}
use Rattle.fd_gen.proofs.profile.put_names.Goals as goal

pub loop-function-preserved : goal.loop-function-preserved
loop-function-preserved c =
    added_next text_field name c.args.out.now c.loop-function.out c.put_name.new.out c.loop-function.function
    c.loop-function.invariant c.in_ok-put_name.ensures

pub returns : goal.returns
returns c = names_added c.args.out.now c.loop-function.out c.loop-function.function (omega arith) c.loop-function.invariant
