use Rattle.std.proofs.Common.{replicate}
use Rattle.fd_dictionary.proofs.DictionaryPushes.{blank_fine, blank_cells}
use Rattle.fd_dictionary.proofs.builder.DictionaryBuilder.absent.Goals as goal

pub invariant_of-result : goal.invariant_of-result
invariant_of-result c =
    rw (c.new.ensures, c.in_ok-absent.ensures) (blank_fine c.args.count)

pub returns : goal.returns
returns c =
    rw (c.new.ensures, c.in_ok-absent.ensures) (blank_cells c.args.count)
