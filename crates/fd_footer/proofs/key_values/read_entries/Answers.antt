use Rattle.std.proofs.Common.{arith}
use Rattle.fd_footer.proofs.EntryCount.{not_three}
use Rattle.fd_footer.proofs.key_values.read_entries.Goals as goal

pub returns-in_default : goal.returns-in_default
returns-in_default c = not_three c.args.trees.now (λ three. omega (arith, c.in_default.len_below))

pub returns-in_default-2 : goal.returns-in_default-2
returns-in_default-2 c = not_three c.args.trees.now (λ three. omega (arith, c.in_default.len_at_least))
