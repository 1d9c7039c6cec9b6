use Rattle.std.proofs.Common.{arith}
use Rattle.fd_hybrid.proofs.Exactness.{found_exact, only_exact, cut_exact, cut_only, over_exact, over_only, bad_exact, bad_only}
use Rattle.fd_hybrid.proofs.unpacker.unpack.Goals as goal

pub returns-clause-found : goal.returns-clause-found
returns-clause-found c = found_exact c.args.width c.args.count c.args.bytes.now c.all_of.result c.requires.least (omega arith) (λ i. omega (arith, c.type_inv.bytes i)) c.all_of.ensures

pub returns-clause-only : goal.returns-clause-only
returns-clause-only c = only_exact c.args.width c.args.count c.args.bytes.now c.all_of.result c.requires.least (omega arith) c.all_of.ensures

pub returns-clause-cut : goal.returns-clause-cut
returns-clause-cut c = cut_exact c.args.width c.args.count c.args.bytes.now c.all_of.result c.requires.least (omega arith) (λ i. omega (arith, c.type_inv.bytes i)) c.all_of.ensures

pub returns-clause-cut_only : goal.returns-clause-cut_only
returns-clause-cut_only c = cut_only c.args.width c.args.count c.args.bytes.now c.all_of.result c.requires.least (omega arith) c.all_of.ensures

pub returns-clause-over_width : goal.returns-clause-over_width
returns-clause-over_width c = over_exact c.args.width c.args.count c.args.bytes.now c.all_of.result c.requires.least (omega arith) (λ i. omega (arith, c.type_inv.bytes i)) c.all_of.ensures

pub returns-clause-over_width_only : goal.returns-clause-over_width_only
returns-clause-over_width_only c = over_only c.args.width c.args.count c.args.bytes.now c.all_of.result c.requires.least (omega arith) c.all_of.ensures

pub returns-clause-bad_run : goal.returns-clause-bad_run
returns-clause-bad_run c = bad_exact c.args.width c.args.count c.args.bytes.now c.all_of.result c.requires.least (omega arith) c.all_of.ensures

pub returns-clause-bad_run_only : goal.returns-clause-bad_run_only
returns-clause-bad_run_only c = bad_only c.args.width c.args.count c.args.bytes.now c.all_of.result c.requires.least (omega arith) (λ i. omega (arith, c.type_inv.bytes i)) c.all_of.ensures
