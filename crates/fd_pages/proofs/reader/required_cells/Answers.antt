use Rattle.std.proofs.Common.{replicate, arith}
use Rattle.fd_pages.specs.Reader.{cells_at, ended}
use Rattle.fd_pages.proofs.Bodies.{required_found, required_again, gives}
use Rattle.fd_pages.proofs.reader.required_cells.Goals as goal

pub returns-clause-found : goal.returns-clause-found
returns-clause-found c = required_found c.args.kind c.args.count c.args.body.now c.all_values.result (λ i. omega (arith, c.type_inv.body i)) c.all_values.ensures

pub returns-clause-only : goal.returns-clause-only
returns-clause-only c = λ cells are e. gives c.all_values.result (ended (cells_at c.args.kind (replicate c.args.count 1) c.args.body.now)) cells c.all_values.ensures (required_again c.args.kind c.args.count c.args.body.now cells are e)
