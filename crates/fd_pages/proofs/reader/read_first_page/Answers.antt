use Rattle.std.proofs.Common.{arith}
use Rattle.fd_pages.proofs.Bodies.{page_begins}
use Rattle.fd_pages.proofs.reader.read_first_page.Goals as goal

pub returns-clause-found : goal.returns-clause-found
returns-clause-found c =
    page_begins c.args.kind c.args.required c.args.count c.in_ok-size.size c.args.bytes.now c.in_ok-size.rest.now c.split_at.result.0.now c.split_at.result.1.now c.in_ok-cells.cells
    (omega arith) (omega arith) c.in_ok-size.ensures.small (omega arith) c.in_ok-size.ensures.found c.split_at.ensures.front c.split_at.ensures.back c.in_ok-cells.ensures.found
