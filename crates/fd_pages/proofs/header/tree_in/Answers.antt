use Rattle.std.proofs.Common.{ℕ, length, ◌∙◌}
use Rattle.fd_thrift.specs.Values.{Value}
use Rattle.fd_thrift.specs.View.{view}
use Rattle.fd_pages.specs.Pages.{page_header, header_bytes}
use Rattle.fd_pages.proofs.HeaderLaws.{header_begins, same_value, refused}
use Rattle.fd_pages.proofs.header.tree_in.Goals as goal

pub returns-in-Ok-clause-only : goal.returns-in-Ok-clause-only
returns-in-Ok-clause-only c = λ count size rest counted small e.
    same_value (page_header count size, length (header_bytes count size)) (view c.in-Ok.found.0, c.in-Ok.found.1)
    (c.in-Ok.ensures.only (page_header count size) (length (header_bytes count size)) (header_begins c.args.bytes.now count size rest counted small e))

pub returns-in-Err : goal.returns-in-Err
returns-in-Err c = record {
  within = tt;
  only = λ count size rest counted small e.
      let v : Value × ℕ = (page_header count size, length (header_bytes count size)) in
      let fault-is = c.page_fault.ensures ∙ refused c.in-Err.fault v (c.in-Err.ensures.only (page_header count size) (length (header_bytes count size)) (header_begins c.args.bytes.now count size rest counted small e)) in
      rw fault-is tt;
}
