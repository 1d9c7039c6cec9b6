use Rattle.std.proofs.Common.{ℕ, length, ◌∙◌}
use Rattle.fd_thrift.specs.Values.{Value}
use Rattle.fd_thrift.specs.View.{view}
use Rattle.fd_codes.specs.Headers.{header_value, header_text}
use Rattle.fd_codes.proofs.HeaderLaws.{header_begins, same_value, refused}
use Rattle.fd_codes.proofs.header.tree_in.Goals as goal

pub returns-in-Ok-clause-only : goal.returns-in-Ok-clause-only
returns-in-Ok-clause-only c = λ kind count size rest counted small e.
    same_value (header_value kind count size, length (header_text kind count size)) (view c.in-Ok.found.0, c.in-Ok.found.1)
    (c.in-Ok.ensures.only (header_value kind count size) (length (header_text kind count size)) (header_begins kind c.args.bytes.now count size rest counted small e))

pub returns-in-Err : goal.returns-in-Err
returns-in-Err c = record {
  within = tt;
  only = λ kind count size rest counted small e.
      let v : Value × ℕ = (header_value kind count size, length (header_text kind count size)) in
      let fault-is = c.page_fault.ensures ∙ refused c.in-Err.fault v (c.in-Err.ensures.only (header_value kind count size) (length (header_text kind count size)) (header_begins kind c.args.bytes.now count size rest counted small e)) in
      rw fault-is tt;
}
