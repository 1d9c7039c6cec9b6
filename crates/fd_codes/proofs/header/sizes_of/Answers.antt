use Rattle.std.proofs.Common.{sym, ap, ◌∙◌}
use Rattle.fd_thrift.specs.View.{view, fields_view}
use Rattle.fd_thrift.specs.Values.{struct}
use Rattle.fd_codes.proofs.HeaderLaws.{view_struct}
use Rattle.fd_codes.proofs.header.sizes_of.Goals as goal

pub returns-in-Struct-clause-value : goal.returns-in-Struct-clause-value
returns-in-Struct-clause-value c = λ kind count size e.
    c.sizes_in.ensures.value kind count size (ap (λ fields. struct (fields_view fields)) c.deref.ensures.value ∙ sym (ap view c.in-Struct.is ∙ view_struct c.in-Struct.fields) ∙ e)
