use Rattle.std.proofs.Common.{Some, sym, ap, subst, ◌∙◌}
use Rattle.std.specs.Prelude.{pos}
use Rattle.fd_thrift.specs.View.{view, fields_view}
use Rattle.fd_thrift.specs.Values.{Fields, whole32, struct}
use Rattle.fd_codes.specs.Trees.{value_in}
use Rattle.fd_codes.proofs.HeaderLaws.{view_struct, struct_is}
use Rattle.fd_codes.proofs.header.first_number.Goals as goal

pub returns-in-Struct-clause-value : goal.returns-in-Struct-clause-value
returns-in-Struct-clause-value c = λ number fields e f.
    let same = struct_is _ fields (ap (λ fs. struct (fields_view fs)) c.deref.ensures.value ∙ sym (ap view c.in-Struct.is ∙ view_struct c.in-Struct.fields) ∙ e) in
    c.first_in.ensures.value number (ap (λ (fs : Fields). value_in fs 0) same ∙ f)
