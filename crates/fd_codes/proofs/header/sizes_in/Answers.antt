use Rattle.std.proofs.Common.{ℕ, Some, ap, ◌∙◌}
use Rattle.fd_thrift.specs.View.{fields_view}
use Rattle.fd_codes.proofs.HeaderLaws.{pair, told, none_is, some_is}
use Rattle.fd_codes.proofs.header.sizes_in.Goals as goal

pub returns-in-Some-clause-value : goal.returns-in-Some-clause-value
returns-in-Some-clause-value c = λ kind count size e.
    let t = told kind (fields_view c.args.fields.now) count size e in
    let same = some_is c.in-Some.count count (c.in-Some.ensures.value count t.inner t.has t.counted) in
    c.with_size.ensures.value size t.sized ∙ ap (λ (n : ℕ). Some (pair n size)) same

pub returns-in-None-clause-value : goal.returns-in-None-clause-value
returns-in-None-clause-value c = λ kind count size e.
    let t = told kind (fields_view c.args.fields.now) count size e in
    absurd (none_is count (c.in-None.ensures.value count t.inner t.has t.counted))
