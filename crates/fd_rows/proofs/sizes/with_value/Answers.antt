use Rattle.std.proofs.Common.{rules, ◌≡◌, subst, arith, Option}
use Rattle.std.specs.Prelude.{MatchOption}
use Rattle.fd_pprof.specs.declared.profile.ValueType.{ValueType}
use Rattle.fd_pprof.specs.Sizes.{type_size}
use Rattle.fd_rows.proofs.RowSteps.{value_none, value_some}
use Rattle.fd_rows.proofs.sizes.with_value.Goals as goal

pub returns-then-value-eq0 : goal.returns-then-value-eq0
returns-then-value-eq0 c = λ series s t each there. value_none series c.args.survey.now s t c.args.value c.args.size (omega arith) (search rules)

pub returns : goal.returns
returns c = λ series s t each there.
    let kind = subst (λ (o : Option ValueType). MatchOption o (c.kind_bytes.result ≡ 0) (λ (x : ValueType). c.kind_bytes.result ≡ type_size x)) there c.kind_bytes.ensures in
    value_some series c.args.survey.now s t c.args.value c.args.size c.args.each c.kind_bytes.result c.saturating_add-2.result (search rules) each kind (omega (arith, c.saturating_add.ensures, c.saturating_add-2.ensures))
