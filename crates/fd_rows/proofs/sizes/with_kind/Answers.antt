use Rattle.std.proofs.Common.{rules, w64, to_z, of_z, ◌≡◌, ◌∙◌, ap, sym, subst, arith, Option, Some, None}
use Rattle.std.specs.Prelude.{MatchOption, slice_get}
use Rattle.fd_pprof.specs.declared.profile.Sample.{Sample}
use Rattle.fd_rows.specs.Rows.{value_rows}
use Rattle.fd_rows.specs.Sizes.{with_rows}
use Rattle.fd_rows.proofs.RowSteps.{one_value, no_value, no_bytes}
use Rattle.fd_rows.proofs.sizes.with_kind.Goals as goal

pub returns-in-Some : goal.returns-in-Some
returns-in-Some c = λ series s t each at kind.
    let value = subst (λ (o : Option Sample). MatchOption o (Some c.in-Some.value ≡ None) (λ (x : Sample). Some c.in-Some.value ≡ slice_get x.values c.args.kind)) at c.in-Some.ensures in
    let same : to_z w64 (of_z w64 c.in-Some.value) ≡ c.in-Some.value = search rules in
    c.with_value.ensures series s t each kind
    ∙ ap (λ v. with_rows c.args.size (value_rows series c.args.survey.now s (t, v))) same
    ∙ ap (with_rows c.args.size) (sym (one_value (value_rows series c.args.survey.now s) t s.values c.args.kind c.in-Some.value (sym value)))

pub returns-in-None : goal.returns-in-None
returns-in-None c = λ series s t each at kind.
    let value = subst (λ (o : Option Sample). MatchOption o (c.value.result ≡ None) (λ (x : Sample). c.value.result ≡ slice_get x.values c.args.kind)) at c.value.ensures in
    no_bytes c.args.size (omega arith)
    ∙ ap (with_rows c.args.size) (sym (no_value (value_rows series c.args.survey.now s) t s.values c.args.kind (sym value ∙ c.in-None.is)))
