use Rattle.std.proofs.Common.{rules, ◌≡◌, ◌++◌, ap, sym, ◌∙◌, subst, false, not, Option}
use Rattle.std.specs.Prelude.{pos, MatchOption}
use Rattle.std.specs.List.{list_any}
use Rattle.std.specs.Ordering.{int_eq}
use Rattle.std.proofs.lemmas.List.{append-nil}
use Rattle.fd_pprof.specs.declared.profile.Sample.{Sample}
use Rattle.fd_rows.proofs.RowSteps.{no_rows}
use Rattle.fd_rows.proofs.rows.with_sample_at.Goals as goal

pub returns-then-not-has_value : goal.returns-then-not-has_value
returns-then-not-has_value c = λ s there.
    let any = subst (λ (o : Option Sample). MatchOption o (c.has_value.result ≡ false) (λ (x : Sample). c.has_value.result ≡ list_any (λ v. not (int_eq v (pos 0))) x.values)) there c.has_value.ensures in
    let none : c.has_value.result ≡ false = search rules in
    sym (ap (λ xs. c.args.rows ++ xs) (no_rows c.args.series.now c.args.survey.now s (sym any ∙ none)) ∙ append-nil c.args.rows)
