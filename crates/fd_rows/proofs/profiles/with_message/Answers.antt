use Rattle.std.proofs.Common.{◌≡◌, ◌++◌, true, ap, subst, ◌∙◌, Option, List}
use Rattle.std.specs.Prelude.{MatchOption}
use Rattle.fd_kinds.specs.declared.row.Row.{Row}
use Rattle.fd_rows.specs.declared.bounded_rows.BoundedRows.{BoundedRows}
use Rattle.fd_rows.specs.Rows.{profile_rows}
use Rattle.fd_rows.specs.Body.{is_large}
use Rattle.fd_rows.proofs.Refusals.{same_rows, message_fine, message_large}
use Rattle.fd_rows.proofs.profiles.with_message.Goals as goal

pub returns-in-Some-clause-none : goal.returns-in-Some-clause-none
returns-in-Some-clause-none c =
    let of = c.args.of.now.series in
    let before = c.args.rows.rows in
    let more = c.in-Some.more in
    let rows = subst (λ (o : Option BoundedRows). MatchOption o (is_large (before ++ profile_rows of c.in-Ok.survey) ≡ true) (λ (m : BoundedRows). m.rows ≡ before ++ profile_rows of c.in-Ok.survey)) c.in-Some.is c.in_ok-more.ensures in
    message_fine c.args.at of c.args.sample before more.rows c.args.bytes.now more.bytes c.in-Ok.ensures.ok.0
    (rows ∙ ap (λ (xs : List Row). before ++ xs) (same_rows of c.args.bytes.now c.in-Ok.survey c.in-Ok.ensures.ok.1)) more.counted more.small

pub returns-in-Some-clause-ok : goal.returns-in-Some-clause-ok
returns-in-Some-clause-ok c =
    let of = c.args.of.now.series in
    let before = c.args.rows.rows in
    let rows = subst (λ (o : Option BoundedRows). MatchOption o (is_large (before ++ profile_rows of c.in-Ok.survey) ≡ true) (λ (m : BoundedRows). m.rows ≡ before ++ profile_rows of c.in-Ok.survey)) c.in-Some.is c.in_ok-more.ensures in
    rows ∙ ap (λ (xs : List Row). before ++ xs) (same_rows of c.args.bytes.now c.in-Ok.survey c.in-Ok.ensures.ok.1)

pub returns-clause-err : goal.returns-clause-err
returns-clause-err c =
    let of = c.args.of.now.series in
    let before = c.args.rows.rows in
    let large = subst (λ (o : Option BoundedRows). MatchOption o (is_large (before ++ profile_rows of c.in-Ok.survey) ≡ true) (λ (m : BoundedRows). m.rows ≡ before ++ profile_rows of c.in-Ok.survey)) c.in-None.is c.in_ok-more.ensures in
    λ free. message_large c.args.at of c.args.sample before c.args.bytes.now c.in-Ok.ensures.ok.0
    (subst (λ (xs : List Row). is_large (before ++ xs) ≡ true) (same_rows of c.args.bytes.now c.in-Ok.survey c.in-Ok.ensures.ok.1) large)
