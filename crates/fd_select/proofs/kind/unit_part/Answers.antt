use Rattle.std.proofs.Common.{◌≢◌, ◌∙◌, sym, ap, eqb, codes}
use Rattle.std.specs.Cmp.Lexicographic.{pointwise}
use Rattle.std.proofs.lemmas.Bool.{false≢true}
use Rattle.fd_select.proofs.Parts.{other_last}
use Rattle.fd_select.proofs.kind.unit_part.Goals as goal

pub returns-else-eq : goal.returns-else-eq
returns-else-eq c =
    let other : c.in-Some.last.now ≢ codes "delta" = λ e. false≢true (sym c.if-eq.false ∙ c.eq.ensures ∙ ap (λ l. pointwise eqb l (codes "delta")) e) in
    other_last c.args.text.now c.in-Some.unit.now c.in-Some.last.now c.in-Some.ensures other
