use Rattle.std.proofs.Common.{arith, ap, sym, ◌∙◌, ◌≡◌, length, refl}
use Rattle.fd_kinds.specs.History.{upto, history_of, count_of}
use Rattle.fd_kinds.specs.Meaning.{meaning}
use Rattle.fd_kinds.specs.Parts.{rows_of}
use Rattle.fd_shelf.specs.Books.{settled_parts, rows_in}
use Rattle.fd_shelf.specs.Histories.{hist}
use Rattle.fd_durable.specs.Durable.{Held, held_history}
use Rattle.fd_durable.proofs.Views.{joined}
use Rattle.fd_durable.proofs.local.LocalStore.read.Goals as goal

pub returns-clause-gives : goal.returns-clause-gives
returns-clause-gives g c =
    let book = c.self.inside.shelf.book in
    let mark = c.self.inside.shelf.mark in
    let history : held_history c.args.self.now ≡ hist book mark = ap (λ (h : Held _). held_history h) (sym c.self.view_is) ∙ joined c.self.inside.opened (hist book mark) in
    let counted : c.drawn-watermark.result ≡ count_of c.args.self.now.local = c.drawn-watermark.ensures.count ∙ sym (ap length history) in
    let is_mark : mark ≡ count_of c.args.self.now.local = sym c.drawn-watermark.ensures.mark ∙ counted in
    record {
      numbers = (
        omega (arith, counted, c.if-after-watermark.false),
        counted,
        c.in_ok-answer.ensures
            ∙ ap (meaning c.args.query.now) c.in_ok-parts.ensures
            ∙ c.meaning_laws.ensures.meaning c.args.query.now (rows_of (rows_in (settled_parts book))) (upto (hist book mark) mark) c.history_laws.ensures.rows
            ∙ ap (λ h. meaning c.args.query.now (upto h mark)) (sym history)
            ∙ ap (λ n. meaning c.args.query.now (upto (held_history c.args.self.now) n)) is_mark,
        refl,
      );
      same = refl;
    }
