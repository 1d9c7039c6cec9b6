use Rattle.std.proofs.Common.{arith, ap, sym, ◌∙◌, ◌≡◌, length, refl}
use Rattle.fd_kinds.specs.History.{upto, history_of, count_of}
use Rattle.fd_kinds.specs.Meaning.{meaning}
use Rattle.fd_kinds.specs.Parts.{rows_of}
use Rattle.fd_shelf.specs.Books.{settled_parts, rows_in}
use Rattle.fd_shelf.specs.Histories.{hist}
use Rattle.fd_store.proofs.Views.{history_is}
use Rattle.fd_store.proofs.local.LocalStore.read.Goals as goal

pub returns-clause-gives : goal.returns-clause-gives
returns-clause-gives c =
    let book = c.self.inside.shelf.book in
    let mark = c.self.inside.shelf.mark in
    let history : history_of c.args.self.now ≡ hist book mark = history_is c.self.inside.opened (hist book mark) _ c.self.inside.wanting c.args.self.now c.self.view_is in
    let counted : c.drawn-watermark.result ≡ count_of c.args.self.now = c.drawn-watermark.ensures.count ∙ sym (ap length history) in
    let is_mark : mark ≡ count_of c.args.self.now = sym c.drawn-watermark.ensures.mark ∙ counted in (
      omega (arith, counted, c.if-after-watermark.false),
      counted,
      c.in_ok-answer.ensures
          ∙ ap (meaning c.args.query.now) c.in_ok-parts.ensures
          ∙ c.meaning_laws.ensures.meaning c.args.query.now (rows_of (rows_in (settled_parts book))) (upto (hist book mark) mark) c.history_laws.ensures.rows
          ∙ ap (λ h. meaning c.args.query.now (upto h mark)) (sym history)
          ∙ ap (λ n. meaning c.args.query.now (upto (history_of c.args.self.now) n)) is_mark,
      refl,
    )
