use Rattle.std.proofs.Common.{arith, ap, sym, ◌∙◌, ◌≡◌, ◌≤◌, ◌+◌, ◌++◌, ◌∷◌, [], length}
use Rattle.fd_kinds.specs.History.{history_of, count_of}
use Rattle.fd_kinds.specs.Parts.{rows_of}
use Rattle.fd_kinds.proofs.PartLaws.{rows_of_with_number}
use Rattle.fd_shelf.specs.Histories.{hist, in_row_order}
use Rattle.fd_part.specs.Parts.{part_meaning}
use Rattle.fd_store.proofs.Views.{history_is, adds, few_left}
use Rattle.fd_store.proofs.local.LocalStore.write.Goals as goal

pub returns-clause-gives : goal.returns-clause-gives
returns-clause-gives c =
    let book = c.self.inside.shelf.book in
    let mark = c.self.inside.shelf.mark in
    let history : history_of c.args.self.now ≡ hist book mark = history_is c.self.inside.opened (hist book mark) _ c.self.inside.wanting c.args.self.now c.self.view_is in
    let counted : c.drawn-drawn.result ≡ count_of c.args.self.now = c.drawn-drawn.ensures.count ∙ sym (ap length history) in
    let below : c.self.inside.opened ≤ length (hist book mark) = omega (arith, c.self.invariant.1, c.drawn-drawn.ensures.mark, c.drawn-drawn.ensures.count) in
    let rows : rows_of (part_meaning c.in_ok-part.part).rows ≡ c.args.batch.rows = ap (λ p. rows_of p.rows) c.in_ok-part.ensures ∙ rows_of_with_number 0 c.args.batch.rows in
    let gained : hist c.compact_full.new.shelf.book c.compact_full.new.shelf.mark ≡ hist book mark ++ c.args.batch.rows ∷ [] =
    ap (hist c.compact_full.new.shelf.book) c.compact_full.ensures.mark
    ∙ c.compact_full.ensures.history c.add.new.shelf.mark
    ∙ c.add.ensures.history
    ∙ ap (λ book. hist book c.reserve.new.self.mark ++ in_row_order (rows_of (part_meaning c.in_ok-part.part).rows) ∷ []) c.in_ok-reserve.ensures.book
    ∙ ap (λ mark. hist book mark ++ in_row_order (rows_of (part_meaning c.in_ok-part.part).rows) ∷ []) c.in_ok-reserve.ensures.mark
    ∙ ap (λ batch. hist book mark ++ in_row_order batch ∷ []) rows
    ∙ ap (λ batch. hist book mark ++ batch ∷ []) (c.batch_laws.ensures.sorted c.args.batch.rows c.args.batch.sorted) in (
      omega (arith, counted, c.if-drawn-ge-MOST_NUMBERS.false),
      ap (λ n. n + 1) counted,
      adds c.self.inside.opened (hist book mark) (hist c.compact_full.new.shelf.book c.compact_full.new.shelf.mark) _ _ _ c.self.inside.wanting c.args.batch.rows c.args.self.now
          c.self.view_is below gained (λ told. few_left c.compact_full.result (sym c.is_err-self-inside.ensures.value ∙ told) c.compact_full.ensures.fewer),
    )
