use Rattle.std.proofs.Common.{◌≡◌, ◌+◌, ◌++◌, ◌∷◌, [], ℕ, List, ap, sym, ◌∙◌, subst, arith}
use Rattle.fd_kinds.specs.declared.row.Row.{Row}
use Rattle.fd_kinds.specs.Parts.{PartMeaning, loose_part}
use Rattle.fd_part.specs.Parts.{part_meaning}
use Rattle.fd_shelf.specs.Books.{Book, Shelved, HasSmallBatches, all_parts}
use Rattle.fd_shelf.specs.Histories.{hist, batch_at}
use Rattle.fd_open.proofs.Shelves.{numbered_part, small_part, batch_of_part}
use Rattle.fd_open.proofs.shelving.add_batch.Goals as goal

pub append-requires-clause-small : goal.append-requires-clause-small
append-requires-clause-small c κs = λ k.
    let n = c.args.batch.now.number in
    let rows : List Row = c.args.batch.now.batch.rows in
    let is : part_meaning c.number.new.self ≡ loose_part n rows = numbered_part n rows (part_meaning c.in_ok-part.part) (part_meaning c.number.new.self) c.in_ok-part.ensures c.number.ensures in
    subst (λ (p : PartMeaning). HasSmallBatches p) (sym is) (small_part n rows c.requires.small) k

pub returns-clause-active : goal.returns-clause-active
returns-clause-active c =
    let n = c.args.batch.now.number in
    let rows : List Row = c.args.batch.now.batch.rows in
    let is : part_meaning c.number.new.self ≡ loose_part n rows = numbered_part n rows (part_meaning c.in_ok-part.part) (part_meaning c.number.new.self) c.in_ok-part.ensures c.number.ensures in
    ap (λ (s : Shelved). s.book.active) c.append.ensures.appended
    ∙ ap (λ (b : Book). b.active ++ part_meaning c.number.new.self ∷ []) c.reserve.ensures.book
    ∙ ap (λ (p : PartMeaning). c.args.shelf.now.book.active ++ p ∷ []) is

pub returns-clause-history : goal.returns-clause-history
returns-clause-history c =
    let n = c.args.batch.now.number in
    let rows : List Row = c.args.batch.now.batch.rows in
    let mark = c.args.shelf.now.mark in
    let next : n ≡ mark + 1 = c.requires.next in
    let new : Shelved = c.append.new.self in
    let is : part_meaning c.number.new.self ≡ loose_part n rows = numbered_part n rows (part_meaning c.in_ok-part.part) (part_meaning c.number.new.self) c.in_ok-part.ensures c.number.ensures in
    let lo : (part_meaning c.number.new.self).lo ≡ n = ap (λ (p : PartMeaning). p.lo) is in
    let hi : (part_meaning c.number.new.self).hi ≡ n = ap (λ (p : PartMeaning). p.hi) is in
    let mark_is : new.mark ≡ mark + 1 = ap (λ (s : Shelved). s.mark) c.append.ensures.appended ∙ hi ∙ next in
    let before : hist new.book mark ≡ hist c.args.shelf.now.book mark =
    subst (λ (k : ℕ). hist new.book k ≡ hist c.args.shelf.now.book k) c.reserve.ensures.mark (c.append.ensures.history ∙ ap (λ (b : Book). hist b c.reserve.new.self.mark) c.reserve.ensures.book) in
    let batch : batch_at (all_parts new.book) (mark + 1) ≡ rows =
    c.append.ensures.batches (mark + 1) (omega (arith, lo, next)) (omega (arith, hi, next))
    ∙ ap (λ (p : PartMeaning). batch_at (p ∷ []) (mark + 1)) is
    ∙ ap (λ (k : ℕ). batch_at (loose_part n rows ∷ []) k) (sym next)
    ∙ batch_of_part c.batch_laws.ensures.part c.batch_laws.ensures.sorted n rows c.args.batch.now.batch.sorted in
    ap (hist new.book) mark_is
    ∙ c.history_laws.ensures.push mark
    ∙ ap (λ (h : List (List Row)). h ++ batch_at (all_parts new.book) (mark + 1) ∷ []) before
    ∙ ap (λ (b : List Row). hist c.args.shelf.now.book mark ++ b ∷ []) batch
