use Rattle.std.proofs.Common.{arith, ◌≡◌, ◌/◌, ◌++◌, ◌∙◌, length, map, ap₂, sym, subst}
use Rattle.std.specs.Prelude.{IsPermutation}
use Rattle.std.proofs.lemmas.List.{take-append-drop}
use Rattle.std.proofs.lemmas.Result.{IfOk-weaker}
use Rattle.fd_part.specs.Parts.{part_meaning}
use Rattle.fd_shelf.specs.Books.{Each, rows_in}
use Rattle.fd_shelf.specs.Runs.{IsNumbered}
use Rattle.fd_compact.proofs.RunRows.{rows_of_both, numbered_front, numbered_back}
use Rattle.fd_compact.proofs.tables.+table_of.Goals as goal

pub table_of-requires : goal.table_of-requires
table_of-requires t c = (
  omega (arith, c.split_at.ensures.front_len, c.if-parts-eq1.false, c.requires.some),
  (
    omega (arith, c.split_at.ensures.front_len, c.if-parts-eq1.false, c.requires.some),
    subst (λ parts. Each IsNumbered (map (λ i. part_meaning i.part) parts)) (sym c.split_at.ensures.front) (numbered_front (λ i. part_meaning i.part) (length c.args.parts.now / 2) c.args.parts.now c.requires.numbered),
  ),
)

pub table_of-requires-2 : goal.table_of-requires-2
table_of-requires-2 t c = (
  omega (arith, c.split_at.ensures.back_len, c.if-parts-eq1.false, c.requires.some),
  (
    omega (arith, c.split_at.ensures.back_len, c.if-parts-eq1.false, c.requires.some),
    subst (λ parts. Each IsNumbered (map (λ i. part_meaning i.part) parts)) (sym c.split_at.ensures.back) (numbered_back (λ i. part_meaning i.part) (length c.args.parts.now / 2) c.args.parts.now c.requires.numbered),
  ),
)

pub returns : goal.returns
returns t c =
    let whole : c.args.parts.now ≡ c.split_at.result.0.now ++ c.split_at.result.1.now =
    sym (ap₂ (λ front back. front ++ back) c.split_at.ensures.front c.split_at.ensures.back ∙ take-append-drop (length c.args.parts.now / 2) c.args.parts.now) in
    IfOk-weaker c.merge.result (IsPermutation (c.in_ok-left.left ++ c.in_ok-right.right)) (IsPermutation (rows_in (map (λ i. part_meaning i.part) c.args.parts.now)))
    (λ table rows. rows_of_both (λ i. part_meaning i.part) c.args.parts.now c.split_at.result.0.now c.split_at.result.1.now c.in_ok-left.left c.in_ok-right.right table whole c.in_ok-left.ensures c.in_ok-right.ensures rows)
    c.merge.ensures.rows
