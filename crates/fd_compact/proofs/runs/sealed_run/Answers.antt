use Rattle.std.proofs.Common.{arith, ◌∙◌, map, sym, subst}
use Rattle.std.specs.Prelude.{All}
use Rattle.std.proofs.lemmas.List.Sorted.{All-permutation, sum_by-IsPermutation, length_permutation}
use Rattle.fd_kinds.specs.declared.row.Numbered.{Numbered}
use Rattle.fd_kinds.specs.Parts.{IsWithin}
use Rattle.fd_kinds.specs.RowSize.{row_size}
use Rattle.fd_part.specs.Parts.{part_meaning}
use Rattle.fd_shelf.specs.Books.{rows_in}
use Rattle.fd_shelf.specs.Steps.{lowest, highest}
use Rattle.fd_compact.proofs.runs.sealed_run.Goals as goal

pub seal-requires-clause-within : goal.seal-requires-clause-within
seal-requires-clause-within c =
    let parts = map (λ i. part_meaning i.part) c.args.parts.now in
    let table = c.in_ok-table.table in
    subst (λ lo. All (IsWithin lo c.last_number-hi.result) table) (sym c.first_number-lo.ensures)
    (subst (λ hi. All (IsWithin (lowest parts) hi) table) (sym c.last_number-hi.ensures)
    (All-permutation (IsWithin (lowest parts) (highest parts)) (rows_in parts) table c.in_ok-table.ensures c.requires.sealable.within))

pub seal-requires-clause-small : goal.seal-requires-clause-small
seal-requires-clause-small c =
    omega (arith, c.requires.sealable.light, sum_by-IsPermutation (λ (n : Numbered). row_size n.row) (rows_in (map (λ i. part_meaning i.part) c.args.parts.now)) c.in_ok-table.table c.in_ok-table.ensures)

pub returns-clause-rows : goal.returns-clause-rows
returns-clause-rows c =
    c.len-rows.ensures ∙ length_permutation (rows_in (map (λ i. part_meaning i.part) c.args.parts.now)) c.in_ok-table.table c.in_ok-table.ensures
