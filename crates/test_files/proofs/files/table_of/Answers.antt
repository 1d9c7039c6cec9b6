use Rattle.std.proofs.Common.{rules, zero, suc, ◌≡◌, ℕ, ◌+◌, ◌-◌, ◌<◌, ◌^◌, List, [], ◌∷◌, ◌++◌, All, length, min, sum_by, sym, ap, ◌∙◌, subst, arith}
use Rattle.std.proofs.lemmas.List.Elements.{All-nil, All-cons}
use Rattle.std.proofs.lemmas.List.Sums.{sum_by-cons}
use Rattle.std.proofs.lemmas.Result.{IfOk-weaker}
use Rattle.fd_kinds.specs.declared.row.Numbered.{Numbered}
use Rattle.std.specs.Prelude.{IsSorted}
use Rattle.std.specs.Ordering.{is_lt, nat_cmp, ordering_then}
use Rattle.std.specs.declared.cmp.Ordering.{Ordering}
use Rattle.std.specs.declared.cmp.Ordering.TheVariants.{Greater}
use Rattle.fd_kinds.specs.RowOrder.{row_cmp}
use Rattle.fd_column.specs.RowNumbers.{numbered_cmp}
use Rattle.fd_kinds.specs.Parts.{IsWithin}
use Rattle.fd_kinds.specs.RowSize.{row_size}
use Rattle.fd_table_file.specs.Files.{IsSmall}
use Rattle.test_files.proofs.files.table_of.Goals as goal

two_within : (a b : Numbered) → a.number ≡ 7 → b.number ≡ 6 → All (IsWithin 6 9) (a ∷ b ∷ [])
two_within a b e f =
    All-cons (IsWithin 6 9) a (b ∷ []) (omega (arith, e), omega (arith, e))
    (All-cons (IsWithin 6 9) b [] (omega (arith, f), omega (arith, f)) (All-nil (IsWithin 6 9)))

few : (x size : ℕ) → x ≡ min size (2 ^ 64 - 1) → x < 1000 → size < 1000
few x size e lt = omega (arith, e, lt)

two_small : (a b : Numbered) (x y : ℕ) → x ≡ min (row_size a.row) (2 ^ 64 - 1) → x < 1000 → y ≡ min (row_size b.row) (2 ^ 64 - 1) → y < 1000 → IsSmall (a ∷ b ∷ [])
two_small a b x y e lt f lt' =
    omega (arith, sum_by-cons (λ (n : Numbered). row_size n.row) a (b ∷ []), sum_by-cons (λ (n : Numbered). row_size n.row) b [], few x (row_size a.row) e lt, few y (row_size b.row) f lt')

in_order : (a b : Numbered) → row_cmp b.row a.row ≡ Greater → IsSorted numbered_cmp (a ∷ b ∷ [])
in_order a b e zero d low high = ap (λ (o : Ordering). is_lt (ordering_then o (nat_cmp b.number a.number))) e
in_order a b e (suc k) d low high = absurd (omega (arith, high))

pub two_rows-requires-clause-sorted : goal.two_rows-requires-clause-sorted
two_rows-requires-clause-sorted c =
    let turned : row_cmp c.args.second.now.row c.args.first.now.row ≡ Greater = search rules in
    in_order c.args.first.now c.args.second.now turned

pub returns-clause-count : goal.returns-clause-count
returns-clause-count c =
    IfOk-weaker c.two_rows.result (λ part. part ≡ c.args.first.now ∷ c.args.second.now ∷ []) (λ part. length part ≡ 2) (λ part is. ap length is) c.two_rows.ensures

pub returns-clause-within : goal.returns-clause-within
returns-clause-within c =
    IfOk-weaker c.two_rows.result (λ part. part ≡ c.args.first.now ∷ c.args.second.now ∷ []) (λ part. All (IsWithin 6 9) part)
    (λ part is. subst (All (IsWithin 6 9)) (sym is) (two_within c.args.first.now c.args.second.now c.requires.first c.requires.second)) c.two_rows.ensures

pub returns-clause-small : goal.returns-clause-small
returns-clause-small c =
    IfOk-weaker c.two_rows.result (λ part. part ≡ c.args.first.now ∷ c.args.second.now ∷ []) (λ part. IsSmall part)
    (λ part is. subst (λ (rows : List Numbered). IsSmall rows) (sym is)
    (two_small c.args.first.now c.args.second.now c.row_bytes.result c.row_bytes-else-row_bytes-ge1000.result c.row_bytes.ensures c.if-row_bytes-ge1000.false c.row_bytes-else-row_bytes-ge1000.ensures c.if-row_bytes-ge1000-2.false))
    c.two_rows.ensures
