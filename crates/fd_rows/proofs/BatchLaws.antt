-- Rows have one batch: rows in the row order are told by how often each row stands among them.
use Rattle.std.proofs.Common.{◌≡◌, ℕ, suc, ◌+◌, ◌<◌, Bool, true, false, List, [], ◌∷◌, refl, sym, ap, ◌∙◌, subst, arith, IsPermutation, true≢false}
use Rattle.std.specs.Prelude.{slice_index_or, IsSorted}
use Rattle.std.specs.List.{sum_by}
use Rattle.std.specs.Ordering.{is_lt, ordering_reverse}
use Rattle.std.specs.Cmp.{IsTotalOrder}
use Rattle.std.specs.declared.cmp.Ordering.{Ordering}
use Rattle.std.specs.declared.cmp.Ordering.TheVariants.{Less, Equal, Greater}
use Rattle.std.proofs.lemmas.List.Sums.{sum_by-cons}
use Rattle.std.proofs.lemmas.List.Sorted.{sum_by-IsPermutation}
use Rattle.std.proofs.Props.{props}
use mathlib.Core.HLevel.{Σ_prop_path}
use Rattle.fd_kinds.specs.declared.row.Row.{Row}
use Rattle.fd_kinds.specs.declared.batch.Batch.{Batch}
use Rattle.fd_kinds.specs.RowOrder.{row_cmp}

abbrev tie : Ordering → ℕ
tie Less = 0
tie Equal = 1
tie Greater = 0

abbrev count : Row → List Row → ℕ
count row [] = 0
count row (r ∷ rs) = tie (row_cmp row r) + count row rs

counted : (row : Row) (rows : List Row) → sum_by (λ r. tie (row_cmp row r)) rows ≡ count row rows
counted row [] = refl
counted row (r ∷ rs) = sum_by-cons (λ r. tie (row_cmp row r)) r rs ∙ ap (λ n. tie (row_cmp row r) + n) (counted row rs)

same_count : (row : Row) (xs ys : List Row) → IsPermutation xs ys → count row ys ≡ count row xs
same_count row xs ys same = sym (counted row ys) ∙ sum_by-IsPermutation (λ r. tie (row_cmp row r)) xs ys same ∙ counted row xs

later : (row : Row) (rows : List Row) → IsSorted row_cmp (row ∷ rows) → IsSorted row_cmp rows
later row rows sorted k d low inside =
    let next : suc k + 1 ≡ suc (k + 1) = omega arith in
    subst (λ (n : ℕ). is_lt (row_cmp (slice_index_or (row ∷ rows) n d) (slice_index_or (row ∷ rows) (suc k) d)) ≡ false) next (sorted (suc k) d (omega arith) (omega (arith, inside)))

less_of : (o : Ordering) → is_lt o ≡ true → o ≡ Less
less_of Less is = refl
less_of Equal is = absurd (true≢false (sym is))
less_of Greater is = absurd (true≢false (sym is))

equal_of : (o : Ordering) → is_lt o ≡ false → is_lt (ordering_reverse o) ≡ false → o ≡ Equal
equal_of Less is turned = absurd (true≢false is)
equal_of Equal is turned = refl
equal_of Greater is turned = absurd (true≢false turned)

turned_same : (o : Ordering) → o ≡ ordering_reverse o → o ≡ Equal
turned_same Less is = cc
turned_same Equal is = refl
turned_same Greater is = cc

others : (x y : Row) (xs ys : List Row) → x ≡ y → ((row : Row) → count row (x ∷ xs) ≡ count row (y ∷ ys)) → (row : Row) → count row xs ≡ count row ys
others x y xs ys first same row =
    let one : tie (row_cmp row x) ≡ tie (row_cmp row y) = ap (λ r. tie (row_cmp row r)) first in
    omega (arith, one, same row)

module _ (total : IsTotalOrder row_cmp) (exact : (a b : Row) → row_cmp a b ≡ Equal → a ≡ b) where
  tied : (x y : Row) → is_lt (row_cmp x y) ≡ false → is_lt (row_cmp y x) ≡ false → x ≡ y
  tied x y less more = exact x y (equal_of (row_cmp x y) less (ap is_lt (sym (total.antisymm y x)) ∙ more))

  between_by : (x y z : Row) (o : Ordering) → row_cmp z x ≡ o → is_lt o ≡ false → row_cmp z y ≡ Less → row_cmp x y ≡ Less
  between_by x y z Less is over less = absurd (true≢false over)
  between_by x y z Equal is over less = sym (total.congr z x y is) ∙ less
  between_by x y z Greater is over less = total.trans x z y (total.antisymm x z ∙ ap ordering_reverse is) less

  -- it stands itself among the rows that it is the first of
  counts_first : (row : Row) (rows : List Row) → count row (row ∷ rows) ≡ 1 + count row rows
  counts_first row rows = ap (λ o. tie o + count row rows) (turned_same (row_cmp row row) (total.antisymm row row))

  -- none of the rows in order stands in front of the first
  in_front_by : (x y : Row) (rest : List Row) (o : Ordering) → row_cmp x y ≡ o → IsSorted row_cmp (y ∷ rest) → 0 < tie o + count x rest → is_lt o ≡ false
  in_front_by x y rest Equal is sorted some = refl
  in_front_by x y rest Greater is sorted some = refl
  in_front_by x y [] Less is sorted some = absurd (omega (arith, some))
  in_front_by x y (z ∷ zs) Less is sorted some =
      let low : is_lt (row_cmp z y) ≡ false = sorted 0 y (omega arith) (omega arith) in
      let high : is_lt (row_cmp x z) ≡ false = in_front_by x z zs (row_cmp x z) refl (later y (z ∷ zs) sorted) (omega (arith, some)) in
      absurd (true≢false (sym (ap is_lt (between_by z y x (row_cmp x z) refl high is)) ∙ low))

  one_order : (xs ys : List Row) → IsSorted row_cmp xs → IsSorted row_cmp ys → ((row : Row) → count row xs ≡ count row ys) → xs ≡ ys
  one_order [] [] xs_sorted ys_sorted same = refl
  one_order [] (y ∷ ys) xs_sorted ys_sorted same = absurd (omega (arith, same y, counts_first y ys))
  one_order (x ∷ xs) [] xs_sorted ys_sorted same = absurd (omega (arith, same x, counts_first x xs))
  one_order (x ∷ xs) (y ∷ ys) xs_sorted ys_sorted same =
      let x_after : is_lt (row_cmp x y) ≡ false = in_front_by x y ys (row_cmp x y) refl ys_sorted (omega (arith, same x, counts_first x xs)) in
      let y_after : is_lt (row_cmp y x) ≡ false = in_front_by y x xs (row_cmp y x) refl xs_sorted (omega (arith, same y, counts_first y ys)) in
      let first : x ≡ y = tied x y x_after y_after in
      ap (λ r. r ∷ xs) first ∙ ap (λ rs. y ∷ rs) (one_order xs ys (later x xs xs_sorted) (later y ys ys_sorted) (others x y xs ys first same))

  pub one_batch : (rows : List Row) (a b : Batch) → IsPermutation rows a.rows → IsPermutation rows b.rows → a ≡ b
  one_batch rows a b to_a to_b =
      let same : a.rows ≡ b.rows = one_order a.rows b.rows a.sorted b.sorted (λ row. same_count row rows a.rows to_a ∙ sym (same_count row rows b.rows to_b)) in
      let both : ◌≡◌ {A = (rs : List Row) × IsSorted row_cmp rs} (a.rows, a.sorted) (b.rows, b.sorted) = Σ_prop_path (λ rs. hlevel props) same in
      λ i. record { rows = (both i).0; sorted = (both i).1 }
