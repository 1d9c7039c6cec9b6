-- Rows in order stay so where they are numbered alike.
use Rattle.std.proofs.Common.{◌≡◌, ℕ, ◌+◌, ◌<◌, false, List, length, get_or, refl, sym, ap, subst, arith}
use Rattle.std.specs.Prelude.{IsSorted}
use Rattle.std.specs.declared.cmp.Ordering.{Ordering}
use Rattle.std.specs.declared.cmp.Ordering.TheVariants.{Less, Equal, Greater}
use Rattle.std.specs.Ordering.{is_lt, ordering_then, nat_cmp}
use Rattle.std.specs.Cmp.{nat_cmp_total, tied_itself}
use Rattle.std.proofs.lemmas.List.{length-map, get_or-map}
use Rattle.fd_kinds.specs.declared.row.Row.{Row}
use Rattle.fd_kinds.specs.Parts.{with_number}
use Rattle.fd_kinds.specs.RowOrder.{row_cmp}
use Rattle.fd_column.specs.RowNumbers.{numbered_cmp}

level : (n : ℕ) → is_lt (nat_cmp n n) ≡ false
level n = ap is_lt (tied_itself nat_cmp_total n)

then_level : (o p : Ordering) → is_lt p ≡ false → is_lt o ≡ false → is_lt (ordering_then o p) ≡ false
then_level Less p level h = h
then_level Equal p level h = level
then_level Greater p level h = refl

alike : (n : ℕ) (a b : Row) → is_lt (row_cmp a b) ≡ false → is_lt (numbered_cmp (record { number = n; row = a }) (record { number = n; row = b })) ≡ false
alike n a b h = then_level (row_cmp a b) (nat_cmp n n) (level n) h

pub sorted_with_number : (n : ℕ) (rows : List Row) → IsSorted row_cmp rows → IsSorted numbered_cmp (with_number n rows)
sorted_with_number n rows sorted k d low high =
    let inside : k + 1 < length rows = subst (λ count. k + 1 < count) (length-map rows (λ r. record { number = n; row = r })) high in
    subst (λ x. is_lt (numbered_cmp x (get_or (with_number n rows) k d)) ≡ false) (sym (get_or-map (λ r. record { number = n; row = r }) rows (k + 1) d.row d inside))
    (subst (λ x. is_lt (numbered_cmp (record { number = n; row = get_or rows (k + 1) d.row }) x) ≡ false) (sym (get_or-map (λ r. record { number = n; row = r }) rows k d.row d (omega (arith, inside))))
    (alike n (get_or rows (k + 1) d.row) (get_or rows k d.row) (sorted k d.row low inside)))
