-- The lengths of values, and values one after another.
use Rattle.std.proofs.Common.{◌≡◌, ℕ, zero, suc, ◌+◌, ◌^◌, ◌<◌, ◌≤◌, List, [], ◌∷◌, ◌++◌, length, get_or, take, map, sym, ap, ◌∙◌, arith}
use Rattle.std.proofs.lemmas.List.{length-append, take_more, flat_map_more}
use Rattle.std.specs.List.{AllByRecursion}
use Rattle.fd_pages.specs.declared.cell.Cell.{Cell}
use Rattle.fd_pages.specs.declared.cell.Cell.TheVariants.{Absent, Whole, Bytes}
use Rattle.fd_pages.specs.Columns.{sized, plain, plain_values, level}

-- a value is no longer than all of the values
pub value_within : (cells : List Cell) (k : ℕ) (d : Cell) → k < length cells → length (plain (get_or cells k d)) ≤ length (plain_values cells)
value_within [] k d lt = absurd (omega arith)
value_within (cell ∷ cells) zero d lt = omega (arith, length-append (plain cell) (plain_values cells))
value_within (cell ∷ cells) (suc k) d lt =
    let before : length (plain (get_or cells k d)) ≤ length (plain_values cells) = value_within cells k d (omega (arith, lt)) in
    omega (arith, length-append (plain cell) (plain_values cells), before)

-- one more value behind the values of the first k cells
pub one_more : (cells : List Cell) (k : ℕ) (d : Cell) → k < length cells → plain_values (take k cells) ++ plain (get_or cells k d) ≡ plain_values (take (k + 1) cells)
one_more cells k d lt = flat_map_more plain [] (take k cells) (get_or cells k d) ∙ ap plain_values (sym (take_more cells k d lt))

-- a level has one bit
pub levels_fit : (cells : List Cell) → AllByRecursion (λ v. v < 2 ^ 1) (map level cells)
levels_fit [] = tt
levels_fit (Absent ∷ cells) = (omega arith, levels_fit cells)
levels_fit (Whole number ∷ cells) = (omega arith, levels_fit cells)
levels_fit (Bytes bytes ∷ cells) = (omega arith, levels_fit cells)

-- the lengths of an optional column's levels and values are those of its body at most
pub parts_within : (runs values : List ℕ) (n : ℕ) → length (sized runs ++ values) < n → (length runs < n) × (length values < n)
parts_within runs values n lt =
    let e : length (sized runs ++ values) ≡ 4 + length runs + length values = omega (arith, length-append (sized runs) values) in
    (omega arith, omega arith)
