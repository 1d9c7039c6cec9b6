-- What rows keep where they are given a number: all but the numbers.
use Rattle.std.proofs.Common.{◌≡◌, ◌≢◌, ℕ, zero, suc, ◌+◌, ◌<◌, false, List, [], ◌∷◌, ◌++◌, map, length, get_or, refl, sym, ◌∙◌, ap, subst, arith}
use Rattle.std.specs.Prelude.{pos, Option, Some, None, option_map, slice_get, All, IsSorted}
use Rattle.std.specs.declared.cmp.Ordering.{Ordering}
use Rattle.std.specs.declared.cmp.Ordering.TheVariants.{Less, Equal, Greater}
use Rattle.std.specs.Ordering.{is_lt, ordering_then, nat_cmp}
use Rattle.std.specs.Cmp.{nat_cmp_total, tied_itself}
use Rattle.std.proofs.lemmas.List.{length-map, get_or-map}
use Rattle.std.proofs.lemmas.Option.{slice_get-map}
use Rattle.std.proofs.lemmas.List.Elements.{All-map}
use Rattle.fd_kinds.specs.declared.pair.Pair.{Pair}
use Rattle.fd_kinds.specs.declared.row.Numbered.{Numbered}
use Rattle.fd_kinds.specs.LabelMaps.{value_of}
use Rattle.fd_kinds.specs.Parts.{with_number, rows_of}
use Rattle.fd_kinds.specs.RowOrder.{row_cmp}
use Rattle.fd_column.specs.Cells.{Column, number, name, sample_type, sample_unit, period_type, period_unit, timestamp, stack, period, duration, value, label, pprof_label, fixed_columns, columns_of, column_texts, meeting, cell_at, text_in, whole_in, names_in, series_pairs, pprof_pairs}
use Rattle.fd_column.specs.RowNumbers.{numbered_cmp, IsNumber, renumber, renumbered, IsGiven}
use Rattle.fd_column.specs.Stacks.{AreShort}
use Rattle.fd_column.specs.Texts.{HasTexts, AreTexts}
use Rattle.fd_column.proofs.CellLaws.{no_whole_behind}

-- rows that are given no number keep their own
pub own : (rows : List Numbered) → renumbered None rows ≡ rows
own [] = refl
own (r ∷ rows) = ap (λ rs. r ∷ rs) (own rows)

again : (g : Option ℕ) (k : ℕ) (rows : List Numbered) → renumbered (Some k) rows ≡ with_number k (rows_of (renumbered g rows))
again g k [] = refl
again g k (r ∷ rows) = ap (λ rs. renumber (Some k) r ∷ rs) (again g k rows)

pub numbered_is : (g : Option ℕ) (k : ℕ) (rows shown : List Numbered) → renumbered g rows ≡ shown → renumbered (Some k) rows ≡ with_number k (rows_of shown)
numbered_is g k rows shown e = again g k rows ∙ ap (λ rs. with_number k (rows_of rs)) e

pub length_kept : (g : Option ℕ) (rows shown : List Numbered) → renumbered g rows ≡ shown → length rows ≡ length shown
length_kept g rows shown e = sym (length-map rows (renumber g)) ∙ ap length e

-- the row at a place is the one that was there, with the number that was given
pub there_kept : (g : Option ℕ) (rows shown : List Numbered) (at : ℕ) → renumbered g rows ≡ shown → option_map (renumber g) (slice_get rows at) ≡ slice_get shown at
there_kept g rows shown at e = sym (slice_get-map (renumber g) rows at) ∙ ap (λ rs. slice_get rs at) e

series_kept : (g : Option ℕ) (rows : List Numbered) → series_pairs rows ≡ series_pairs (renumbered g rows)
series_kept g [] = refl
series_kept g (r ∷ rows) = ap (λ ps. r.row.labels.pairs ∷ ps) (series_kept g rows)

pprof_kept : (g : Option ℕ) (rows : List Numbered) → pprof_pairs rows ≡ pprof_pairs (renumbered g rows)
pprof_kept g [] = refl
pprof_kept g (r ∷ rows) = ap (λ ps. r.row.pprof_labels.pairs ∷ ps) (pprof_kept g rows)

abbrev columns_with : List (List Pair) → List (List Pair) → List Column
columns_with series pprof = fixed_columns ++ (map label (names_in series) ++ map pprof_label (names_in pprof))

pub columns_kept : (g : Option ℕ) (rows shown : List Numbered) → renumbered g rows ≡ shown → columns_of rows ≡ columns_of shown
columns_kept g rows shown e =
    ap (λ series. columns_with series (pprof_pairs rows)) (series_kept g rows ∙ ap series_pairs e)
    ∙ ap (λ pprof. columns_with (series_pairs shown) pprof) (pprof_kept g rows ∙ ap pprof_pairs e)

text_row : (g : Option ℕ) (o : Option Column) (n : Numbered) → text_in (meeting o (Some n)) ≡ text_in (meeting o (Some (renumber g n)))
text_row g None n = refl
text_row g (Some number) n = refl
text_row g (Some name) n = refl
text_row g (Some sample_type) n = refl
text_row g (Some sample_unit) n = refl
text_row g (Some period_type) n = refl
text_row g (Some period_unit) n = refl
text_row g (Some timestamp) n = refl
text_row g (Some stack) n = refl
text_row g (Some period) n = refl
text_row g (Some duration) n = refl
text_row g (Some value) n = refl
text_row g (Some (label l)) n = refl
text_row g (Some (pprof_label l)) n = refl

text_there : (g : Option ℕ) (o : Option Column) (there : Option Numbered) → text_in (meeting o there) ≡ text_in (meeting o (option_map (renumber g) there))
text_there g o None = refl
text_there g o (Some n) = text_row g o n

pub text_kept : (g : Option ℕ) (rows shown : List Numbered) (column at : ℕ) → renumbered g rows ≡ shown → text_in (cell_at rows column at) ≡ text_in (cell_at shown column at)
text_kept g rows shown column at e =
    ap (λ cs. text_in (meeting (slice_get cs column) (slice_get rows at))) (columns_kept g rows shown e)
    ∙ text_there g (slice_get (columns_of shown) column) (slice_get rows at)
    ∙ ap (λ o. text_in (meeting (slice_get (columns_of shown) column) o)) (there_kept g rows shown at e)

abbrev texts_of : Option Column → List Numbered → List (Option (List ℕ))
texts_of o rows = map (λ row. text_in (meeting o (Some row))) rows

texts_there : (g : Option ℕ) (o : Option Column) (rows : List Numbered) → texts_of o rows ≡ texts_of o (renumbered g rows)
texts_there g o [] = refl
texts_there g o (r ∷ rows) =
    ap (λ t. t ∷ texts_of o rows) (text_row g o r)
    ∙ ap (λ ts. text_in (meeting o (Some (renumber g r))) ∷ ts) (texts_there g o rows)

pub texts_kept : (g : Option ℕ) (rows shown : List Numbered) (column : ℕ) → renumbered g rows ≡ shown → column_texts rows column ≡ column_texts shown column
texts_kept g rows shown column e =
    ap (λ cs. texts_of (slice_get cs column) rows) (columns_kept g rows shown e)
    ∙ texts_there g (slice_get (columns_of shown) column) rows
    ∙ ap (texts_of (slice_get (columns_of shown) column)) e

-- a column behind that of the numbers
whole_row : (g : Option ℕ) (series pprof : List (List Pair)) (column : ℕ) (n : Numbered) → whole_in (meeting (slice_get (columns_with series pprof) (suc column)) (Some n)) ≡ whole_in (meeting (slice_get (columns_with series pprof) (suc column)) (Some (renumber g n)))
whole_row g series pprof zero n = refl
whole_row g series pprof (suc zero) n = refl
whole_row g series pprof (suc (suc zero)) n = refl
whole_row g series pprof (suc (suc (suc zero))) n = refl
whole_row g series pprof (suc (suc (suc (suc zero)))) n = refl
whole_row g series pprof (suc (suc (suc (suc (suc zero))))) n = refl
whole_row g series pprof (suc (suc (suc (suc (suc (suc zero)))))) n = refl
whole_row g series pprof (suc (suc (suc (suc (suc (suc (suc zero))))))) n = refl
whole_row g series pprof (suc (suc (suc (suc (suc (suc (suc (suc zero)))))))) n = refl
whole_row g series pprof (suc (suc (suc (suc (suc (suc (suc (suc (suc zero))))))))) n = refl
whole_row g series pprof (suc (suc (suc (suc (suc (suc (suc (suc (suc (suc column)))))))))) n =
    no_whole_behind (names_in series) (names_in pprof) column (Some n)
    ∙ sym (no_whole_behind (names_in series) (names_in pprof) column (Some (renumber g n)))

whole_there : (g : Option ℕ) (series pprof : List (List Pair)) (column : ℕ) (there : Option Numbered) → column ≢ 0 → whole_in (meeting (slice_get (columns_with series pprof) column) there) ≡ whole_in (meeting (slice_get (columns_with series pprof) column) (option_map (renumber g) there))
whole_there g series pprof zero there h = absurd (h refl)
whole_there g series pprof (suc column) None h = refl
whole_there g series pprof (suc column) (Some n) h = whole_row g series pprof column n

pub whole_kept : (g : Option ℕ) (rows shown : List Numbered) (column at : ℕ) → renumbered g rows ≡ shown → column ≢ 0 → whole_in (cell_at rows column at) ≡ whole_in (cell_at shown column at)
whole_kept g rows shown column at e h =
    ap (λ cs. whole_in (meeting (slice_get cs column) (slice_get rows at))) (columns_kept g rows shown e)
    ∙ whole_there g (series_pairs shown) (pprof_pairs shown) column (slice_get rows at) h
    ∙ ap (λ o. whole_in (meeting (slice_get (columns_of shown) column) o)) (there_kept g rows shown at e)

pub whole_own : (rows shown : List Numbered) (column at : ℕ) → renumbered None rows ≡ shown → whole_in (cell_at rows column at) ≡ whole_in (cell_at shown column at)
whole_own rows shown column at e = ap (λ rs. whole_in (cell_at rs column at)) (sym (own rows) ∙ e)

given_there : (k : ℕ) (rows : List Numbered) (at : ℕ) → at < length rows → Some (pos k) ≡ whole_in (meeting (Some number) (slice_get (renumbered (Some k) rows) at))
given_there k [] at h = absurd (omega (arith, h))
given_there k (r ∷ rows) zero h = refl
given_there k (r ∷ rows) (suc at) h = given_there k rows at (omega (arith, h))

-- the number that was given is that of each row
pub whole_given : (k : ℕ) (rows shown : List Numbered) (column at : ℕ) → renumbered (Some k) rows ≡ shown → column ≡ 0 → at < length shown → Some (pos k) ≡ whole_in (cell_at shown column at)
whole_given k rows shown column at e first h =
    given_there k rows at (rw (length_kept (Some k) rows shown e) h)
    ∙ ap (λ rs. whole_in (meeting (Some number) (slice_get rs at))) e
    ∙ sym (ap (λ c. whole_in (cell_at shown c at)) first)

level : (k : ℕ) → is_lt (nat_cmp k k) ≡ false
level k = ap is_lt (tied_itself nat_cmp_total k)

then_level : (o p q : Ordering) → is_lt q ≡ false → is_lt (ordering_then o p) ≡ false → is_lt (ordering_then o q) ≡ false
then_level Less p q level h = h
then_level Equal p q level h = level
then_level Greater p q level h = refl

below_kept : (g : Option ℕ) (a b : Numbered) → is_lt (numbered_cmp a b) ≡ false → is_lt (numbered_cmp (renumber g a) (renumber g b)) ≡ false
below_kept None a b h = h
below_kept (Some k) a b h = then_level (row_cmp a.row b.row) (nat_cmp a.number b.number) (nat_cmp k k) (level k) h

in_order_kept : (g : Option ℕ) (rows : List Numbered) → IsSorted numbered_cmp rows → IsSorted numbered_cmp (renumbered g rows)
in_order_kept g rows sorted k d low high =
    let inside : k + 1 < length rows = subst (λ n. k + 1 < n) (length-map rows (renumber g)) high in
    subst (λ x. is_lt (numbered_cmp x (get_or (renumbered g rows) k d)) ≡ false) (sym (get_or-map (renumber g) rows (k + 1) d d inside))
    (subst (λ x. is_lt (numbered_cmp (renumber g (get_or rows (k + 1) d)) x) ≡ false) (sym (get_or-map (renumber g) rows k d d (omega (arith, inside))))
    (below_kept g (get_or rows (k + 1) d) (get_or rows k d) (sorted k d low inside)))

pub sorted_kept : (g : Option ℕ) (rows shown : List Numbered) → renumbered g rows ≡ shown → IsSorted numbered_cmp rows → IsSorted numbered_cmp shown
sorted_kept g rows shown e sorted = subst (λ rs. IsSorted numbered_cmp rs) e (in_order_kept g rows sorted)

small : (g : Option ℕ) (n : Numbered) → IsGiven g → IsNumber n → IsNumber (renumber g n)
small None n given h = h
small (Some k) n given h = given

pub numbers_kept : (g : Option ℕ) (rows shown : List Numbered) → renumbered g rows ≡ shown → IsGiven g → All IsNumber rows → All IsNumber shown
numbers_kept g rows shown e given all =
    subst (λ rs. All IsNumber rs) e (All-map IsNumber (renumber g) rows (λ k d inside. small g (get_or rows k d) given (all k d inside)))

pub short_kept : (g : Option ℕ) (rows shown : List Numbered) → renumbered g rows ≡ shown → All (λ n. AreShort n.row.stack) rows → All (λ n. AreShort n.row.stack) shown
short_kept g rows shown e all =
    subst (λ rs. All (λ n. AreShort n.row.stack) rs) e (All-map (λ n. AreShort n.row.stack) (renumber g) rows all)

pub utf8_kept : (g : Option ℕ) (rows shown : List Numbered) → renumbered g rows ≡ shown → AreTexts rows → AreTexts shown
utf8_kept g rows shown e all =
    subst AreTexts e (All-map (λ n. HasTexts n.row) (renumber g) rows all)

pub unlabelled_kept : (l : List ℕ) (g : Option ℕ) (rows shown : List Numbered) → renumbered g rows ≡ shown → All (λ n. value_of n.row.labels.pairs l ≡ None) rows → All (λ n. value_of n.row.labels.pairs l ≡ None) shown
unlabelled_kept l g rows shown e all =
    subst (λ rs. All (λ n. value_of n.row.labels.pairs l ≡ None) rs) e (All-map (λ n. value_of n.row.labels.pairs l ≡ None) (renumber g) rows all)
