-- Rows that are built one after the other from their cells.
use Rattle.std.proofs.Common.{◌≡◌, ℕ, zero, suc, ◌+◌, ◌-◌, ◌<◌, ◌≤◌, Bool, false, pos, List, [], ◌∷◌, ◌++◌, length, take, get_or, refl, sym, ap, ◌∙◌, subst, arith, length-append}
use Rattle.std.specs.Prelude.{Some, IsSorted, slice_get}
use Rattle.std.specs.Ordering.{is_lt}
use Rattle.std.proofs.lemmas.List.{take_more, take_all}
use Rattle.std.proofs.lemmas.List.Kept.{IsSortedBy-push}
use Rattle.std.proofs.lemmas.List.Elements.{All-nil, All-push}
use Rattle.std.proofs.lemmas.Option.{slice_get-get_or}
use Rattle.fd_kinds.specs.declared.row.Row.{Row}
use Rattle.fd_kinds.specs.declared.row.Numbered.{Numbered}
use Rattle.fd_column.specs.RowNumbers.{numbered_cmp}
use Rattle.fd_pages.specs.declared.cell.Cell.{Cell}
use Rattle.fd_footer.specs.declared.footer.Column.{Column}
use Rattle.fd_table_file.specs.Files.{IsWithin}
use Rattle.fd_parquet.specs.Stages.{AreRows, HaveTexts, BuildsRows}
use Rattle.fd_parquet.specs.Rows.{cell_in, cell_number, row_in, MayFollow}
use Rattle.fd_parquet.proofs.Injectivity.{some_is, number_is}
use Rattle.fd_parquet.proofs.RowRoundtrips.{row_back, number_back, all_there}

abbrev pub is_below : Numbered → Numbered → Bool
is_below x y = is_lt (numbered_cmp x y)

pub rows_none : (columns : List Column) (cells : List (List Cell)) (lo hi : ℕ) → BuildsRows columns cells lo hi 0 []
rows_none columns cells lo hi = record {
  counted = refl;
  within = All-nil (IsWithin lo hi);
  sorted = λ k d low lt. absurd (omega (arith, lt));
  begin = λ rows le are. refl;
}

-- ---- the row at a place

row_at : (rows : List Numbered) (at : ℕ) (d : Numbered) → at < length rows → slice_get rows at ≡ Some (get_or rows at d)
row_at rows at d lt = slice_get-get_or rows at d lt

-- the number that is read is that of the row
number_there : (columns : List Column) (cells : List (List Cell)) (lo hi at : ℕ) (rows : List Numbered) (n : Numbered) → AreRows columns cells lo hi rows → slice_get rows at ≡ Some n
    → (cell_number (cell_in cells 0 at) ≡ pos n.number) × IsWithin lo hi n
number_there columns cells lo hi at rows n are there =
    (number_back columns cells rows at n are.have there, all_there (IsWithin lo hi) rows at n are.within there)

-- the row that is built is the one there
row_there : (columns : List Column) (cells : List (List Cell)) (lo hi at : ℕ) (rows : List Numbered) (n : Numbered) (number : ℕ) (row : Row) → HaveTexts columns cells → AreRows columns cells lo hi rows
    → slice_get rows at ≡ Some n → cell_number (cell_in cells 0 at) ≡ pos number → row ≡ row_in columns cells at → record { number = number; row = row } ≡ n
row_there columns cells lo hi at rows n number row texts are there told is =
    let a : number ≡ n.number = number_is number n.number (sym told ∙ (number_there columns cells lo hi at rows n are there).0) in
    let b : row ≡ n.row = is ∙ row_back columns cells rows at n are.have texts.fit there in
    λ i. record { number = a i; row = b i }

-- a row out of the range
pub no_number : (columns : List Column) (cells : List (List Cell)) (lo hi at : ℕ) (rows : List Numbered) → at < length rows → AreRows columns cells lo hi rows
    → ((n : ℕ) → cell_number (cell_in cells 0 at) ≡ pos n → lo ≤ n → n ≤ hi → ⊥) → ⊥
no_number columns cells lo hi at [] lt are none = omega (arith, lt)
no_number columns cells lo hi at (d ∷ ds) lt are none =
    let n : Numbered = get_or (d ∷ ds) at d in
    let t = number_there columns cells lo hi at (d ∷ ds) n are (row_at (d ∷ ds) at d lt) in
    none n.number t.0 t.1.0 t.1.1

-- ---- the order of rows

-- in sorted rows each may follow the one before it
follows_in : (rows : List Numbered) (at : ℕ) (n : Numbered) → at < length rows → IsSorted numbered_cmp rows → n ≡ get_or rows at n → MayFollow (slice_get (take at rows) (length (take at rows) - 1)) n
follows_in rows at n lt sorted is = by at refl
  where
    taken : (xs : List Numbered) (k : ℕ) → k ≤ length xs → length (take k xs) ≡ k
    taken xs zero le = refl
    taken [] (suc k) le = absurd (omega (arith, le))
    taken (x ∷ xs) (suc k) le = ap suc (taken xs k (omega (arith, le)))

    there : (xs : List Numbered) (j i : ℕ) → i < j → slice_get (take j xs) i ≡ slice_get xs i
    there xs zero i lt = absurd (omega (arith, lt))
    there [] (suc j) i lt = refl
    there (x ∷ xs) (suc j) zero lt = refl
    there (x ∷ xs) (suc j) (suc i) lt = there xs j i (omega (arith, lt))

    by : (k : ℕ) → at ≡ k → MayFollow (slice_get (take at rows) (length (take at rows) - 1)) n
    by zero e = subst (λ j. MayFollow (slice_get (take j rows) (length (take j rows) - 1)) n) (sym e) tt
    by (suc k) e =
        let len : length (take at rows) - 1 ≡ k = omega (arith, e, taken rows at (omega (arith, lt))) in
        let here : slice_get (take at rows) (length (take at rows) - 1) ≡ Some (get_or rows k n) =
        ap (λ i. slice_get (take at rows) i) len ∙ there rows at k (omega (arith, e)) ∙ slice_get-get_or rows k n (omega (arith, e, lt)) in
        let next : k + 1 ≡ at = omega (arith, e) in
        let below : is_below (get_or rows (k + 1) n) (get_or rows k n) ≡ false = sorted k n (omega arith) (omega (arith, e, lt)) in
        subst (λ o. MayFollow o n) (sym here) (ap (λ x. is_below x (get_or rows k n)) (is ∙ ap (λ i. get_or rows i n) (sym next)) ∙ below)

-- a row that may not follow the last one
pub no_order : (columns : List Column) (cells : List (List Cell)) (lo hi at : ℕ) (built : List Numbered) (next : Numbered) (rows : List Numbered)
    → BuildsRows columns cells lo hi at built → HaveTexts columns cells → at < length rows → AreRows columns cells lo hi rows
    → cell_number (cell_in cells 0 at) ≡ pos next.number → next.row ≡ row_in columns cells at → (MayFollow (slice_get built (length built - 1)) next → ⊥) → ⊥
no_order columns cells lo hi at built next [] builds texts lt are told is none = omega (arith, lt)
no_order columns cells lo hi at built next (d ∷ ds) builds texts lt are told is none =
    let rows : List Numbered = d ∷ ds in
    let n : Numbered = get_or rows at d in
    let same : next ≡ n = row_there columns cells lo hi at rows n next.number next.row texts are (row_at rows at d lt) told is in
    let n_is : n ≡ get_or rows at n = get_or_from rows at d n lt in
    let b : built ≡ take at rows = builds.begin rows (omega (arith, lt)) are in
    let f : MayFollow (slice_get (take at rows) (length (take at rows) - 1)) n = follows_in rows at n lt are.sorted n_is in
    none (subst (λ x. MayFollow (slice_get built (length built - 1)) x) (sym same) (subst (λ xs. MayFollow (slice_get xs (length xs - 1)) n) (sym b) f))
  where
    get_or_from : (xs : List Numbered) (k : ℕ) (d e : Numbered) → k < length xs → get_or xs k d ≡ get_or xs k e
    get_or_from xs k d e lt = some_is (get_or xs k d) (get_or xs k e) (sym (slice_get-get_or xs k d lt) ∙ slice_get-get_or xs k e lt)

-- ---- one more row

follows_all : (built : List Numbered) (n : Numbered) → MayFollow (slice_get built (length built - 1)) n → (d : Numbered) → 0 < length built → is_below n (get_or built (length built - 1) d) ≡ false
follows_all built n follows d some =
    subst (λ o. MayFollow o n) (slice_get-get_or built (length built - 1) d (omega (arith, some))) follows

pub rows_more : (columns : List Column) (cells : List (List Cell)) (lo hi at : ℕ) (built newer : List Numbered) (n : Numbered)
    → BuildsRows columns cells lo hi at built → HaveTexts columns cells
    → cell_number (cell_in cells 0 at) ≡ pos n.number → IsWithin lo hi n → n.row ≡ row_in columns cells at → MayFollow (slice_get built (length built - 1)) n → newer ≡ built ++ n ∷ []
    → BuildsRows columns cells lo hi (at + 1) newer
rows_more columns cells lo hi at built newer n builds texts told within is follows pushed =
    subst (λ xs. BuildsRows columns cells lo hi (at + 1) xs) (sym pushed) (record {
      counted = length-append built (n ∷ []) ∙ ap (λ k. k + 1) builds.counted;
      within = All-push (IsWithin lo hi) built n builds.within within;
      sorted = IsSortedBy-push is_below built n builds.sorted (follows_all built n follows);
      begin = λ rows le are.
          let lt : at < length rows = omega (arith, le) in
          let same : n ≡ get_or rows at n = row_there columns cells lo hi at rows (get_or rows at n) n.number n.row texts are (row_at rows at n lt) told is in
          ap (λ xs. xs ++ n ∷ []) (builds.begin rows (omega (arith, le)) are) ∙ ap (λ x. take at rows ++ x ∷ []) same ∙ sym (take_more rows at n lt);
    })

pub rows_all : (columns : List Column) (cells : List (List Cell)) (lo hi at : ℕ) (built : List Numbered) (rows : List Numbered)
    → BuildsRows columns cells lo hi at built → length rows ≡ at → AreRows columns cells lo hi rows → built ≡ rows
rows_all columns cells lo hi at built rows builds counted are =
    builds.begin rows (omega (arith, counted)) are ∙ take_all at rows (omega (arith, counted))
