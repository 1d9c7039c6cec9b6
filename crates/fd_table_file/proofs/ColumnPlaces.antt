-- The columns of a table by their places: those before a place, and one more.
use Rattle.std.proofs.Common.{◌≡◌, ℕ, ◌+◌, ◌<◌, ◌≤◌, List, [], ◌∷◌, ◌++◌, map, take, get_or, Some, slice_get, option_map, sym, ap, ◌∙◌, arith}
use Rattle.std.proofs.lemmas.List.{take_more, take_all, map-append}
use Rattle.std.proofs.lemmas.Option.{slice_get-map, slice_get_within, get_or_from_slice_get}
use Rattle.fd_kinds.specs.declared.row.Numbered.{Numbered}
use Rattle.fd_column.specs.Cells.{columns_of, column_name, column_names}
use Rattle.fd_footer.specs.declared.footer.Column.{Column as FileColumn}
use Rattle.fd_table_file.specs.Columns.{file_column, column_at, column_count}
use Rattle.fd_table_file.proofs.ColumnLaws.{column_there, names_length}

taken : {X : Type 0} (xs : List X) (k : ℕ) (x : X) → slice_get xs k ≡ Some x → take (k + 1) xs ≡ take k xs ++ x ∷ []
taken xs k x there =
    take_more xs k x (slice_get_within xs k x there) ∙ ap (λ y. take k xs ++ y ∷ []) (get_or_from_slice_get xs k x x there)

name_found : {X Y : Type 0} (f : X → Y) (xs : List X) (k : ℕ) (x : X) (d : Y) → slice_get xs k ≡ Some x → get_or (map f xs) k d ≡ f x
name_found f xs k x d there =
    get_or_from_slice_get (map f xs) k (f x) d (slice_get-map f xs k ∙ ap (λ o. option_map f o) there)

pub name_there : (rows : List Numbered) (k : ℕ) (d : List ℕ) → k < column_count rows → get_or (column_names rows) k d ≡ column_name (column_at rows k)
name_there rows k d lt = name_found column_name (columns_of rows) k (column_at rows k) d (column_there rows k lt)

pub columns_more : (rows : List Numbered) (k : ℕ) → k < column_count rows → take (k + 1) (columns_of rows) ≡ take k (columns_of rows) ++ column_at rows k ∷ []
columns_more rows k lt = taken (columns_of rows) k (column_at rows k) (column_there rows k lt)

pub columns_all : (rows : List Numbered) (k : ℕ) → column_count rows ≤ k → take k (columns_of rows) ≡ columns_of rows
unfolding column_count
columns_all rows k le = take_all k (columns_of rows) (omega (arith, le, names_length (columns_of rows)))

pub file_columns_more : (rows : List Numbered) (k : ℕ) (columns : List FileColumn) → k < column_count rows → columns ≡ map file_column (take k (columns_of rows))
    → columns ++ file_column (column_at rows k) ∷ [] ≡ map file_column (take (k + 1) (columns_of rows))
file_columns_more rows k columns lt so_far =
    ap (λ cs. cs ++ file_column (column_at rows k) ∷ []) so_far
    ∙ sym (map-append file_column (take k (columns_of rows)) (column_at rows k ∷ []))
    ∙ ap (λ cs. map file_column cs) (sym (columns_more rows k lt))

pub file_columns_all : (rows : List Numbered) (k : ℕ) (columns : List FileColumn) → column_count rows ≤ k → columns ≡ map file_column (take k (columns_of rows)) → columns ≡ map file_column (columns_of rows)
file_columns_all rows k columns le so_far = so_far ∙ ap (λ cs. map file_column cs) (columns_all rows k le)
