-- The columns of a table are those of this project's files.
use Rattle.std.proofs.Common.{◌≡◌, ℕ, true, List, [], ◌∷◌, ◌++◌, map, IsTrue, refl, codes}
use Rattle.std.specs.Prelude.{All, IsUtf8}
use Rattle.std.specs.List.{AllZip}
use Rattle.std.proofs.lemmas.Str.{is_utf8-from_IsUtf8}
use Rattle.std.proofs.lemmas.List.Elements.{All-head, All-tail}
use Rattle.fd_kinds.specs.declared.row.Numbered.{Numbered}
use Rattle.fd_column.specs.Cells.{Column, label, pprof_label, column_name, columns_of, names_in, series_pairs, pprof_pairs}
use Rattle.fd_column.proofs.NameLaws.{is_under, are_rising, rest_rises, first_under, names_rise}
use Rattle.fd_footer.specs.Layout.{are_own, are_labels_above}
use Rattle.fd_footer.specs.Contents.{have_text_names}
use Rattle.fd_table_file.specs.Columns.{file_column}
use Rattle.fd_footer.specs.declared.footer.Pages.{Pages}
use Rattle.fd_table_file.specs.Chunks.{Pieces, IsChunkOf}

pprof_rise : (last : List ℕ) (others : List (List ℕ)) → IsTrue (is_under last others) → IsTrue (are_rising others)
    → are_labels_above (codes "pprof_labels." ++ last) (map file_column (map pprof_label others)) ≡ true
pprof_rise last [] under rise = refl
pprof_rise last (o ∷ others) under rise = rw under (pprof_rise o others (first_under o others rise) (rest_rises o others rise))

series_rise : (last : List ℕ) (names others : List (List ℕ)) → IsTrue (is_under last names) → IsTrue (are_rising names) → IsTrue (are_rising others)
    → are_labels_above (codes "labels." ++ last) (map file_column (map label names ++ map pprof_label others)) ≡ true
series_rise last [] [] under rise others_rise = refl
series_rise last [] (o ∷ others) under rise others_rise = pprof_rise o others (first_under o others others_rise) (rest_rises o others others_rise)
series_rise last (m ∷ names) others under rise others_rise = rw under (series_rise m names others (first_under m names rise) (rest_rises m names rise) others_rise)

labels_rise : (names others : List (List ℕ)) → IsTrue (are_rising names) → IsTrue (are_rising others)
    → are_labels_above [] (map file_column (map label names ++ map pprof_label others)) ≡ true
labels_rise [] [] rise others_rise = refl
labels_rise [] (o ∷ others) rise others_rise = pprof_rise o others (first_under o others others_rise) (rest_rises o others others_rise)
labels_rise (m ∷ names) others rise others_rise = series_rise m names others (first_under m names rise) (rest_rises m names rise) others_rise

pub columns_own : (rows : List Numbered) → are_own (map file_column (columns_of rows)) ≡ true
unfolding are_own
columns_own rows = labels_rise (names_in (series_pairs rows)) (names_in (pprof_pairs rows)) (names_rise (series_pairs rows)) (names_rise (pprof_pairs rows))

text_names : (cs : List Column) → All IsUtf8 (map column_name cs) → have_text_names (map file_column cs) ≡ true
text_names [] all = refl
text_names (c ∷ cs) all = rw (is_utf8-from_IsUtf8 (column_name c) (All-head IsUtf8 (column_name c) (map column_name cs) all)) (text_names cs (All-tail IsUtf8 (column_name c) (map column_name cs) all))

-- the names of columns that are UTF-8
pub names_are_texts : (rows : List Numbered) → All IsUtf8 (map column_name (columns_of rows)) → have_text_names (map file_column (columns_of rows)) ≡ true
names_are_texts rows all = text_names (columns_of rows) all

chunk_names : (pages : Pages) (rows : List Numbered) (cs : List Column) (chunks : List Pieces) → AllZip (IsChunkOf pages rows) cs chunks → have_text_names (map file_column cs) ≡ true
chunk_names pages rows [] [] are = refl
chunk_names pages rows [] (x ∷ xs) are = refl
chunk_names pages rows (c ∷ cs) [] are = absurd are
chunk_names pages rows (c ∷ cs) (x ∷ xs) are =
    let first : IsChunkOf pages rows c x = are.0 in
    rw (is_utf8-from_IsUtf8 (column_name c) first.name) (chunk_names pages rows cs xs are.1)

-- the names of columns that have chunks
pub chunked_names : (pages : Pages) (rows : List Numbered) (chunks : List Pieces) → AllZip (IsChunkOf pages rows) (columns_of rows) chunks → have_text_names (map file_column (columns_of rows)) ≡ true
chunked_names pages rows chunks are = chunk_names pages rows (columns_of rows) chunks are
