-- Picks, and the cells that they stand for.
use Rattle.std.proofs.Common.{◌≡◌, ℕ, zero, suc, ◌+◌, ◌^◌, ◌<◌, ◌≤◌, Bool, true, false, List, [], ◌∷◌, ◌++◌, length, map, take, drop, get_or, Some, slice_get, refl, sym, ap, subst, ◌∙◌, append_assoc, arith}
use Rattle.std.specs.Prelude.{All}
use Rattle.std.specs.List.{AllByRecursion, AllZip}
use Rattle.std.proofs.lemmas.List.{length-map, append-nil, take_more, drop_more, drop_all, flat_map_more, map_more}
use Rattle.std.proofs.lemmas.Option.{slice_get_within, slice_get-get_or}
use Rattle.std.proofs.lemmas.List.Elements.{All-from_recursion, recursion_from_All, All-more}
use Rattle.fd_pages.specs.declared.cell.CellKind.TheVariants.{Bytes as BytesKind}
use Rattle.fd_pages.specs.declared.cell.Cell.{Cell}
use Rattle.fd_pages.specs.declared.cell.Cell.TheVariants.{Absent, Whole, Bytes}
use Rattle.fd_pages.specs.Columns.{IsOfColumn, level}
use Rattle.fd_pages.specs.Dictionaries.{texts_in}
use Rattle.fd_codes.specs.Picks.{picked_cell, picked_cells, IsPick, pick_level, pick_index, pick_indexes, present, next_pick, spread}

abbrev pub AreAt : List (List ℕ) → List ℕ → List (List ℕ) → Type 0
AreAt texts indexes found = AllZip (λ index text. slice_get texts index ≡ Some text) indexes found

-- ---- from picks to cells

pub levels_same : (texts : List (List ℕ)) (picks : List ℕ) → map level (picked_cells texts picks) ≡ map pick_level picks
levels_same texts [] = refl
levels_same texts (zero ∷ picks) = ap (λ (ls : List ℕ). 0 ∷ ls) (levels_same texts picks)
levels_same texts (suc index ∷ picks) = ap (λ (ls : List ℕ). 1 ∷ ls) (levels_same texts picks)

pub texts_at : (required : Bool) (texts : List (List ℕ)) (picks : List ℕ) → AllByRecursion (IsPick required (length texts)) picks → AreAt texts (pick_indexes picks) (texts_in (picked_cells texts picks))
texts_at required texts [] h = tt
texts_at required texts (zero ∷ picks) h = texts_at required texts picks h.1
texts_at required texts (suc index ∷ picks) h = (slice_get-get_or texts index [] h.0, texts_at required texts picks h.1)

pub cells_column : (required : Bool) (size : ℕ) (texts : List (List ℕ)) (picks : List ℕ) → AllByRecursion (IsPick required size) picks → AllByRecursion (IsOfColumn BytesKind required) (picked_cells texts picks)
cells_column required size texts [] h = tt
cells_column required size texts (zero ∷ picks) h = (h.0, cells_column required size texts picks h.1)
cells_column required size texts (suc index ∷ picks) h = (tt, cells_column required size texts picks h.1)

pub levels_fit : (picks : List ℕ) → AllByRecursion (λ v. v < 2 ^ 1) (map pick_level picks)
levels_fit [] = tt
levels_fit (zero ∷ picks) = (omega arith, levels_fit picks)
levels_fit (suc index ∷ picks) = (omega arith, levels_fit picks)

pub indexes_fit : (required : Bool) (size width : ℕ) (picks : List ℕ) → size ≤ 2 ^ width → AllByRecursion (IsPick required size) picks → AllByRecursion (λ v. v < 2 ^ width) (pick_indexes picks)
indexes_fit required size width [] wide h = tt
indexes_fit required size width (zero ∷ picks) wide h = indexes_fit required size width picks wide h.1
indexes_fit required size width (suc index ∷ picks) wide h = (omega (arith, h.0, wide), indexes_fit required size width picks wide h.1)

pub indexes_few : (picks : List ℕ) → length (pick_indexes picks) ≤ length picks
indexes_few [] = omega arith
indexes_few (zero ∷ picks) = omega (arith, indexes_few picks)
indexes_few (suc index ∷ picks) = omega (arith, indexes_few picks)

-- ---- picks of cells that are there

pub there_indexes : (indexes : List ℕ) → pick_indexes (map suc indexes) ≡ indexes
there_indexes [] = refl
there_indexes (index ∷ indexes) = ap (λ (ks : List ℕ). index ∷ ks) (there_indexes indexes)

pub there_picks : (required : Bool) (size : ℕ) (indexes : List ℕ) → AllByRecursion (λ index. index < size) indexes → AllByRecursion (IsPick required size) (map suc indexes)
there_picks required size [] h = tt
there_picks required size (index ∷ indexes) h = (h.0, there_picks required size indexes h.1)

-- ---- picks of cells with levels

pub spread_levels : (levels indexes : List ℕ) → AllByRecursion (λ v. v < 2) levels → length indexes ≡ present levels → map pick_level (spread levels (map suc indexes)) ≡ levels
unfolding spread
spread_levels [] indexes small counted = refl
spread_levels (zero ∷ levels) indexes small counted = ap (λ (ls : List ℕ). 0 ∷ ls) (spread_levels levels indexes small.1 counted)
spread_levels (suc zero ∷ levels) [] small counted = absurd (omega (arith, counted))
spread_levels (suc zero ∷ levels) (index ∷ indexes) small counted = ap (λ (ls : List ℕ). 1 ∷ ls) (spread_levels levels indexes small.1 (omega (arith, counted)))
spread_levels (suc (suc v) ∷ levels) indexes small counted = absurd (omega (arith, small.0))

pub spread_indexes : (levels indexes : List ℕ) → length indexes ≡ present levels → pick_indexes (spread levels (map suc indexes)) ≡ indexes
unfolding spread
spread_indexes [] [] counted = refl
spread_indexes [] (index ∷ indexes) counted = absurd (omega (arith, counted))
spread_indexes (zero ∷ levels) indexes counted = spread_indexes levels indexes counted
spread_indexes (suc v ∷ levels) [] counted = absurd (omega (arith, counted))
spread_indexes (suc v ∷ levels) (index ∷ indexes) counted = ap (λ (ks : List ℕ). index ∷ ks) (spread_indexes levels indexes (omega (arith, counted)))

pub spread_picks : (size : ℕ) (levels indexes : List ℕ) → AllByRecursion (λ index. index < size) indexes → AllByRecursion (IsPick false size) (spread levels (map suc indexes))
unfolding spread
spread_picks size [] indexes h = tt
spread_picks size (zero ∷ levels) indexes h = (refl, spread_picks size levels indexes h)
spread_picks size (suc v ∷ levels) [] h = (refl, spread_picks size levels [] h)
spread_picks size (suc v ∷ levels) (index ∷ indexes) h = (h.0, spread_picks size levels indexes h.1)

pub spread_counted : (levels picks : List ℕ) → length (spread levels picks) ≡ length levels
unfolding spread
spread_counted [] picks = refl
spread_counted (zero ∷ levels) picks = ap suc (spread_counted levels picks)
spread_counted (suc v ∷ levels) [] = ap suc (spread_counted levels [])
spread_counted (suc v ∷ levels) (pick ∷ picks) = ap suc (spread_counted levels picks)

-- ---- from cells to picks

pub present_texts : (cells : List Cell) → AllByRecursion (IsOfColumn BytesKind false) cells → present (map level cells) ≡ length (texts_in cells)
present_texts [] column = refl
present_texts (Absent ∷ cells) column = present_texts cells column.1
present_texts (Whole n ∷ cells) column = absurd column.0
present_texts (Bytes b ∷ cells) column = omega (arith, present_texts cells column.1)

some_is : (a b : List ℕ) → Some a ≡ Some b → a ≡ b
some_is a b e = cc

picked_back : (texts : List (List ℕ)) (index : ℕ) (text : List ℕ) → slice_get texts index ≡ Some text → picked_cell texts (suc index) ≡ Bytes text
picked_back texts index text e =
    let within : index < length texts = slice_get_within texts index text e in
    ap Bytes (some_is (get_or texts index []) text (sym (slice_get-get_or texts index [] within) ∙ e))

joined : (a b : Cell) (front others : List Cell) → a ≡ b → front ≡ others → a ∷ front ≡ b ∷ others
joined a b front others e f = ap (λ (x : Cell). x ∷ front) e ∙ ap (λ (xs : List Cell). b ∷ xs) f

pub spread_back : (texts : List (List ℕ)) (cells : List Cell) (indexes : List ℕ) → AllByRecursion (IsOfColumn BytesKind false) cells → AreAt texts indexes (texts_in cells)
    → picked_cells texts (spread (map level cells) (map suc indexes)) ≡ cells
unfolding spread
spread_back texts [] indexes column at = refl
spread_back texts (Absent ∷ cells) indexes column at = ap (λ (xs : List Cell). Absent ∷ xs) (spread_back texts cells indexes column.1 at)
spread_back texts (Whole n ∷ cells) indexes column at = absurd column.0
spread_back texts (Bytes b ∷ cells) [] column at = absurd at
spread_back texts (Bytes b ∷ cells) (index ∷ indexes) column at =
    joined (picked_cell texts (suc index)) (Bytes b) (picked_cells texts (spread (map level cells) (map suc indexes))) cells (picked_back texts index b at.0) (spread_back texts cells indexes column.1 at.1)

pub there_back : (texts : List (List ℕ)) (cells : List Cell) (indexes : List ℕ) → AllByRecursion (IsOfColumn BytesKind true) cells → AreAt texts indexes (texts_in cells) → picked_cells texts (map suc indexes) ≡ cells
there_back texts [] [] column at = refl
there_back texts [] (index ∷ indexes) column at = absurd at
there_back texts (Absent ∷ cells) indexes column at = let e : true ≡ false = column.0 in absurd cc
there_back texts (Whole n ∷ cells) indexes column at = absurd column.0
there_back texts (Bytes b ∷ cells) [] column at = absurd at
there_back texts (Bytes b ∷ cells) (index ∷ indexes) column at =
    joined (picked_cell texts (suc index)) (Bytes b) (picked_cells texts (map suc indexes)) cells (picked_back texts index b at.0) (there_back texts cells indexes column.1 at.1)

pub there_texts : (cells : List Cell) → AllByRecursion (IsOfColumn BytesKind true) cells → length (texts_in cells) ≡ length cells
there_texts [] column = refl
there_texts (Absent ∷ cells) column = let e : true ≡ false = column.0 in absurd cc
there_texts (Whole n ∷ cells) column = absurd column.0
there_texts (Bytes b ∷ cells) column = omega (arith, there_texts cells column.1)

pub indexes_counted : (texts : List (List ℕ)) (indexes : List ℕ) (found : List (List ℕ)) → AreAt texts indexes found → length indexes ≡ length found
indexes_counted texts [] [] h = refl
indexes_counted texts [] (t ∷ ts) h = absurd h
indexes_counted texts (k ∷ ks) [] h = absurd h
indexes_counted texts (k ∷ ks) (t ∷ ts) h = ap suc (indexes_counted texts ks ts h.1)

pub indexes_within : (texts : List (List ℕ)) (indexes : List ℕ) (found : List (List ℕ)) → AreAt texts indexes found → AllByRecursion (λ index. index < length texts) indexes
indexes_within texts [] [] h = tt
indexes_within texts [] (t ∷ ts) h = absurd h
indexes_within texts (k ∷ ks) [] h = absurd h
indexes_within texts (k ∷ ks) (t ∷ ts) h = (slice_get_within texts k t h.0, indexes_within texts ks ts h.1)

-- ---- loops

present_push : (levels : List ℕ) (v : ℕ) → present (levels ++ v ∷ []) ≡ present levels + pick_level v
present_push [] zero = refl
present_push [] (suc v) = refl
present_push (zero ∷ levels) v = present_push levels v
present_push (suc u ∷ levels) v = omega (arith, present_push levels v)

pub present_more : (levels : List ℕ) (i : ℕ) → i < length levels → present (take (i + 1) levels) ≡ present (take i levels) + pick_level (get_or levels i 0)
present_more levels i lt = ap present (take_more levels i 0 lt) ∙ present_push (take i levels) (get_or levels i 0)

pub spread_more : (all levels : List ℕ) (i : ℕ) (left total : List ℕ) → i < length levels → all ++ spread (drop i levels) left ≡ total
    → (all ++ (next_pick (get_or levels i 0) left).0 ∷ []) ++ spread (drop (i + 1) levels) (next_pick (get_or levels i 0) left).1 ≡ total
unfolding spread
spread_more all levels i left total lt h =
    append_assoc all ((next_pick (get_or levels i 0) left).0 ∷ []) (spread (drop (i + 1) levels) (next_pick (get_or levels i 0) left).1)
    ∙ ap (λ ls. all ++ spread ls left) (sym (drop_more levels i 0 lt))
    ∙ h

pub spread_end : (all levels : List ℕ) (i : ℕ) (left total : List ℕ) → length levels ≤ i → all ++ spread (drop i levels) left ≡ total → all ≡ total
unfolding spread
spread_end all levels i left total le h = sym (append-nil all) ∙ ap (λ ls. all ++ spread ls left) (sym (drop_all i levels le)) ∙ h

pub index_more : (picks : List ℕ) (i : ℕ) → i < length picks → pick_indexes (take (i + 1) picks) ≡ pick_indexes (take i picks) ++ pick_index (get_or picks i 0)
index_more picks i lt = ap pick_indexes (take_more picks i 0 lt) ∙ sym (flat_map_more pick_index [] (take i picks) (get_or picks i 0))

pub picks_step : (picks indexes : List ℕ) (i size : ℕ) → i < length indexes → picks ≡ map suc (take i indexes) → All (λ index. index < size) (take i indexes) → get_or indexes i 0 < size
    → (picks ++ (get_or indexes i 0 + 1) ∷ [] ≡ map suc (take (i + 1) indexes)) × All (λ index. index < size) (take (i + 1) indexes)
picks_step picks indexes i size lt e all below =
    let one : get_or indexes i 0 + 1 ≡ suc (get_or indexes i 0) = omega arith in
    (ap (λ (ps : List ℕ). ps ++ (get_or indexes i 0 + 1) ∷ []) e ∙ ap (λ (n : ℕ). map suc (take i indexes) ++ n ∷ []) one ∙ sym (map_more suc indexes i 0 lt), All-more (λ index. index < size) indexes i 0 lt all below)
