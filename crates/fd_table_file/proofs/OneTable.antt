-- Tables whose files have the same columns and chunks are the same. What a chunk is stays open.
use Rattle.std.proofs.Common.{◌≡◌, ℕ, ◌==◌, Bool, true, false, if◌then◌else◌, List, [], ◌∷◌, length, map, refl, sym, ap, ◌∙◌, subst, rules}
use Rattle.std.specs.Prelude.{All}
use Rattle.std.specs.List.{AllZip}
use Rattle.fd_kinds.specs.declared.row.Numbered.{Numbered}
use Rattle.fd_column.specs.Cells.{Column, columns_of}
use Rattle.fd_pages.specs.Columns.{Fits}
use Rattle.fd_footer.specs.declared.footer.Chunk.{Chunk}
use Rattle.fd_table_file.specs.Columns.{file_column, cells_of}
use Rattle.fd_table_file.proofs.ColumnLaws.{cells_length}
use Rattle.fd_table_file.proofs.CellRoundtrips.{AllSame, same_columns, same_rows}

-- columns have one list of chunks where each has one
pub one_list : {X : Type 0} (Of : Column → X → Type 0) → ((c : Column) (x y : X) → Of c x → Of c y → x ≡ y) → (cs : List Column) (xs ys : List X) → AllZip Of cs xs → AllZip Of cs ys → xs ≡ ys
one_list Of one [] [] [] h g = refl
one_list Of one [] [] (y ∷ ys) h g = absurd g
one_list Of one [] (x ∷ xs) ys h g = absurd h
one_list Of one (c ∷ cs) [] ys h g = absurd h
one_list Of one (c ∷ cs) (x ∷ xs) [] h g = absurd g
one_list Of one (c ∷ cs) (x ∷ xs) (y ∷ ys) h g =
    let first = one c x y h.0 g.0 in
    let others = one_list Of one cs xs ys h.1 g.1 in
    λ i. first i ∷ others i

-- the cells of these columns fit their lengths
abbrev AllFit : List Numbered → List Column → Type 0
AllFit rows [] = Unit {0}
AllFit rows (c ∷ cs) = All Fits (cells_of c rows) × AllFit rows cs

-- the parts of a footer that tell the table
pub record SameFooter (rows others : List Numbered) (ks more : List Chunk) : Type 0 where
  pub counts : length rows ≡ length others
  pub columns : map file_column (columns_of rows) ≡ map file_column (columns_of others)
  pub places : (if length rows == 0 then [] else ks) ≡ (if length others == 0 then [] else more)

none : {X : Type 0} (xs : List X) → (length xs == 0) ≡ true → xs ≡ []
none [] e = refl
none (x ∷ xs) e = absurd (search (rules, e))

-- the cells of each chunk fit their lengths, and are told by it
module _ {X : Type 0} (Of : List Numbered → Column → X → Type 0)
    (fits : (rows : List Numbered) (c : Column) (x : X) → Of rows c x → All Fits (cells_of c rows))
    (tells : (rows others : List Numbered) (c : Column) (x : X) → length (cells_of c rows) ≡ length (cells_of c others) → Of rows c x → Of others c x → cells_of c rows ≡ cells_of c others) where
  all_fit : (rows : List Numbered) (cs : List Column) (chunks : List X) → AllZip (Of rows) cs chunks → AllFit rows cs
  all_fit rows [] chunks h = tt
  all_fit rows (c ∷ cs) [] h = absurd h
  all_fit rows (c ∷ cs) (x ∷ xs) h = (fits rows c x h.0, all_fit rows cs xs h.1)

  all_same : (rows others : List Numbered) → length rows ≡ length others → (cs : List Column) (chunks : List X) → AllZip (Of rows) cs chunks → AllZip (Of others) cs chunks → AllSame rows others cs
  all_same rows others len [] chunks h g = tt
  all_same rows others len (c ∷ cs) [] h g = absurd h
  all_same rows others len (c ∷ cs) (x ∷ xs) h g =
      (tells rows others c x (cells_length c rows ∙ len ∙ sym (cells_length c others)) h.0 g.0, all_same rows others len cs xs h.1 g.1)

  -- rows with the same chunks
  same_from : (rows others : List Numbered) (chunks : List X) → length rows ≡ length others → map file_column (columns_of rows) ≡ map file_column (columns_of others)
      → AllZip (Of rows) (columns_of rows) chunks → AllZip (Of others) (columns_of others) chunks → rows ≡ others
  same_from rows others chunks len columns h g =
      let here : AllZip (Of others) (columns_of rows) chunks = subst (λ (cs : List Column). AllZip (Of others) cs chunks) (sym (same_columns rows others columns)) g in
      same_rows rows others len columns
      (all_same rows others len (columns_of rows) chunks h here)
      (all_fit rows (columns_of rows) chunks h).1.1.1.1.1.1.1.0
      (all_fit others (columns_of others) chunks g).1.1.1.1.1.1.1.0

  -- rows whose chunks stand in the same places of the same bytes
  pub rows_by : (places : List X → List Chunk) (bytes : List X → List ℕ) → ((xs ys : List X) → places xs ≡ places ys → bytes xs ≡ bytes ys → xs ≡ ys)
      → (rows others : List Numbered) (xs ys : List X) (empty : Bool) → (length rows == 0) ≡ empty → SameFooter rows others (places xs) (places ys) → bytes xs ≡ bytes ys
      → AllZip (Of rows) (columns_of rows) xs → AllZip (Of others) (columns_of others) ys → rows ≡ others
  rows_by places bytes once rows others xs ys true e same whole h g =
      none rows e ∙ sym (none others (ap (λ (n : ℕ). n == 0) (sym same.counts) ∙ e))
  rows_by places bytes once rows others xs ys false e same whole h g =
      let e' : (length others == 0) ≡ false = ap (λ (n : ℕ). n == 0) (sym same.counts) ∙ e in
      let placed : places xs ≡ places ys =
      ap (λ (b : Bool). if b then [] else places xs) (sym e) ∙ same.places ∙ ap (λ (b : Bool). if b then [] else places ys) e' in
      let chunks : xs ≡ ys = once xs ys placed whole in
      same_from rows others xs same.counts same.columns h (subst (λ (zs : List X). AllZip (Of others) (columns_of others) zs) (sym chunks) g)
