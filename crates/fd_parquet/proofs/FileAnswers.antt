-- What reading the columns of a file's parts answers, and what follows for their table.
use Rattle.std.proofs.Common.{◌≡◌, ◌<◌, ◌^◌, ℕ, zero, suc, pos, arith, List, [], ◌∷◌, length, map, Bool, true, false, ◌==◌, Option, Some, None, Result, Ok, Err, refl, sym, ap, ◌∙◌, subst, true≢false, rules}
use Rattle.std.specs.Prelude.{IfErr, option_map}
use Rattle.fd_kinds.specs.declared.row.Numbered.{Numbered}
use Rattle.fd_column.specs.Cells.{columns_of}
use Rattle.fd_thrift.specs.Values.{Value}
use Rattle.fd_thrift.specs.Format.{Spells}
use Rattle.fd_pages.specs.declared.cell.Cell.{Cell}
use Rattle.fd_footer.specs.declared.footer.Pages.{Pages}
use Rattle.fd_footer.specs.declared.footer.Pages.TheVariants.{Plain}
use Rattle.fd_footer.specs.declared.footer.Chunk.{Chunk}
use Rattle.fd_footer.specs.declared.footer.Footer.{Footer}
use Rattle.fd_footer.specs.declared.table.FooterTable.{FooterTable}
use Rattle.fd_footer.specs.Footers.{footer_value, footer_bytes, IsWritable}
use Rattle.fd_footer.specs.Layout.{are_own}
use Rattle.fd_footer.specs.Shapes.{has_shape}
use Rattle.fd_footer.specs.Contents.{table_of, have_text_names}
use Rattle.fd_parquet.specs.declared.fault.FileFault.{FileFault}
use Rattle.fd_parquet.specs.declared.fault.FileFault.TheVariants.{Magic, Footer as FooterFault, Schema, Page, NoMemory}
use Rattle.fd_table_file.specs.Columns.{cells_of}
use Rattle.fd_table_file.specs.Files.{places_from, footer_at}
use Rattle.fd_parquet.specs.Refusals.{IsRefused, Finds}
use Rattle.fd_parquet.specs.Stages.{HasTable, AreParts, TellsOrRefuses, told_of}
use Rattle.fd_parquet.proofs.LayoutLaws.{columns_own}
use Rattle.fd_parquet.proofs.Injectivity.{some_is, not_some}
use Rattle.fd_parquet.proofs.FileReads.{AreSpelled, parts_table, parts_tell}

-- an answer is no refusal
pub never_fails : {X : Type 0} (x : X) (k : ℕ) → IsRefused {A = X} (Page k) (Ok x) → ⊥
never_fails x k e = search (rules, e)

-- cells, their places and the bytes behind them
abbrev Parts : Type 0
Parts = (List (List Cell) × List Chunk) × List ℕ

pub rest_is : (a b : Parts) → a ≡ b → a.1 ≡ b.1
rest_is a b e = ap (λ (p : Parts). p.1) e

zero_only : (n : ℕ) → (n == 0) ≡ true → n ≡ 0
zero_only zero e = refl
zero_only (suc n) e = search (rules, e)

pub some_left : (rest : List ℕ) (b : Bool) → b ≡ (length rest == 0) → b ≡ false → rest ≡ [] → ⊥
some_left rest b is some none = true≢false (sym (ap (λ xs. length xs == 0) none) ∙ sym is ∙ some)

pub none_left : (rest : List ℕ) (b : Bool) → b ≡ (length rest == 0) → b ≡ true → rest ≡ []
none_left rest b is none = empty rest (zero_only (length rest) (sym is ∙ none))
  where
    empty : (xs : List ℕ) → length xs ≡ 0 → xs ≡ []
    empty [] e = refl
    empty (x ∷ xs) e = search (rules, e)

-- the parts of a table are those that were read
pub read_table : (body footer : List ℕ) (told : FooterTable) (rows : List Numbered) (lo hi : ℕ) (cells : List (List Cell)) (places : List Chunk) (rest : List ℕ) → told ≡ told_of Plain rows lo hi → (p : AreParts Plain body footer rows lo hi)
    → ◌≡◌ {A = Parts} ((cells, places), rest) ((map (λ c. cells_of c rows) (columns_of rows), places_from 4 p.chunks), []) → HasTable told cells places footer rows lo hi
read_table body footer told rows lo hi cells places rest is p same =
    subst (λ (q : Parts). HasTable told q.0.0 q.0.1 footer rows lo hi) (sym same) (parts_table body footer rows lo hi told is p)

pub some_table : {T Y : Type 0} (f : T → Y) (o : Option T) (t : T) (y : Y) → option_map f o ≡ Some y → o ≡ Some t → f t ≡ y
some_table f o t y e is = some_is (f t) y (ap (option_map f) (sym is) ∙ e)

pub no_table : {T Y : Type 0} (f : T → Y) (o : Option T) (y : Y) → option_map f o ≡ Some y → o ≡ None → ⊥
no_table f o y e is = not_some y (ap (option_map f) (sym is) ∙ e)

-- ---- the footer of a table is read

-- a table's footer tells its rows
pub own_tells : ((f : Footer) → has_shape (footer_value f) ≡ true)
    → ((f : Footer) → IsWritable f → have_text_names f.columns ≡ true → are_own f.columns ≡ true
    → ◌≡◌ {A = Option FooterTable} (table_of (footer_value f)) (Some (record { pages = f.pages; lo = Some f.lo; hi = Some f.hi; rows = pos f.rows; columns = f.columns })))
    → AreSpelled
    → (pages : Pages) (body footer : List ℕ) (rows : List Numbered) (lo hi : ℕ) → AreParts pages body footer rows lo hi → length footer < 2 ^ 32
    → (v : Value) × Spells footer v × (has_shape v ≡ true) × (table_of v ≡ Some (told_of pages rows lo hi))
own_tells shapes tables spells pages body footer rows lo hi p short =
    let f : Footer = footer_at pages rows lo hi (places_from 4 p.chunks) in
    let few : length (footer_bytes f) < 2 ^ 64 = omega (arith, short, ap length p.footer_is.spelled) in (
      footer_value f,
      subst (λ b. Spells b (footer_value f)) (sym p.footer_is.spelled) (spells f p.footer_is.writable few),
      shapes f,
      tables f p.footer_is.writable (parts_tell pages body footer rows lo hi p) (columns_own rows),
    )

pub told_gives : {X Y : Type 0} (see : X → Y) (v : Value) (t : FooterTable) (fault : FileFault) (y : Y) → has_shape v ≡ true → table_of v ≡ Some t → TellsOrRefuses v (Err fault) → Finds see (Err fault) y
told_gives see v t Magic y shape told r = absurd r
told_gives see v t FooterFault y shape told r = absurd (true≢false (sym shape ∙ r))
told_gives see v t Schema y shape told r = absurd (not_some t (sym r.1 ∙ told))
told_gives see v t (Page k) y shape told r = absurd r
told_gives see v t NoMemory y shape told r = tt

pub refused_whole : {X : Type 0} (result : Result X FileFault) (P Q : FileFault → Type 0) → ((fault : FileFault) → (fault ≡ NoMemory → ⊥) → P fault → Q fault) → IfErr result P → IfErr result (λ fault. (fault ≡ NoMemory → ⊥) → Q fault)
refused_whole (Ok x) P Q by f = tt
refused_whole (Err fault) P Q by f = λ some. by fault some f
