-- The page of a part of a column's cells.
use Rattle.std.proofs.Common.{◌≡◌, ℕ, ◌+◌, ◌-◌, ◌<◌, ◌≤◌, ◌^◌, Bool, List, length, drop, slice_range, sym, ap, ◌∙◌, subst, arith}
use Rattle.std.specs.Prelude.{All}
use Rattle.std.proofs.lemmas.Grind.{common_steps}
use Rattle.std.proofs.lemmas.List.Elements.{All-take, All-drop}
use Rattle.fd_kinds.specs.declared.row.Numbered.{Numbered}
use Rattle.fd_column.specs.Cells.{Column}
use Rattle.fd_pages.specs.declared.cell.Cell.{Cell}
use Rattle.fd_pages.specs.declared.cell.CellKind.{CellKind}
use Rattle.fd_pages.specs.Columns.{IsOfColumn, plain_values}
use Rattle.fd_pages.specs.Pages.{IsBody, AddsPage}
use Rattle.fd_pages.specs.declared.cell.TheConstants.{MAX_ROWS}
use Rattle.fd_table_file.specs.Columns.{kind_of, is_required, cells_of}
use Rattle.fd_table_file.specs.Chunks.{AddsPageOf}
use Rattle.fd_table_file.specs.Files.{IsSmall}
use Rattle.fd_file_writer.proofs.ChunkPages.{cells_count}
use Rattle.fd_file_writer.proofs.SizeLaws.{body_small}

-- what is known of the cells of a column
abbrev pub HaveKinds : Type 0
HaveKinds = (c : Column) (rows : List Numbered) → All (IsOfColumn (kind_of c) (is_required c)) (cells_of c rows)

-- these are the cells of so many rows of a column from a place on
pub record IsPart (rows : List Numbered) (c : Column) (from count : ℕ) (cells : List Cell) : Type 0 where
  pub within : from + count ≤ length rows
  pub are : cells ≡ slice_range (cells_of c rows) from (from + count)

range_length : {X : Type 0} (xs : List X) (from count : ℕ) → from + count ≤ length xs → length (slice_range xs from (from + count)) ≡ count
range_length xs from count within = grind (arith, common_steps)

pub all_of : {X : Type 0} (xs : List X) (n : ℕ) → length xs ≡ n → slice_range xs 0 (0 + n) ≡ xs
all_of xs n e = grind (arith, common_steps)

pub part_length : (rows : List Numbered) (c : Column) (from count : ℕ) (cells : List Cell) → IsPart rows c from count cells → length cells ≡ count
part_length rows c from count cells is =
    ap length is.are ∙ range_length (cells_of c rows) from count (omega (arith, is.within, cells_count c rows))

pub part_whole : (rows : List Numbered) (c : Column) (from count : ℕ) (cells : List Cell) → IsPart rows c from count cells → slice_range cells 0 (0 + count) ≡ slice_range (cells_of c rows) from (from + count)
part_whole rows c from count cells is = all_of cells count (part_length rows c from count cells is) ∙ is.are

pub part_column : HaveKinds → (rows : List Numbered) (c : Column) (from count : ℕ) (cells : List Cell) (kind : CellKind) (required : Bool) → kind ≡ kind_of c → required ≡ is_required c
    → IsPart rows c from count cells → All (IsOfColumn kind required) (slice_range cells 0 (0 + count))
part_column kinds rows c from count cells kind required k r is =
    let whole : slice_range cells 0 (0 + count) ≡ slice_range (cells_of c rows) from (from + count) = part_whole rows c from count cells is in
    let here : All (IsOfColumn (kind_of c) (is_required c)) (slice_range (cells_of c rows) from (from + count)) =
    All-take (IsOfColumn (kind_of c) (is_required c)) (from + count - from) (drop from (cells_of c rows)) (All-drop (IsOfColumn (kind_of c) (is_required c)) from (cells_of c rows) (kinds c rows)) in
    subst (λ (x : CellKind). All (IsOfColumn x required) (slice_range cells 0 (0 + count))) (sym k)
    (subst (λ (b : Bool). All (IsOfColumn (kind_of c) b) (slice_range cells 0 (0 + count))) (sym r)
    (subst (λ (xs : List Cell). All (IsOfColumn (kind_of c) (is_required c)) xs) (sym whole) here))

pub part_small : (rows : List Numbered) (c : Column) (from count : ℕ) (cells : List Cell) (required : Bool)
    → ((required : Bool) (cells : List Cell) (body : List ℕ) → length cells ≤ MAX_ROWS → IsBody required cells body → length body ≤ length (plain_values cells) + 3004)
    → count ≤ MAX_ROWS → IsSmall rows → IsPart rows c from count cells
    → (body : List ℕ) → IsBody required (slice_range cells 0 (0 + count)) body → length body < 2 ^ 31
part_small rows c from count cells required levels few small is body spelled =
    let whole : slice_range cells 0 (0 + count) ≡ slice_range (cells_of c rows) from (from + count) = part_whole rows c from count cells is in
    let len : length (slice_range cells 0 (0 + count)) ≡ count = ap length (all_of cells count (part_length rows c from count cells is)) ∙ part_length rows c from count cells is in
    let short : length body ≤ length (plain_values (slice_range (cells_of c rows) from (from + count))) + 3004 =
    subst (λ (xs : List Cell). length body ≤ length (plain_values xs) + 3004) whole
    (levels required (slice_range cells 0 (0 + count)) body (omega (arith, few, len)) spelled) in
    body_small c rows from (from + count) body small short

pub part_adds : (rows : List Numbered) (c : Column) (from count : ℕ) (cells : List Cell) (kind : CellKind) (required : Bool) (old new : List ℕ) → kind ≡ kind_of c → required ≡ is_required c
    → IsPart rows c from count cells → AddsPage kind required (slice_range cells 0 (0 + count)) old new → AddsPageOf rows c from count old new
part_adds rows c from count cells kind required old new k r is adds = record {
  page = subst (λ (xs : List Cell). AddsPage (kind_of c) (is_required c) xs old new) (part_whole rows c from count cells is)
      (subst (λ (b : Bool). AddsPage (kind_of c) b (slice_range cells 0 (0 + count)) old new) r
      (subst (λ (x : CellKind). AddsPage x required (slice_range cells 0 (0 + count)) old new) k adds));
}
