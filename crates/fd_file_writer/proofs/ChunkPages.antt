-- Pages, one behind the other, become the data pages of a column.
use Rattle.std.proofs.Common.{◌≡◌, ℕ, ◌+◌, ◌-◌, ◌<◌, ◌≤◌, List, [], ◌∷◌, ◌++◌, length, drop, min, slice_range, refl, sym, ap, ◌∙◌, subst, append_assoc, arith}
use Rattle.std.proofs.lemmas.Grind.{common_steps}
use Rattle.std.proofs.lemmas.List.{append-nil, length-map}
use Rattle.std.proofs.lemmas.List.Folds.{drop_split}
use Rattle.fd_kinds.specs.declared.row.Numbered.{Numbered}
use Rattle.fd_column.specs.Cells.{Column, cell_of}
use Rattle.fd_pages.specs.declared.cell.Cell.{Cell}
use Rattle.fd_table_file.specs.Columns.{kind_of, is_required, file_cell, cells_of}
use Rattle.fd_table_file.specs.Chunks.{AreValuePages, AddsPageOf, AddsPagesOf, Continues}

pub cells_count : (c : Column) (rows : List Numbered) → length (cells_of c rows) ≡ length rows
unfolding cells_of
cells_count c rows = length-map rows (λ n. file_cell (cell_of c n))

pub continues_none : (rows : List Numbered) (c : Column) (out : List ℕ) → Continues rows c 0 out out
continues_none rows c out = record {
  written = [];
  whole = sym (append-nil out);
  goes = λ rest is. is;
}

cells_left : (cells : List Cell) (from size : ℕ) → from + size ≤ length cells → drop from cells ≡ slice_range cells from (from + size) ++ drop (from + size) cells
cells_left cells from size within = drop_split cells from (from + size) (omega arith)

none_left : (cells : List Cell) (from size : ℕ) → size ≡ min (length cells - from) 1000 → length (slice_range cells from (from + size)) < 1000 → drop (from + size) cells ≡ []
none_left cells from size is few = grind (arith, common_steps)

pub continues_more : (rows : List Numbered) (c : Column) (from size : ℕ) (old new newer : List ℕ)
    → from + size ≤ length (cells_of c rows) → size ≡ min (length (cells_of c rows) - from) 1000
    → Continues rows c from old new → AddsPageOf rows c from size new newer → Continues rows c (from + size) old newer
continues_more rows c from size old new newer within is so_far adds =
    let cells : List Cell = cells_of c rows in
    let part : List Cell = slice_range cells from (from + size) in
    record {
      written = so_far.written ++ adds.page.0;
      whole = adds.page.2 ∙ ap (λ out. out ++ adds.page.0) so_far.whole ∙ append_assoc old so_far.written adds.page.0;
      goes = λ rest chunk. subst (λ bytes. AreValuePages (kind_of c) (is_required c) cells bytes) (sym (append_assoc so_far.written adds.page.0 rest)) (so_far.goes (adds.page.0 ++ rest) (record {
        pages = part ∷ chunk.pages;
        spelled = (drop (from + size) cells, adds.page.0, rest, cells_left cells from size within, refl, adds.page.1, none_left cells from size is, chunk.spelled);
      }));
    }

pub continues_all : (rows : List Numbered) (c : Column) (from : ℕ) (old new : List ℕ) → length (cells_of c rows) ≤ from → Continues rows c from old new → AddsPagesOf rows c old new
continues_all rows c from old new all so_far =
    let cells : List Cell = cells_of c rows in
    record {
      bytes = so_far.written;
      are = subst (λ bytes. AreValuePages (kind_of c) (is_required c) cells bytes) (append-nil so_far.written) (so_far.goes [] (record { pages = []; spelled = (grind (arith, common_steps), refl) }));
      whole = so_far.whole;
    }
