-- Each footer's tree has the shape of a footer.
use Rattle.std.proofs.Common.{◌≡◌, ℕ, Bool, true, false, ◌==◌, List, [], ◌∷◌, map, refl, if◌then◌else◌}
use Rattle.fd_thrift.specs.View.{items_of}
use Rattle.fd_footer.specs.declared.footer.Pages.{Pages}
use Rattle.fd_footer.specs.declared.footer.Column.{Column}
use Rattle.fd_footer.specs.declared.footer.Chunk.{Chunk}
use Rattle.fd_footer.specs.declared.footer.Footer.{Footer}
use Rattle.fd_footer.specs.declared.shape.Shape.TheVariants.{Whole32, Element, RowGroup, ColumnChunk, ColumnMetaData}
use Rattle.fd_footer.specs.Shapes.{has_shape, fits, items_fit}
use Rattle.fd_footer.specs.Tables.{number_value, encodings, has_dictionary, column_value, meta_value, chunk_values, group_value}
use Rattle.fd_footer.specs.Footers.{footer_value}

numbers_fit : (ns : List ℕ) → items_fit Whole32 Whole32 (items_of (map number_value ns)) ≡ true
numbers_fit [] = refl
numbers_fit (n ∷ ns) = numbers_fit ns

columns_fit : (cs : List Column) → items_fit Element Element (items_of (map column_value cs)) ≡ true
columns_fit [] = refl
columns_fit (c ∷ cs) = columns_fit cs

meta_fits : (d : Bool) (rows : ℕ) (c : Column) (k : Chunk) → fits ColumnMetaData (meta_value d rows c k) ≡ true
meta_fits true rows c k = rw (numbers_fit (encodings c.required true)) refl
meta_fits false rows c k = rw (numbers_fit (encodings c.required false)) refl

chunks_fit : (p : Pages) (rows : ℕ) (cs : List Column) (ks : List Chunk) → items_fit ColumnChunk ColumnChunk (items_of (chunk_values p rows cs ks)) ≡ true
chunks_fit p rows [] ks = refl
chunks_fit p rows (c ∷ cs) [] = refl
chunks_fit p rows (c ∷ cs) (k ∷ ks) = rw (meta_fits (has_dictionary p c.column_type) rows c k) (chunks_fit p rows cs ks)

groups_fit : (f : Footer) (b : Bool) → items_fit RowGroup RowGroup (items_of (if b then [] else group_value f.pages f.rows f.columns f.chunks ∷ [])) ≡ true
groups_fit f true = refl
groups_fit f false = rw (chunks_fit f.pages f.rows f.columns f.chunks) refl

pub footer_shaped : (f : Footer) → has_shape (footer_value f) ≡ true
unfolding has_shape
footer_shaped f = rw (columns_fit f.columns, groups_fit f (f.rows == 0)) refl
