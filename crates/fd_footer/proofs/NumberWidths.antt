-- The numbers and lengths of a footer fit 64 bits, so its bytes spell it.
use Rattle.std.proofs.Common.{◌≡◌, ℕ, suc, ◌+◌, ◌<◌, ◌≤◌, ◌^◌, Bool, true, false, pos, FitsSigned, w32, w64, List, [], ◌∷◌, ◌++◌, length, map, refl, ap, arith, length-append, ◌==◌, if◌then◌else◌}
use Rattle.std.proofs.lemmas.Int.{fits_signed_from_abs}
use Rattle.fd_thrift.specs.Values.{Value, whole32, whole64, binary, list, struct, Items, no_items, item, Fields, no_fields, field}
use Rattle.fd_thrift.specs.View.{items_of}
use Rattle.fd_thrift.specs.Format.{varint, list_header, items_len, items_kind, spelling, items_spelling, fields_spelling, Fits, FitItems, FitFields, Spells, id_of}
use Rattle.fd_footer.specs.declared.footer.ColumnType.{ColumnType}
use Rattle.fd_footer.specs.declared.footer.ColumnType.TheVariants.{Int64, ByteArray}
use Rattle.fd_footer.specs.declared.footer.Column.{Column}
use Rattle.fd_footer.specs.declared.footer.Chunk.{Chunk}
use Rattle.fd_footer.specs.declared.footer.Pages.{Pages}
use Rattle.fd_footer.specs.declared.footer.Footer.{Footer}
use Rattle.fd_footer.specs.Tables.{type_number, repetition_number, column_value, root_value, number_value, encodings, meta_value, chunk_values, group_value, has_dictionary, total_size}
use Rattle.fd_footer.specs.Footers.{footer_value, footer_bytes, IsWritable, IsPlaced}
use Rattle.fd_footer.proofs.Legality.{footer_is_legal}
use Rattle.std.specs.Prelude.{All}
use Rattle.std.proofs.lemmas.List.Elements.{All-head, All-tail}

-- the numbers of a value fit their widths, and each list's size 64 bits
abbrev mutual
  FitNumbers : Value → Type 0
  FitNumbers (whole32 z) = FitsSigned w32 z
  FitNumbers (whole64 z) = FitsSigned w64 z
  FitNumbers (binary bytes) = Unit {0}
  FitNumbers (list vs) = (items_len vs < 2 ^ 64) × FitItemNumbers vs
  FitNumbers (struct fs) = FitFieldNumbers fs

  FitItemNumbers : Items → Type 0
  FitItemNumbers no_items = Unit {0}
  FitItemNumbers (item v vs) = FitNumbers v × FitItemNumbers vs

  FitFieldNumbers : Fields → Type 0
  FitFieldNumbers no_fields = Unit {0}
  FitFieldNumbers (field id v fs) = FitNumbers v × FitFieldNumbers fs

-- texts whose spelling is short are short
mutual
  fits_by_size : (v : Value) → FitNumbers v → length (spelling v) < 2 ^ 64 → Fits v
  fits_by_size (whole32 z) fit few = fit
  fits_by_size (whole64 z) fit few = fit
  fits_by_size (binary bytes) fit few = omega (arith, few, length-append (varint (length bytes)) bytes)
  fits_by_size (list vs) fit few =
      (fit.0, items_by_size vs fit.1 (omega (arith, few, length-append (list_header (items_len vs) (items_kind vs)) (items_spelling vs))))
  fits_by_size (struct fs) fit few = fields_by_size 0 fs fit few

  items_by_size : (vs : Items) → FitItemNumbers vs → length (items_spelling vs) < 2 ^ 64 → FitItems vs
  items_by_size no_items fit few = tt
  items_by_size (item v vs) fit few =
      let n : length (spelling v ++ items_spelling vs) ≡ length (spelling v) + length (items_spelling vs) = length-append (spelling v) (items_spelling vs) in
      (fits_by_size v fit.0 (omega (arith, few, n)), items_by_size vs fit.1 (omega (arith, few, n)))

  fields_by_size : (last : ℕ) (fs : Fields) → FitFieldNumbers fs → length (fields_spelling last fs) < 2 ^ 64 → FitFields fs
  fields_by_size last no_fields fit few = tt
  fields_by_size last (field id v fs) fit few =
      let n : length (spelling v ++ fields_spelling (id_of id) fs) ≡ length (spelling v) + length (fields_spelling (id_of id) fs) = length-append (spelling v) (fields_spelling (id_of id) fs) in
      (fits_by_size v fit.0 (omega (arith, few, n)), fields_by_size (id_of id) fs fit.1 (omega (arith, few, n)))

-- ---- the footer

narrow : (n : ℕ) → n < 2 ^ 31 → FitsSigned w32 (pos n)
narrow n lt = fits_signed_from_abs w32 (pos n) lt

broad : (n : ℕ) → n < 2 ^ 63 → FitsSigned w64 (pos n)
broad n lt = fits_signed_from_abs w64 (pos n) lt

type_fits : (t : ColumnType) → FitsSigned w32 (pos (type_number t))
type_fits Int64 = narrow 2 (omega arith)
type_fits ByteArray = narrow 6 (omega arith)

repetition_fits : (required : Bool) → FitsSigned w32 (pos (repetition_number required))
repetition_fits true = narrow 0 (omega arith)
repetition_fits false = narrow 1 (omega arith)

columns_fit : (cs : List Column) → FitItemNumbers (items_of (map column_value cs))
columns_fit [] = tt
columns_fit (c ∷ cs) = ((type_fits c.column_type, (repetition_fits c.required, (tt, tt))), columns_fit cs)

items_count : (vs : List Value) → items_len (items_of vs) ≡ length vs
items_count [] = refl
items_count (v ∷ vs) = ap suc (items_count vs)

columns_count : (cs : List Column) → length (map column_value cs) ≡ length cs
columns_count [] = refl
columns_count (c ∷ cs) = ap suc (columns_count cs)

encodings_fit : (required dictionary : Bool) → FitNumbers (list (items_of (map number_value (encodings required dictionary))))
encodings_fit true false = (omega arith, (narrow 0 (omega arith), tt))
encodings_fit false false = (omega arith, (narrow 0 (omega arith), (narrow 3 (omega arith), tt)))
encodings_fit true true = (omega arith, (narrow 0 (omega arith), (narrow 8 (omega arith), tt)))
encodings_fit false true = (omega arith, (narrow 0 (omega arith), (narrow 3 (omega arith), (narrow 8 (omega arith), tt))))

meta_fits : (dictionary : Bool) (rows : ℕ) (c : Column) (k : Chunk) → rows < 2 ^ 63 → k.size < 2 ^ 63 → IsPlaced k → FitNumbers (meta_value dictionary rows c k)
meta_fits true rows c k few size placed =
    (type_fits c.column_type, (encodings_fit c.required true, ((omega arith, (tt, tt)), (narrow 0 (omega arith), (broad rows few, (broad k.size size, (broad k.size size, (broad k.data_page placed.data_page, (broad k.place placed.place, tt)))))))))
meta_fits false rows c k few size placed =
    (type_fits c.column_type, (encodings_fit c.required false, ((omega arith, (tt, tt)), (narrow 0 (omega arith), (broad rows few, (broad k.size size, (broad k.size size, (broad k.data_page placed.data_page, tt))))))))

chunks_fit : (pages : Pages) (rows : ℕ) (cs : List Column) (ks : List Chunk) → rows < 2 ^ 63 → total_size ks < 2 ^ 63 → All IsPlaced ks → FitItemNumbers (items_of (chunk_values pages rows cs ks))
chunks_fit pages rows [] ks few sizes placed = tt
chunks_fit pages rows (c ∷ cs) [] few sizes placed = tt
chunks_fit pages rows (c ∷ cs) (k ∷ ks) few sizes placed =
    let here : IsPlaced k = All-head IsPlaced k ks placed in
    ((broad k.place here.place, (meta_fits (has_dictionary pages c.column_type) rows c k few (omega (arith, sizes)) here, tt)), chunks_fit pages rows cs ks few (omega (arith, sizes)) (All-tail IsPlaced k ks placed))

chunks_count : (pages : Pages) (rows : ℕ) (cs : List Column) (ks : List Chunk) → length (chunk_values pages rows cs ks) ≤ length cs
chunks_count pages rows [] ks = omega arith
chunks_count pages rows (c ∷ cs) [] = omega arith
chunks_count pages rows (c ∷ cs) (k ∷ ks) = omega (arith, chunks_count pages rows cs ks)

groups_fit : (f : Footer) (none : Bool) → IsWritable f → FitNumbers (list (items_of (if none then [] else group_value f.pages f.rows f.columns f.chunks ∷ [])))
groups_fit f true w = (omega arith, tt)
groups_fit f false w =
    let few : length f.columns < 2 ^ 31 = w.columns in
    let count : items_len (items_of (chunk_values f.pages f.rows f.columns f.chunks)) < 2 ^ 64 =
    omega (arith, few, items_count (chunk_values f.pages f.rows f.columns f.chunks), chunks_count f.pages f.rows f.columns f.chunks) in
    (omega arith, (((count, chunks_fit f.pages f.rows f.columns f.chunks w.rows w.sizes w.places), (broad (total_size f.chunks) w.sizes, (broad f.rows w.rows, tt))), tt))

footer_fits : (f : Footer) → IsWritable f → FitNumbers (footer_value f)
footer_fits f w =
    let few : length f.columns < 2 ^ 31 = w.columns in
    let count : items_len (items_of (root_value (length f.columns) ∷ map column_value f.columns)) < 2 ^ 64 =
    omega (arith, few, items_count (map column_value f.columns), columns_count f.columns) in
    (narrow 1 (omega arith), ((count, ((tt, (narrow (length f.columns) few, tt)), columns_fit f.columns)), (broad f.rows w.rows, (groups_fit f (f.rows == 0) w, ((omega arith, ((tt, (tt, tt)), ((tt, (tt, tt)), ((tt, (tt, tt)), tt)))), (tt, tt))))))

-- the bytes of a footer spell it
pub footer_spelled : (f : Footer) → IsWritable f → length (footer_bytes f) < 2 ^ 64 → Spells (footer_bytes f) (footer_value f)
unfolding footer_bytes
footer_spelled f w few = record { legal = footer_is_legal f; fits = fits_by_size (footer_value f) (footer_fits f w) few; whole = refl }
