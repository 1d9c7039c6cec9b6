-- Columns of rows have one chunk of each kind, and no pieces are the chunks of two lists of cells.
use Rattle.std.proofs.Common.{◌≡◌, ℕ, zero, suc, ◌+◌, ◌<◌, ◌^◌, Bool, true, false, List, [], ◌∷◌, ◌++◌, length, drop, Some, slice_get, refl, sym, ap, ◌∙◌, subst, arith, length-append}
use Rattle.std.specs.Prelude.{All}
use Rattle.std.specs.List.{AllByRecursion, AllZip, flat_map}
use Rattle.std.proofs.lemmas.List.Elements.{All-nil, All-from_recursion, recursion_from_All}
use Rattle.fd_kinds.specs.declared.row.Numbered.{Numbered}
use Rattle.fd_column.specs.Cells.{Column}
use Rattle.fd_pages.specs.declared.cell.CellKind.{CellKind}
use Rattle.fd_pages.specs.declared.cell.CellKind.TheVariants.{Bytes as BytesKind}
use Rattle.fd_pages.specs.declared.cell.Cell.{Cell}
use Rattle.fd_pages.specs.declared.cell.Cell.TheVariants.{Absent, Whole, Bytes}
use Rattle.fd_pages.specs.Columns.{IsOfColumn, Fits}
use Rattle.fd_pages.specs.Dictionaries.{AreRising, IsDictionary, texts_in, AreIndexes, IsCodeBody, IsCodePage}
use Rattle.fd_footer.specs.declared.footer.Pages.{Pages}
use Rattle.fd_footer.specs.declared.footer.Chunk.{Chunk}
use Rattle.fd_footer.specs.Tables.{has_dictionary}
use Rattle.fd_table_file.specs.Columns.{type_of, kind_of, is_required, cells_of}
use Rattle.fd_table_file.specs.Chunks.{AreFilled, dictionary_of, Pieces, piece_bytes, IsBefore, IsData, IsChunk, IsChunkOf}
use Rattle.fd_table_file.specs.Files.{places_from, chunk_bytes}
use Rattle.fd_table_file.proofs.OneDataPages.{OneRuns, OnePage, AreSized, one_run_of, one_cells_of, filled_fits, one_value_pages, one_cells, values_fit, split_same}

-- what is known of dictionaries and of pages with indexes
abbrev pub OneDictionary : Type 0
OneDictionary = (texts others : List (List ℕ)) (a b x y : List ℕ) → IsDictionary texts a → IsDictionary others b → a ++ x ≡ b ++ y → (texts ≡ others) × (a ≡ b)

abbrev pub OneCodePage : Type 0
OneCodePage = (required : Bool) (texts : List (List ℕ)) (cells others : List Cell) (a b x y : List ℕ)
    → IsCodePage required texts cells a → IsCodePage required texts others b → a ++ x ≡ b ++ y → (cells ≡ others) × (a ≡ b)

abbrev pub OneCoding : Type 0
OneCoding = (required : Bool) (texts : List (List ℕ)) (cells : List Cell) (a b : List ℕ) → AreRising texts → IsCodePage required texts cells a → IsCodePage required texts cells b → a ≡ b

sized_codes : (required : Bool) (texts : List (List ℕ)) → AreSized (IsCodePage required texts)
sized_codes required texts cells page is = (is.some, is.few)

-- ---- one chunk

one_before : (dictionary : Bool) (cells : List Cell) (a b : List ℕ) → IsBefore dictionary cells a → IsBefore dictionary cells b → a ≡ b
one_before false cells a b p q = p ∙ sym q
one_before true [] a b p q = p ∙ sym q
one_before true (cell ∷ cells) a b p q = p.whole ∙ sym q.whole

none_filled : (Is : List Cell → List ℕ → Type 0) → AreSized Is → (pages : List (List Cell)) (bytes : List ℕ) → AreFilled Is pages [] bytes → bytes ≡ []
none_filled Is sized [] bytes (none, p) = p
none_filled Is sized (f ∷ pages) bytes (x, page, rest, e, whole, is, full, more) = absurd (omega (arith, (sized f page is).0, length-append f x, ap length e))

one_data : OneRuns → OneCoding → (dictionary : Bool) (kind : CellKind) (required : Bool) (cells : List Cell) (before a b : List ℕ) → IsBefore dictionary cells before
    → IsData dictionary kind required cells a → IsData dictionary kind required cells b → a ≡ b
one_data one_runs one_coding false kind required cells before a b is p q = one_value_pages one_runs kind required cells a b p q
one_data one_runs one_coding true kind required [] before a b is p q =
    none_filled (IsCodePage required (dictionary_of [])) (sized_codes required (dictionary_of [])) p.pages a p.spelled
    ∙ sym (none_filled (IsCodePage required (dictionary_of [])) (sized_codes required (dictionary_of [])) q.pages b q.spelled)
one_data one_runs one_coding true kind required (cell ∷ cells) before a b is p q =
    let texts : List (List ℕ) = dictionary_of (cell ∷ cells) in
    one_run_of (IsCodePage required texts) (sized_codes required texts) (λ front x y page page'. one_coding required texts front x y is.rising page page') p.pages q.pages (cell ∷ cells) a b p.spelled q.spelled

one_chunk : OneRuns → OneCoding → (dictionary : Bool) (kind : CellKind) (required : Bool) (cells : List Cell) (x y : Pieces) → IsChunk dictionary kind required cells x → IsChunk dictionary kind required cells y → x ≡ y
one_chunk one_runs one_coding dictionary kind required cells x y p q =
    let first : x.dictionary ≡ y.dictionary = one_before dictionary cells x.dictionary y.dictionary p.before q.before in
    let second : x.pages ≡ y.pages = one_data one_runs one_coding dictionary kind required cells x.dictionary x.pages y.pages p.before p.data_pages q.data_pages in
    λ i. record { dictionary = first i; pages = second i }

-- a column of rows has one chunk
pub one_pieces : OneRuns → OneCoding → (pages : Pages) (rows : List Numbered) (c : Column) (x y : Pieces) → IsChunkOf pages rows c x → IsChunkOf pages rows c y → x ≡ y
one_pieces one_runs one_coding pages rows c x y p q =
    one_chunk one_runs one_coding (has_dictionary pages (type_of c)) (kind_of c) (is_required c) (cells_of c rows) x y p.chunk q.chunk

-- ---- no chunk of two lists of cells

one_texts : OneDictionary → (cells others : List Cell) (dictionary : List ℕ) → length cells ≡ length others → IsBefore true cells dictionary → IsBefore true others dictionary → dictionary_of cells ≡ dictionary_of others
one_texts one_dictionary [] [] dictionary len p q = refl
one_texts one_dictionary [] (o ∷ os) dictionary len p q = absurd (omega (arith, len))
one_texts one_dictionary (c ∷ cs) [] dictionary len p q = absurd (omega (arith, len))
one_texts one_dictionary (c ∷ cs) (o ∷ os) dictionary len p q = (one_dictionary (dictionary_of (c ∷ cs)) (dictionary_of (o ∷ os)) dictionary dictionary [] [] p q refl).0

data_tells : OnePage → OneDictionary → OneCodePage → (dictionary : Bool) (kind : CellKind) (required : Bool) (cells others : List Cell) (before bytes : List ℕ) → length cells ≡ length others
    → IsBefore dictionary cells before → IsBefore dictionary others before → IsData dictionary kind required cells bytes → IsData dictionary kind required others bytes → cells ≡ others
data_tells one_page one_dictionary one_code_page false kind required cells others before bytes len is is' p q = one_cells one_page kind required cells others bytes len p q
data_tells one_page one_dictionary one_code_page true kind required cells others before bytes len is is' p q =
    let texts : List (List ℕ) = dictionary_of cells in
    let same : texts ≡ dictionary_of others = one_texts one_dictionary cells others before len is is' in
    one_cells_of (IsCodePage required texts) (sized_codes required texts) (one_code_page required texts) p.pages q.pages cells others bytes bytes len refl p.spelled
    (subst (λ (ts : List (List ℕ)). AreFilled (IsCodePage required ts) q.pages others bytes) (sym same) q.spelled)

-- no pieces are the chunks of two lists of as many cells
pub pieces_tell : OnePage → OneDictionary → OneCodePage → (pages : Pages) (rows others : List Numbered) (c : Column) (x : Pieces) → length (cells_of c rows) ≡ length (cells_of c others)
    → IsChunkOf pages rows c x → IsChunkOf pages others c x → cells_of c rows ≡ cells_of c others
pieces_tell one_page one_dictionary one_code_page pages rows others c x len p q =
    data_tells one_page one_dictionary one_code_page (has_dictionary pages (type_of c)) (kind_of c) (is_required c) (cells_of c rows) (cells_of c others) x.dictionary x.pages len
    p.chunk.before q.chunk.before p.chunk.data_pages q.chunk.data_pages

-- ---- the cells fit their lengths

text_fits : (texts : List (List ℕ)) (k : ℕ) (text : List ℕ) → AllByRecursion (λ t. length t < 2 ^ 32) texts → slice_get texts k ≡ Some text → length text < 2 ^ 32
text_fits [] k text fit e = absurd cc
text_fits (t ∷ ts) zero text fit e = let same : t ≡ text = cc in subst (λ (x : List ℕ). length x < 2 ^ 32) same fit.0
text_fits (t ∷ ts) (suc k) text fit e = text_fits ts k text fit.1 e

found_fit : (texts : List (List ℕ)) (indexes : List ℕ) (cells : List Cell) → AllByRecursion (λ t. length t < 2 ^ 32) texts → AllByRecursion (IsOfColumn BytesKind false) cells
    → AllZip (λ index text. slice_get texts index ≡ Some text) indexes (texts_in cells) → AllByRecursion Fits cells
found_fit texts indexes [] fit column are = tt
found_fit texts indexes (Absent ∷ cells) fit column are = (tt, found_fit texts indexes cells fit column.1 are)
found_fit texts indexes (Whole n ∷ cells) fit column are = absurd column.0
found_fit texts [] (Bytes b ∷ cells) fit column are = absurd are
found_fit texts (k ∷ ks) (Bytes b ∷ cells) fit column are = (text_fits texts k b fit are.0, found_fit texts ks cells fit column.1 are.1)

-- a cell of any column is one of an optional column
weaker : (required : Bool) (cells : List Cell) → AllByRecursion (IsOfColumn BytesKind required) cells → AllByRecursion (IsOfColumn BytesKind false) cells
weaker required [] h = tt
weaker required (Absent ∷ cells) h = (refl, weaker required cells h.1)
weaker required (Whole n ∷ cells) h = absurd h.0
weaker required (Bytes b ∷ cells) h = (tt, weaker required cells h.1)

-- the indexes in a body
body_indexes : (required : Bool) (texts : List (List ℕ)) (cells : List Cell) (body : List ℕ) → IsCodeBody required texts cells body → (bytes : List ℕ) × AreIndexes texts cells bytes
body_indexes true texts cells body p = (body, p)
body_indexes false texts cells body (levels, indexes, spelled, are, whole) = (indexes, are)

code_page_fits : (required : Bool) (texts : List (List ℕ)) → All (λ text. length text < 2 ^ 32) texts → (cells : List Cell) (page : List ℕ) → IsCodePage required texts cells page → All Fits cells
code_page_fits required texts fit cells page is =
    let (bytes, are) = body_indexes required texts cells is.body is.spelled in
    All-from_recursion Fits cells (found_fit texts are.indexes cells (recursion_from_All (λ text. length text < 2 ^ 32) texts fit)
    (weaker required cells (recursion_from_All (IsOfColumn BytesKind required) cells is.column)) are.are)

data_fits : (dictionary : Bool) (kind : CellKind) (required : Bool) (cells : List Cell) (before bytes : List ℕ) → IsBefore dictionary cells before → IsData dictionary kind required cells bytes → All Fits cells
data_fits false kind required cells before bytes is p = values_fit kind required cells bytes p
data_fits true kind required [] before bytes is p = All-nil Fits
data_fits true kind required (cell ∷ cells) before bytes is p =
    let texts : List (List ℕ) = dictionary_of (cell ∷ cells) in
    filled_fits (IsCodePage required texts) (code_page_fits required texts is.fit) p.pages (cell ∷ cells) bytes p.spelled

-- the cells of a chunk fit their lengths
pub chunk_fits : (dictionary : Bool) (kind : CellKind) (required : Bool) (cells : List Cell) (x : Pieces) → IsChunk dictionary kind required cells x → All Fits cells
chunk_fits dictionary kind required cells x is = data_fits dictionary kind required cells x.dictionary x.pages is.before is.data_pages

pub pieces_fit : (pages : Pages) (rows : List Numbered) (c : Column) (x : Pieces) → IsChunkOf pages rows c x → All Fits (cells_of c rows)
pieces_fit pages rows c x is = chunk_fits (has_dictionary pages (type_of c)) (kind_of c) (is_required c) (cells_of c rows) x is.chunk

-- ---- places

abbrev first_size : List Chunk → ℕ
first_size [] = 0
first_size (k ∷ ks) = k.size

abbrev first_data : List Chunk → ℕ
first_data [] = 0
first_data (k ∷ ks) = k.data_page

-- chunks are told by their places
pub pieces_once : (at : ℕ) (xs ys : List Pieces) → places_from at xs ≡ places_from at ys → chunk_bytes xs ≡ chunk_bytes ys → xs ≡ ys
pieces_once at [] [] places e = refl
pieces_once at [] (y ∷ ys) places e = absurd (omega (arith, ap length places))
pieces_once at (x ∷ xs) [] places e = absurd (omega (arith, ap length places))
pieces_once at (x ∷ xs) (y ∷ ys) places e =
    let size : length (piece_bytes x) ≡ length (piece_bytes y) = ap first_size places in
    let data_page : at + length x.dictionary ≡ at + length y.dictionary = ap first_data places in
    let parts = split_same (piece_bytes x) (piece_bytes y) (chunk_bytes xs) (chunk_bytes ys) e size in
    let inner = split_same x.dictionary y.dictionary x.pages y.pages parts.0 (omega (arith, data_page)) in
    let behind : places_from (at + length (piece_bytes x)) xs ≡ places_from (at + length (piece_bytes x)) ys =
    ap (λ (ks : List Chunk). drop 1 ks) places ∙ ap (λ (n : ℕ). places_from (at + n) ys) (sym size) in
    let others = pieces_once (at + length (piece_bytes x)) xs ys behind parts.1 in
    λ i. record { dictionary = inner.0 i; pages = inner.1 i } ∷ others i
