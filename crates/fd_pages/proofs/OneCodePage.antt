-- No page with indexes is that of two lists of cells, and none begins another; cells have one such page.
use Rattle.std.proofs.Common.{◌≡◌, ℕ, zero, suc, ◌+◌, ◌^◌, ◌<◌, ◌≤◌, Bool, true, false, List, [], ◌∷◌, ◌++◌, length, map, replicate, Some, slice_get, refl, sym, ap, subst, ◌∙◌, arith}
use Rattle.std.specs.Prelude.{All}
use Rattle.std.specs.List.{AllByRecursion, AllZip}
use Rattle.std.specs.List.Sorted.{IsStrictlySortedBy}
use Rattle.std.specs.declared.cmp.Ordering.TheVariants.{Less, Equal}
use Rattle.std.proofs.lemmas.Cmp.{nat_list_cmp_total, tied_itself}
use Rattle.std.proofs.lemmas.Option.{slice_get_within}
use Rattle.std.proofs.lemmas.List.{length-map}
use Rattle.std.proofs.lemmas.List.Elements.{recursion_from_All, All-from_recursion}
use Rattle.fd_lists.specs.Texts.{text_cmp}
use Rattle.fd_thrift.specs.Format.{Spells as Writes}
use Rattle.fd_hybrid.specs.Format.{IsSpelling}
use Rattle.fd_hybrid.specs.Refusals.{Spells}
use Rattle.fd_pages.specs.declared.cell.CellKind.TheVariants.{Bytes as BytesKind}
use Rattle.fd_pages.specs.declared.cell.Cell.{Cell}
use Rattle.fd_pages.specs.declared.cell.Cell.TheVariants.{Absent, Whole, Bytes}
use Rattle.fd_pages.specs.Columns.{IsOfColumn, sized, level}
use Rattle.fd_pages.specs.Pages.{page_header_in}
use Rattle.fd_pages.specs.Reader.{sized_at}
use Rattle.fd_pages.specs.Dictionaries.{code_header_bytes, AreRising, texts_in, IsWidth, AreIndexes, IsCodeBody, IsCodePage}
use Rattle.fd_pages.proofs.Numbers.{sized_again}
use Rattle.fd_pages.proofs.ValueLaws.{levels_fit, parts_within}
use Rattle.fd_pages.proofs.CellLaws.{weaker, all_there}
use Rattle.fd_pages.proofs.Bodies.{split_is}
use Rattle.fd_pages.proofs.HeaderLaws.{header_in_spells}
use Rattle.fd_pages.proofs.Fronts.{same_front, same_body}
use Rattle.fd_pages.proofs.OnePage.{OneSpelling}

-- what is known of runs
abbrev pub OneRuns : Type 0
OneRuns = (w : ℕ) (values a b : List ℕ) → IsSpelling w values a → IsSpelling w values b → a ≡ b

abbrev pub OneReading : Type 0
OneReading = (w count : ℕ) (bytes a b : List ℕ) → 0 < w → count < 2 ^ 64 → Spells w count bytes a → Spells w count bytes b → a ≡ b

-- ---- cells, from their levels and texts

abbrev cells_from : List ℕ → List (List ℕ) → List Cell
cells_from [] texts = []
cells_from (zero ∷ levels) texts = Absent ∷ cells_from levels texts
cells_from (suc n ∷ levels) [] = []
cells_from (suc n ∷ levels) (text ∷ texts) = Bytes text ∷ cells_from levels texts

cells_back : (cells : List Cell) → AllByRecursion (IsOfColumn BytesKind false) cells → cells_from (map level cells) (texts_in cells) ≡ cells
cells_back [] column = refl
cells_back (Absent ∷ cells) column = ap (λ (cs : List Cell). Absent ∷ cs) (cells_back cells column.1)
cells_back (Whole n ∷ cells) column = absurd column.0
cells_back (Bytes b ∷ cells) column = ap (λ (cs : List Cell). Bytes b ∷ cs) (cells_back cells column.1)

one_cells : (cells others : List Cell) → AllByRecursion (IsOfColumn BytesKind false) cells → AllByRecursion (IsOfColumn BytesKind false) others
    → map level cells ≡ map level others → texts_in cells ≡ texts_in others → cells ≡ others
one_cells cells others column column' levels texts =
    sym (cells_back cells column)
    ∙ ap (λ (ls : List ℕ). cells_from ls (texts_in cells)) levels
    ∙ ap (λ (ts : List (List ℕ)). cells_from (map level others) ts) texts
    ∙ cells_back others column'

abbrev total : List ℕ → ℕ
total [] = 0
total (n ∷ ns) = n + total ns

-- there are as many texts as levels of 1
texts_counted : (cells : List Cell) → AllByRecursion (IsOfColumn BytesKind false) cells → length (texts_in cells) ≡ total (map level cells)
texts_counted [] column = refl
texts_counted (Absent ∷ cells) column = omega (arith, texts_counted cells column.1)
texts_counted (Whole n ∷ cells) column = absurd column.0
texts_counted (Bytes b ∷ cells) column = omega (arith, texts_counted cells column.1)

as_many : (cells others : List Cell) → AllByRecursion (IsOfColumn BytesKind false) cells → AllByRecursion (IsOfColumn BytesKind false) others → map level cells ≡ map level others → length (texts_in others) ≡ length (texts_in cells)
as_many cells others column column' levels = texts_counted others column' ∙ sym (ap total levels) ∙ sym (texts_counted cells column)

texts_few : (cells : List Cell) → length (texts_in cells) ≤ length cells
texts_few [] = omega arith
texts_few (Absent ∷ cells) = omega (arith, texts_few cells)
texts_few (Whole n ∷ cells) = omega (arith, texts_few cells)
texts_few (Bytes b ∷ cells) = omega (arith, texts_few cells)

-- ---- texts, from their indexes

abbrev AreAt : List (List ℕ) → List ℕ → List (List ℕ) → Type 0
AreAt texts indexes found = AllZip (λ index text. slice_get texts index ≡ Some text) indexes found

some_is : (a b : List ℕ) → Some a ≡ Some b → a ≡ b
some_is a b e = cc

texts_told : (texts : List (List ℕ)) (indexes : List ℕ) (found others : List (List ℕ)) → AreAt texts indexes found → AreAt texts indexes others → found ≡ others
texts_told texts [] [] [] h g = refl
texts_told texts [] [] (u ∷ us) h g = absurd g
texts_told texts [] (t ∷ ts) others h g = absurd h
texts_told texts (k ∷ ks) [] others h g = absurd h
texts_told texts (k ∷ ks) (t ∷ ts) [] h g = absurd g
texts_told texts (k ∷ ks) (t ∷ ts) (u ∷ us) h g =
    let first = some_is t u (sym h.0 ∙ g.0) in
    let behind = texts_told texts ks ts us h.1 g.1 in
    λ i. first i ∷ behind i

indexes_counted : (texts : List (List ℕ)) (indexes : List ℕ) (found : List (List ℕ)) → AreAt texts indexes found → length indexes ≡ length found
indexes_counted texts [] [] h = refl
indexes_counted texts [] (t ∷ ts) h = absurd h
indexes_counted texts (k ∷ ks) [] h = absurd h
indexes_counted texts (k ∷ ks) (t ∷ ts) h = ap suc (indexes_counted texts ks ts h.1)

indexes_fit : (width : ℕ) (texts : List (List ℕ)) (indexes : List ℕ) (found : List (List ℕ)) → length texts ≤ 2 ^ width → AreAt texts indexes found → AllByRecursion (λ v. v < 2 ^ width) indexes
indexes_fit width texts [] [] wide h = tt
indexes_fit width texts [] (t ∷ ts) wide h = absurd h
indexes_fit width texts (k ∷ ks) [] wide h = absurd h
indexes_fit width texts (k ∷ ks) (t ∷ ts) wide h = (omega (arith, wide, slice_get_within texts k t h.0), indexes_fit width texts ks ts wide h.1)

one_width : (count w v : ℕ) → IsWidth count w → IsWidth count v → w ≡ v
one_width count w v p q = omega (arith, p.least v q.some q.holds, q.least w p.some p.holds)

indexes_spell : (texts : List (List ℕ)) (cells : List Cell) (bytes : List ℕ) (count : ℕ) → length (texts_in cells) ≡ count → (p : AreIndexes texts cells bytes) → Spells p.width count p.runs p.indexes
indexes_spell texts cells bytes count counted p =
    ((indexes_counted texts p.indexes (texts_in cells) p.are ∙ counted, All-from_recursion (λ v. v < 2 ^ p.width) p.indexes (indexes_fit p.width texts p.indexes (texts_in cells) p.wide.holds p.are)), p.spelled)

split_first : (a b : ℕ) (xs ys : List ℕ) → a ∷ xs ≡ b ∷ ys → (a ≡ b) × (xs ≡ ys)
split_first a b xs ys e = (cc, cc)

one_texts : OneReading → (texts : List (List ℕ)) (cells others : List Cell) (bytes : List ℕ) (count : ℕ) → count < 2 ^ 64 → length (texts_in cells) ≡ count → length (texts_in others) ≡ count
    → AreIndexes texts cells bytes → AreIndexes texts others bytes → texts_in cells ≡ texts_in others
one_texts one_reading texts cells others bytes count small counted counted' p q =
    let parts = split_first p.width q.width p.runs q.runs (sym p.whole ∙ q.whole) in
    let second : Spells p.width count p.runs q.indexes =
    subst (λ (w : ℕ). Spells w count p.runs q.indexes) (sym parts.0) (subst (λ (rs : List ℕ). Spells q.width count rs q.indexes) (sym parts.1) (indexes_spell texts others bytes count counted' q)) in
    let same : p.indexes ≡ q.indexes = one_reading p.width count p.runs p.indexes q.indexes (omega (arith, p.wide.some)) small (indexes_spell texts cells bytes count counted p) second in
    texts_told texts p.indexes (texts_in cells) (texts_in others) p.are (subst (λ (ks : List ℕ). AreAt texts ks (texts_in others)) (sym same) q.are)

-- ---- bodies

one_required : OneReading → (texts : List (List ℕ)) (cells others : List Cell) (body : List ℕ) → length cells ≡ length others → length cells ≤ 1000
    → All (IsOfColumn BytesKind true) cells → All (IsOfColumn BytesKind true) others → AreIndexes texts cells body → AreIndexes texts others body → cells ≡ others
one_required one_reading texts cells others body counted few column column' p q =
    let there = recursion_from_All (IsOfColumn BytesKind true) cells column in
    let there' = recursion_from_All (IsOfColumn BytesKind true) others column' in
    let levels : map level cells ≡ map level others = all_there BytesKind cells there ∙ ap (λ k. replicate k 1) counted ∙ sym (all_there BytesKind others there') in
    let weak = weaker BytesKind cells there in
    let weak' = weaker BytesKind others there' in
    one_cells cells others weak weak' levels
    (one_texts one_reading texts cells others body (length (texts_in cells)) (omega (arith, texts_few cells)) refl (as_many cells others weak weak' levels) p q)

levels_spell : (cells : List Cell) (count : ℕ) (runs : List ℕ) → length cells ≡ count → IsSpelling 1 (map level cells) runs → Spells 1 count runs (map level cells)
levels_spell cells count runs counted spelled = ((length-map cells level ∙ counted, All-from_recursion (λ v. v < 2 ^ 1) (map level cells) (levels_fit cells)), spelled)

one_optional : OneReading → (texts : List (List ℕ)) (cells others : List Cell) (body : List ℕ) → length cells ≡ length others → length cells ≤ 1000 → length body < 2 ^ 31
    → All (IsOfColumn BytesKind false) cells → All (IsOfColumn BytesKind false) others → IsCodeBody false texts cells body → IsCodeBody false texts others body → cells ≡ others
one_optional one_reading texts cells others body counted few small column column' (runs, indexes, spelled, are, parted) (runs', indexes', spelled', are', parted') =
    let within = parts_within runs indexes (2 ^ 31) (subst (λ x. length x < 2 ^ 31) parted small) in
    let within' = parts_within runs' indexes' (2 ^ 31) (subst (λ x. length x < 2 ^ 31) parted' small) in
    let parts = split_is runs indexes runs' indexes'
    (sym (sized_again runs indexes (omega (arith, within.0))) ∙ ap sized_at (sym parted ∙ parted') ∙ sized_again runs' indexes' (omega (arith, within'.0))) in
    let levels : map level cells ≡ map level others = one_reading 1 (length cells) runs (map level cells) (map level others) (omega arith) (omega (arith, few)) (levels_spell cells (length cells) runs refl spelled)
    (subst (λ (rs : List ℕ). Spells 1 (length cells) rs (map level others)) (sym parts.0) (levels_spell others (length cells) runs' (sym counted) spelled')) in
    let there = recursion_from_All (IsOfColumn BytesKind false) cells column in
    let there' = recursion_from_All (IsOfColumn BytesKind false) others column' in
    one_cells cells others there there' levels
    (one_texts one_reading texts cells others indexes (length (texts_in cells)) (omega (arith, texts_few cells, few)) refl (as_many cells others there there' levels) are
    (subst (λ (bytes : List ℕ). AreIndexes texts others bytes) (sym parts.1) are'))

one_body : OneReading → (required : Bool) (texts : List (List ℕ)) (cells others : List Cell) (body : List ℕ) → length cells ≡ length others → length cells ≤ 1000 → length body < 2 ^ 31
    → All (IsOfColumn BytesKind required) cells → All (IsOfColumn BytesKind required) others → IsCodeBody required texts cells body → IsCodeBody required texts others body → cells ≡ others
one_body one_reading true texts cells others body counted few small column column' p q = one_required one_reading texts cells others body counted few column column' p q
one_body one_reading false texts cells others body counted few small column column' p q = one_optional one_reading texts cells others body counted few small column column' p q

-- ---- pages

pub header_spells : (count size : ℕ) → count < 2 ^ 31 → size < 2 ^ 31 → Writes (code_header_bytes count size) (page_header_in 8 count size)
unfolding code_header_bytes
header_spells count size counted small = header_in_spells 8 count size (omega arith) counted small

pub header_is : (count size count' size' : ℕ) → page_header_in 8 count size ≡ page_header_in 8 count' size' → (count ≡ count') × (size ≡ size')
header_is count size count' size' e = (cc, cc)

pub one_code_page : OneSpelling → OneReading → (required : Bool) (texts : List (List ℕ)) (cells others : List Cell) (a b x y : List ℕ)
    → IsCodePage required texts cells a → IsCodePage required texts others b → a ++ x ≡ b ++ y → (cells ≡ others) × (a ≡ b)
one_code_page one_spelling one_reading required texts cells others a b x y p q e =
    let header = code_header_bytes (length cells) (length p.body) in
    let header' = code_header_bytes (length others) (length q.body) in
    let joined = same_front header p.body a x header' q.body b y p.whole q.whole e in
    let headers = one_spelling header header' (p.body ++ x) (q.body ++ y) (page_header_in 8 (length cells) (length p.body)) (page_header_in 8 (length others) (length q.body))
    (header_spells (length cells) (length p.body) (omega (arith, p.few)) p.small) (header_spells (length others) (length q.body) (omega (arith, q.few)) q.small) joined in
    let sizes = header_is (length cells) (length p.body) (length others) (length q.body) headers.0 in
    let body : p.body ≡ q.body = same_body header p.body x header' q.body y joined headers.1 sizes.1 in
    let same : cells ≡ others = one_body one_reading required texts cells others p.body sizes.0 p.few p.small p.column q.column p.spelled (subst (IsCodeBody required texts others) (sym body) q.spelled) in
    (same, p.whole ∙ ap (λ h. h ++ p.body) headers.1 ∙ ap (λ t. header' ++ t) body ∙ sym q.whole)

-- ---- one page of the same cells

not_below : (text : List ℕ) → text_cmp text text ≡ Less → ⊥
not_below text e = let tied : text_cmp text text ≡ Equal = tied_itself nat_list_cmp_total text in absurd cc

above : (text : List ℕ) (texts : List (List ℕ)) (k : ℕ) (other : List ℕ) → AllByRecursion (λ t. text_cmp text t ≡ Less) texts → slice_get texts k ≡ Some other → text_cmp text other ≡ Less
above text [] k other h e = absurd cc
above text (t ∷ ts) zero other h e = subst (λ (x : List ℕ). text_cmp text x ≡ Less) (some_is t other e) h.0
above text (t ∷ ts) (suc k) other h e = above text ts k other h.1 e

-- a text of rising ones has one index
one_index : (texts : List (List ℕ)) (j k : ℕ) (text : List ℕ) → AreRising texts → slice_get texts j ≡ Some text → slice_get texts k ≡ Some text → j ≡ k
unfolding IsStrictlySortedBy
one_index [] j k text rising e f = absurd cc
one_index (t ∷ ts) zero zero text rising e f = refl
one_index (t ∷ ts) zero (suc k) text rising e f = absurd (not_below text (subst (λ (x : List ℕ). text_cmp x text ≡ Less) (some_is t text e) (above t ts k text rising.0 f)))
one_index (t ∷ ts) (suc j) zero text rising e f = absurd (not_below text (subst (λ (x : List ℕ). text_cmp x text ≡ Less) (some_is t text f) (above t ts j text rising.0 e)))
one_index (t ∷ ts) (suc j) (suc k) text rising e f = ap suc (one_index ts j k text rising.1 e f)

one_indexes : (texts : List (List ℕ)) (indexes others : List ℕ) (found : List (List ℕ)) → AreRising texts → AreAt texts indexes found → AreAt texts others found → indexes ≡ others
one_indexes texts [] [] found rising h g = refl
one_indexes texts [] (k ∷ ks) [] rising h g = absurd g
one_indexes texts [] (k ∷ ks) (t ∷ ts) rising h g = absurd h
one_indexes texts (j ∷ js) others [] rising h g = absurd h
one_indexes texts (j ∷ js) [] (t ∷ ts) rising h g = absurd g
one_indexes texts (j ∷ js) (k ∷ ks) (t ∷ ts) rising h g =
    let first = one_index texts j k t rising h.0 g.0 in
    let behind = one_indexes texts js ks ts rising h.1 g.1 in
    λ i. first i ∷ behind i

same_indexes : OneRuns → (texts : List (List ℕ)) (cells : List Cell) (a b : List ℕ) → AreRising texts → AreIndexes texts cells a → AreIndexes texts cells b → a ≡ b
same_indexes one_runs texts cells a b rising p q =
    let width : p.width ≡ q.width = one_width (length texts) p.width q.width p.wide q.wide in
    let indexes : p.indexes ≡ q.indexes = one_indexes texts p.indexes q.indexes (texts_in cells) rising p.are q.are in
    let runs : p.runs ≡ q.runs = one_runs p.width p.indexes p.runs q.runs p.spelled
    (subst (λ (w : ℕ). IsSpelling w p.indexes q.runs) (sym width) (subst (λ (ks : List ℕ). IsSpelling q.width ks q.runs) (sym indexes) q.spelled)) in
    p.whole ∙ ap (λ (w : ℕ). w ∷ p.runs) width ∙ ap (λ (rs : List ℕ). q.width ∷ rs) runs ∙ sym q.whole

one_coded : OneRuns → (required : Bool) (texts : List (List ℕ)) (cells : List Cell) (a b : List ℕ) → AreRising texts → IsCodeBody required texts cells a → IsCodeBody required texts cells b → a ≡ b
one_coded one_runs true texts cells a b rising p q = same_indexes one_runs texts cells a b rising p q
one_coded one_runs false texts cells a b rising (runs, indexes, spelled, are, whole) (runs', indexes', spelled', are', whole') =
    whole
    ∙ ap (λ (rs : List ℕ). sized rs ++ indexes) (one_runs 1 (map level cells) runs runs' spelled spelled')
    ∙ ap (λ (bytes : List ℕ). sized runs' ++ bytes) (same_indexes one_runs texts cells indexes indexes' rising are are')
    ∙ sym whole'

pub one_coding : OneRuns → (required : Bool) (texts : List (List ℕ)) (cells : List Cell) (a b : List ℕ) → AreRising texts → IsCodePage required texts cells a → IsCodePage required texts cells b → a ≡ b
one_coding one_runs required texts cells a b rising p q =
    p.whole
    ∙ ap (λ (body : List ℕ). code_header_bytes (length cells) (length body) ++ body) (one_coded one_runs required texts cells p.body q.body rising p.spelled q.spelled)
    ∙ sym q.whole
