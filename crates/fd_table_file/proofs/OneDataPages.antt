-- Cells have one page and one run of data pages, and no bytes are the data pages of two lists of cells.
use Rattle.std.proofs.Common.{◌≡◌, ℕ, ◌+◌, ◌<◌, ◌≤◌, Bool, true, false, List, [], ◌∷◌, ◌++◌, length, map, take, drop, refl, sym, ap, ◌∙◌, subst, arith, length-append}
use Rattle.std.specs.Prelude.{All}
use Rattle.std.proofs.lemmas.List.{append_cancel_left, take_at, drop_at}
use Rattle.std.proofs.lemmas.List.Elements.{All-append, All-nil}
use Rattle.fd_hybrid.specs.Format.{IsSpelling}
use Rattle.fd_pages.specs.declared.cell.CellKind.{CellKind}
use Rattle.fd_pages.specs.declared.cell.Cell.{Cell}
use Rattle.fd_pages.specs.Columns.{Fits, sized, plain_values, level}
use Rattle.fd_pages.specs.Pages.{header_bytes, IsBody, IsPage}
use Rattle.fd_pages.specs.declared.cell.TheConstants.{MAX_ROWS}
use Rattle.fd_table_file.specs.Chunks.{AreFilled, AreValuePages}

-- what is known of runs and of pages
abbrev pub OneRuns : Type 0
OneRuns = (w : ℕ) (values a b : List ℕ) → IsSpelling w values a → IsSpelling w values b → a ≡ b

abbrev pub OnePage : Type 0
OnePage = (kind : CellKind) (required : Bool) (cells others : List Cell) (a b x y : List ℕ)
    → IsPage kind required cells a → IsPage kind required others b → a ++ x ≡ b ++ y → (cells ≡ others) × (a ≡ b)

pub split_same : {X : Type 0} (f g x y : List X) → f ++ x ≡ g ++ y → length f ≡ length g → (f ≡ g) × (x ≡ y)
split_same f g x y e len = (
  sym (take_at f x (length f) refl) ∙ ap (λ xs. take (length f) xs) e ∙ take_at g y (length f) (sym len),
  sym (drop_at f x (length f) refl) ∙ ap (λ xs. drop (length f) xs) e ∙ drop_at g y (length f) (sym len),
)

-- ---- one page

one_body : OneRuns → (required : Bool) (cells : List Cell) (a b : List ℕ) → IsBody required cells a → IsBody required cells b → a ≡ b
one_body one_runs true cells a b p q = p ∙ sym q
one_body one_runs false cells a b (runs, spelled, whole) (others, spelled', whole') =
    whole ∙ ap (λ (rs : List ℕ). sized rs ++ plain_values cells) (one_runs 1 (map level cells) runs others spelled spelled') ∙ sym whole'

one_page_of : OneRuns → (kind : CellKind) (required : Bool) (cells : List Cell) (a b : List ℕ) → IsPage kind required cells a → IsPage kind required cells b → a ≡ b
one_page_of one_runs kind required cells a b p q =
    p.whole
    ∙ ap (λ (body : List ℕ). header_bytes (length cells) (length body) ++ body) (one_body one_runs required cells p.body q.body p.spelled q.spelled)
    ∙ sym q.whole

-- the first pages of the same cells have as many cells
same_count : (f g x y : List Cell) → f ++ x ≡ g ++ y → length f ≤ MAX_ROWS → length g ≤ MAX_ROWS → (length f < MAX_ROWS → x ≡ []) → (length g < MAX_ROWS → y ≡ []) → length f ≡ length g
same_count f g x y e few few' full full' =
    by (length f) (length g) (length x) (length y) (sym (length-append f x) ∙ ap length e ∙ length-append g y) few few'
    (λ lt. ap length (full lt)) (λ lt. ap length (full' lt))
  where
    by : (f g x y : ℕ) → f + x ≡ g + y → f ≤ 1000 → g ≤ 1000 → (f < 1000 → x ≡ 0) → (g < 1000 → y ≡ 0) → f ≡ g
    by f g x y e few few' full full' = grind arith

-- ---- pages of any kind

-- each page has as many cells as a page may have
abbrev pub AreSized : (List Cell → List ℕ → Type 0) → Type 0
AreSized Is = (cells : List Cell) (page : List ℕ) → Is cells page → (0 < length cells) × (length cells ≤ MAX_ROWS)

-- cells have one page
abbrev pub HaveOne : (List Cell → List ℕ → Type 0) → Type 0
HaveOne Is = (cells : List Cell) (a b : List ℕ) → Is cells a → Is cells b → a ≡ b

-- no page is that of two lists of cells, and none begins another
abbrev pub TellCells : (List Cell → List ℕ → Type 0) → Type 0
TellCells Is = (cells others : List Cell) (a b x y : List ℕ) → Is cells a → Is others b → a ++ x ≡ b ++ y → (cells ≡ others) × (a ≡ b)

pub one_run_of : (Is : List Cell → List ℕ → Type 0) → AreSized Is → HaveOne Is → (pages others : List (List Cell)) (cells : List Cell) (a b : List ℕ)
    → AreFilled Is pages cells a → AreFilled Is others cells b → a ≡ b
one_run_of Is sized one [] [] cells a b (none, p) (none', q) = p ∙ sym q
one_run_of Is sized one [] (g ∷ others) cells a b (none, p) (y, page', rest', e', whole', is', full', more') =
    absurd (omega (arith, (sized g page' is').0, length-append g y, ap length (sym e' ∙ none)))
one_run_of Is sized one (f ∷ pages) [] cells a b (x, page, rest, e, whole, is, full, more) (none, q) =
    absurd (omega (arith, (sized f page is).0, length-append f x, ap length (sym e ∙ none)))
one_run_of Is sized one (f ∷ pages) (g ∷ others) cells a b (x, page, rest, e, whole, is, full, more) (y, page', rest', e', whole', is', full', more') =
    let parts = split_same f g x y (sym e ∙ e') (same_count f g x y (sym e ∙ e') (sized f page is).1 (sized g page' is').1 full full') in
    let pages_same : page ≡ page' = one f page page' is (subst (λ (cs : List Cell). Is cs page') (sym parts.0) is') in
    let rests : rest ≡ rest' = one_run_of Is sized one pages others x rest rest' more (subst (λ (cs : List Cell). AreFilled Is others cs rest') (sym parts.1) more') in
    whole ∙ ap (λ (bytes : List ℕ). bytes ++ rest) pages_same ∙ ap (λ (bytes : List ℕ). page' ++ bytes) rests ∙ sym whole'

pub one_cells_of : (Is : List Cell → List ℕ → Type 0) → AreSized Is → TellCells Is → (pages others : List (List Cell)) (cells more : List Cell) (a b : List ℕ) → length cells ≡ length more → a ≡ b
    → AreFilled Is pages cells a → AreFilled Is others more b → cells ≡ more
one_cells_of Is sized one [] [] cells more a b len same (none, p) (none', q) = none ∙ sym none'
one_cells_of Is sized one [] (g ∷ others) cells more a b len same (none, p) (y, page', rest', e', whole', is', full', rest_is') =
    absurd (omega (arith, (sized g page' is').0, length-append g y, ap length e', ap length none, len))
one_cells_of Is sized one (f ∷ pages) [] cells more a b len same (x, page, rest, e, whole, is, full, rest_is) (none, q) =
    absurd (omega (arith, (sized f page is).0, length-append f x, ap length e, ap length none, len))
one_cells_of Is sized one (f ∷ pages) (g ∷ others) cells more a b len same (x, page, rest, e, whole, is, full, rest_is) (y, page', rest', e', whole', is', full', rest_is') =
    let joined : page ++ rest ≡ page' ++ rest' = sym whole ∙ same ∙ whole' in
    let first = one f g page page' rest rest' is is' joined in
    let rests : rest ≡ rest' = append_cancel_left page rest rest' (joined ∙ ap (λ (bytes : List ℕ). bytes ++ rest') (sym first.1)) in
    let len' : length x ≡ length y = omega (arith, len, ap length e, ap length e', length-append f x, length-append g y, ap length first.0) in
    e ∙ ap (λ (cs : List Cell). cs ++ x) first.0 ∙ ap (λ (cs : List Cell). g ++ cs) (one_cells_of Is sized one pages others x y rest rest' len' rests rest_is rest_is') ∙ sym e'

-- cells in pages fit their lengths where those in each page do
pub filled_fits : (Is : List Cell → List ℕ → Type 0) → ((cells : List Cell) (page : List ℕ) → Is cells page → All Fits cells) → (pages : List (List Cell)) (cells : List Cell) (bytes : List ℕ) → AreFilled Is pages cells bytes → All Fits cells
filled_fits Is fits [] cells bytes (none, p) = subst (All Fits) (sym none) (All-nil Fits)
filled_fits Is fits (f ∷ pages) cells bytes (x, page, rest, e, whole, is, full, more) =
    subst (All Fits) (sym e) (All-append Fits f x (fits f page is) (filled_fits Is fits pages x rest more))

-- ---- pages of values

sized_pages : (kind : CellKind) (required : Bool) → AreSized (IsPage kind required)
sized_pages kind required cells page is = (is.some, is.few)

-- cells have one run of them
pub one_value_pages : OneRuns → (kind : CellKind) (required : Bool) (cells : List Cell) (a b : List ℕ) → AreValuePages kind required cells a → AreValuePages kind required cells b → a ≡ b
one_value_pages one_runs kind required cells a b p q =
    one_run_of (IsPage kind required) (sized_pages kind required) (one_page_of one_runs kind required) p.pages q.pages cells a b p.spelled q.spelled

-- no bytes are those of two lists of as many cells
pub one_cells : OnePage → (kind : CellKind) (required : Bool) (cells more : List Cell) (bytes : List ℕ) → length cells ≡ length more → AreValuePages kind required cells bytes → AreValuePages kind required more bytes → cells ≡ more
one_cells one_page kind required cells more bytes len p q =
    one_cells_of (IsPage kind required) (sized_pages kind required) (one_page kind required) p.pages q.pages cells more bytes bytes len refl p.spelled q.spelled

-- the cells in them fit their lengths
pub values_fit : (kind : CellKind) (required : Bool) (cells : List Cell) (bytes : List ℕ) → AreValuePages kind required cells bytes → All Fits cells
values_fit kind required cells bytes is = filled_fits (IsPage kind required) (λ front page page_is. page_is.fit) is.pages cells bytes is.spelled
