-- No page is that of two lists of cells, and none begins another.
use Rattle.std.proofs.Common.{◌≡◌, ℕ, ◌^◌, ◌<◌, Bool, true, false, List, [], ◌++◌, length, map, replicate, Result, Ok, refl, sym, ap, subst, ◌∙◌, arith}
use Rattle.std.specs.List.{AllByRecursion}
use Rattle.std.proofs.lemmas.List.Elements.{recursion_from_All}
use Rattle.fd_thrift.specs.Values.{Value}
use Rattle.fd_thrift.specs.Format.{Spells as Writes}
use Rattle.fd_hybrid.specs.declared.fault.HybridFault.{HybridFault}
use Rattle.fd_hybrid.specs.Refusals.{Spells}
use Rattle.fd_hybrid.proofs.Sequences.{only_read}
use Rattle.fd_hybrid.proofs.Exactness.{whole, fit_digits}
use Rattle.fd_pages.specs.declared.cell.CellKind.{CellKind}
use Rattle.fd_pages.specs.declared.cell.Cell.{Cell}
use Rattle.fd_pages.specs.Columns.{IsOfColumn, Fits, plain_values, level}
use Rattle.fd_pages.specs.Pages.{page_header, header_bytes, IsBody, IsPage}
use Rattle.fd_pages.specs.Reader.{sized_at, cells_at, AreCells}
use Rattle.fd_pages.proofs.Numbers.{sized_again}
use Rattle.fd_pages.proofs.ValueLaws.{parts_within}
use Rattle.fd_pages.proofs.CellLaws.{cells_again, weaker, all_there}
use Rattle.fd_pages.proofs.Bodies.{split_is, read_is, optional_levels}
use Rattle.fd_pages.proofs.HeaderLaws.{header_spells}
use Rattle.fd_pages.proofs.Fronts.{same_front, same_body}

-- ---- levels

abbrev done : {A : Type 0} → A → Result A HybridFault
done x = Ok x

done_is : {A : Type 0} (x y : A) → done x ≡ done y → x ≡ y
done_is x y e = cc

abbrev levels_read : List ℕ → Result (List ℕ × List ℕ) HybridFault
levels_read levels = Ok (levels, [])

levels_of : (a b : List ℕ) → levels_read a ≡ levels_read b → a ≡ b
levels_of a b e = let same : (a, []) ≡ (b, []) = done_is (a, []) (b, []) e in ap (λ (p : List ℕ × List ℕ). p.0) same

one_levels : (count : ℕ) (runs a b : List ℕ) → count < 2 ^ 64 → Spells 1 count runs a → Spells 1 count runs b → a ≡ b
one_levels count runs a b small s t = levels_of a b (sym (read a s) ∙ read b t)
  where
    read : (levels : List ℕ) → Spells 1 count runs levels → whole 1 count runs ≡ levels_read levels
    read levels u = only_read (length runs) 1 count _ u.1.0 levels runs (omega arith) small (fit_digits 1 levels u.0.1) (u.1.1, tt) u.0.0 u.1.2 (omega arith)

-- ---- cells, from their levels and values

one_cells : (kind : CellKind) (cells others : List Cell) → AllByRecursion (IsOfColumn kind false) cells → AllByRecursion Fits cells → AllByRecursion (IsOfColumn kind false) others → AllByRecursion Fits others
    → map level cells ≡ map level others → plain_values cells ≡ plain_values others → cells ≡ others
one_cells kind cells others column fit column' fit' levels values =
    let first = cells_again kind cells [] column fit in
    let second = cells_again kind others [] column' fit' in
    let same : cells_at kind (map level cells) (plain_values cells ++ []) ≡ cells_at kind (map level others) (plain_values others ++ []) =
    ap (λ ls. cells_at kind ls (plain_values cells ++ [])) levels ∙ ap (λ vs. cells_at kind (map level others) (vs ++ [])) values in
    (read_is cells others [] [] (sym first ∙ same ∙ second)).0

one_required : (kind : CellKind) (cells others : List Cell) (count : ℕ) (body : List ℕ) → AreCells kind true count cells → AreCells kind true count others → IsBody true cells body → IsBody true others body → cells ≡ others
one_required kind cells others count body are are' spelled spelled' =
    let there = recursion_from_All (IsOfColumn kind true) cells are.column in
    let there' = recursion_from_All (IsOfColumn kind true) others are'.column in
    let levels : map level cells ≡ map level others = all_there kind cells there ∙ ap (λ k. replicate k 1) (are.counted ∙ sym are'.counted) ∙ sym (all_there kind others there') in
    one_cells kind cells others (weaker kind cells there) (recursion_from_All Fits cells are.fit) (weaker kind others there') (recursion_from_All Fits others are'.fit) levels (sym spelled ∙ spelled')

one_optional : (kind : CellKind) (cells others : List Cell) (count : ℕ) (body : List ℕ) → count < 2 ^ 64 → length body < 2 ^ 31 → AreCells kind false count cells → AreCells kind false count others → IsBody false cells body → IsBody false others body → cells ≡ others
one_optional kind cells others count body few small are are' (runs, spelled, parted) (runs', spelled', parted') =
    let within = parts_within runs (plain_values cells) (2 ^ 31) (subst (λ x. length x < 2 ^ 31) parted small) in
    let within' = parts_within runs' (plain_values others) (2 ^ 31) (subst (λ x. length x < 2 ^ 31) parted' small) in
    let parts = split_is runs (plain_values cells) runs' (plain_values others)
    (sym (sized_again runs (plain_values cells) (omega (arith, within.0))) ∙ ap sized_at (sym parted ∙ parted') ∙ sized_again runs' (plain_values others) (omega (arith, within'.0))) in
    let levels : map level cells ≡ map level others = one_levels count runs (map level cells) (map level others) few (optional_levels kind count runs cells are spelled)
    (subst (λ rs. Spells 1 count rs (map level others)) (sym parts.0) (optional_levels kind count runs' others are' spelled')) in
    one_cells kind cells others (recursion_from_All (IsOfColumn kind false) cells are.column) (recursion_from_All Fits cells are.fit) (recursion_from_All (IsOfColumn kind false) others are'.column) (recursion_from_All Fits others are'.fit) levels parts.1

one_body : (kind : CellKind) (required : Bool) (cells others : List Cell) (count : ℕ) (body : List ℕ) → count < 2 ^ 64 → length body < 2 ^ 31 → AreCells kind required count cells → AreCells kind required count others
    → IsBody required cells body → IsBody required others body → cells ≡ others
one_body kind true cells others count body few small are are' spelled spelled' = one_required kind cells others count body are are' spelled spelled'
one_body kind false cells others count body few small are are' spelled spelled' = one_optional kind cells others count body few small are are' spelled spelled'

-- ---- pages

header_is : (count size count' size' : ℕ) → page_header count size ≡ page_header count' size' → (count ≡ count') × (size ≡ size')
header_is count size count' size' e = (cc, cc)

abbrev pub OneSpelling : Type 0
OneSpelling = (a b x y : List ℕ) (v w : Value) → Writes a v → Writes b w → a ++ x ≡ b ++ y → (v ≡ w) × (a ≡ b)

pub one_page : OneSpelling → (kind : CellKind) (required : Bool) (cells others : List Cell) (a b x y : List ℕ) → IsPage kind required cells a → IsPage kind required others b → a ++ x ≡ b ++ y → (cells ≡ others) × (a ≡ b)
one_page one_spelling kind required cells others a b x y p q e =
    let header = header_bytes (length cells) (length p.body) in
    let header' = header_bytes (length others) (length q.body) in
    let joined = same_front header p.body a x header' q.body b y p.whole q.whole e in
    let headers = one_spelling header header' (p.body ++ x) (q.body ++ y) (page_header (length cells) (length p.body)) (page_header (length others) (length q.body))
    (header_spells (length cells) (length p.body) (omega (arith, p.few)) p.small) (header_spells (length others) (length q.body) (omega (arith, q.few)) q.small) joined in
    let sizes = header_is (length cells) (length p.body) (length others) (length q.body) headers.0 in
    let body : p.body ≡ q.body = same_body header p.body x header' q.body y joined headers.1 sizes.1 in
    let same : cells ≡ others = one_body kind required cells others (length cells) p.body (omega (arith, p.few)) p.small
    (record { counted = refl; column = p.column; fit = p.fit }) (record { counted = sym sizes.0; column = q.column; fit = q.fit }) p.spelled (subst (IsBody required others) (sym body) q.spelled) in
    (same, p.whole ∙ ap (λ h. h ++ p.body) headers.1 ∙ ap (λ t. header' ++ t) body ∙ sym q.whole)
