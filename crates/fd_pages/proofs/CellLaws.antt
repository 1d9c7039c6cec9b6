-- Cells that are read are those that were written, and cells that were written are read again.
use Rattle.std.proofs.Common.{◌≡◌, ℕ, zero, suc, ◌^◌, ◌<◌, true, false, List, [], ◌∷◌, ◌++◌, length, map, replicate, Ok, refl, sym, ap, subst, ◌∙◌, append_assoc, arith}
use Rattle.std.specs.List.{AllByRecursion}
use Rattle.std.specs.Int.{w64, to_le_bytes, cast_signed, cast_unsigned}
use mir.Facts.{sfits_to_z, Fits-of_z}
use Rattle.std.proofs.lemmas.Int.{of_z-to_z, to_z-of_z}
use Rattle.fd_pages.specs.declared.cell.CellKind.{CellKind}
use Rattle.fd_pages.specs.declared.cell.CellKind.TheVariants.{Whole as WholeKind, Bytes as BytesKind}
use Rattle.fd_pages.specs.declared.cell.Cell.{Cell}
use Rattle.fd_pages.specs.declared.cell.Cell.TheVariants.{Absent, Whole, Bytes}
use Rattle.fd_pages.specs.Columns.{IsOfColumn, Fits, plain, plain_values, level}
use Rattle.fd_pages.specs.Reader.{◌>>=◌, fixed_width_at, sized_at, value_at, cell_at, cells_at}
use Rattle.fd_pages.proofs.Numbers.{IsBytes, bind_ok, ok_is, Takes, Takes-then, wide64, number_takes, number_again, sized_takes, sized_again}

zero_one : ◌≡◌ {A = ℕ} 0 1 → ⊥
zero_one e = omega (arith, e)

-- a cell that is read with a level
pub record IsRead (kind : CellKind) (lev : ℕ) (cell : Cell) : Type 0 where
  pub column : IsOfColumn kind false cell
  pub fits : Fits cell
  pub level : level cell ≡ lev

value_takes : (kind : CellKind) (bytes : List ℕ) (x : Cell × List ℕ) → IsBytes bytes → value_at kind bytes ≡ Ok x → Takes bytes (plain x.0) x.1 × IsRead kind 1 x.0
unfolding value_at
value_takes WholeKind bytes x fits e =
    let b = bind_ok (fixed_width_at w64 bytes) (λ n. Ok (Whole (cast_signed w64 n.0), n.1)) x e in
    let t = number_takes w64 (2 ^ 64) wide64 bytes b.0.0 b.0.1 fits b.1 in
    let made : Cell × List ℕ = (Whole (cast_signed w64 b.0.0), b.0.1) in
    let same : cast_unsigned w64 (cast_signed w64 b.0.0) ≡ b.0.0 = of_z-to_z w64 b.0.0 t.1 in
    let taken : Takes bytes (to_le_bytes w64 (cast_unsigned w64 (cast_signed w64 b.0.0))) b.0.1 = subst (λ (n : ℕ). Takes bytes (to_le_bytes w64 n) b.0.1) (sym same) t.0 in
    subst (λ (y : Cell × List ℕ). Takes bytes (plain y.0) y.1 × IsRead WholeKind 1 y.0) (ok_is made x b.2) (taken, record { column = tt; fits = sfits_to_z (record { fits = t.1 }); level = refl })
value_takes BytesKind bytes x fits e =
    let b = bind_ok (sized_at bytes) (λ text. Ok (Bytes text.0, text.1)) x e in
    let t = sized_takes bytes b.0.0 b.0.1 fits b.1 in
    let made : Cell × List ℕ = (Bytes b.0.0, b.0.1) in
    subst (λ (y : Cell × List ℕ). Takes bytes (plain y.0) y.1 × IsRead BytesKind 1 y.0) (ok_is made x b.2) (t.0, record { column = tt; fits = t.1; level = refl })

value_again : (kind : CellKind) (cell : Cell) (rest : List ℕ) → IsRead kind 1 cell → value_at kind (plain cell ++ rest) ≡ Ok (cell, rest)
unfolding value_at
value_again kind Absent rest h = absurd (zero_one h.level)
value_again WholeKind (Whole n) rest h =
    rw (number_again w64 (2 ^ 64) wide64 (cast_unsigned w64 n) rest ((Fits-of_z h.fits).fits), to_z-of_z w64 n h.fits) refl
value_again WholeKind (Bytes b) rest h = absurd h.column
value_again BytesKind (Whole n) rest h = absurd h.column
value_again BytesKind (Bytes b) rest h = rw (sized_again b rest h.fits) refl

cell_takes : (kind : CellKind) (lev : ℕ) (bytes : List ℕ) (x : Cell × List ℕ) → lev < 2 → IsBytes bytes → cell_at kind lev bytes ≡ Ok x → Takes bytes (plain x.0) x.1 × IsRead kind lev x.0
unfolding cell_at
cell_takes kind zero bytes x lt fits e =
    subst (λ (y : Cell × List ℕ). Takes bytes (plain y.0) y.1 × IsRead kind 0 y.0) (ok_is (Absent, bytes) x e) (record { parts = refl; rest_fits = fits }, record { column = refl; fits = tt; level = refl })
cell_takes kind (suc zero) bytes x lt fits e = value_takes kind bytes x fits e
cell_takes kind (suc (suc lev)) bytes x lt fits e = absurd (omega (arith, lt))

cell_again : (kind : CellKind) (cell : Cell) (rest : List ℕ) → IsOfColumn kind false cell → Fits cell → cell_at kind (level cell) (plain cell ++ rest) ≡ Ok (cell, rest)
unfolding cell_at
cell_again kind Absent rest column fits = refl
cell_again kind (Whole n) rest column fits = value_again kind (Whole n) rest (record { column = column; fits = fits; level = refl })
cell_again kind (Bytes b) rest column fits = value_again kind (Bytes b) rest (record { column = column; fits = fits; level = refl })

-- cells that are read with these levels
pub record AreRead (kind : CellKind) (levels : List ℕ) (cells : List Cell) : Type 0 where
  pub column : AllByRecursion (IsOfColumn kind false) cells
  pub fit : AllByRecursion Fits cells
  pub leveled : map level cells ≡ levels

pub cells_take : (kind : CellKind) (levels : List ℕ) (bytes : List ℕ) (x : List Cell × List ℕ) → AllByRecursion (λ v. v < 2) levels → IsBytes bytes → cells_at kind levels bytes ≡ Ok x → Takes bytes (plain_values x.0) x.1 × AreRead kind levels x.0
unfolding cells_at
cells_take kind [] bytes x small fits e =
    subst (λ (y : List Cell × List ℕ). Takes bytes (plain_values y.0) y.1 × AreRead kind [] y.0) (ok_is ([], bytes) x e) (record { parts = refl; rest_fits = fits }, record { column = tt; fit = tt; leveled = refl })
cells_take kind (lev ∷ levels) bytes x small fits e =
    let a = bind_ok (cell_at kind lev bytes) (λ first. cells_at kind levels first.1 >>= λ others. Ok (first.0 ∷ others.0, others.1)) x e in
    let b = bind_ok (cells_at kind levels a.0.1) (λ others. Ok (a.0.0 ∷ others.0, others.1)) x a.2 in
    let first = cell_takes kind lev bytes a.0 small.0 fits a.1 in
    let second = cells_take kind levels a.0.1 b.0 small.1 first.0.rest_fits b.1 in
    let both = Takes-then bytes (plain a.0.0) a.0.1 (plain_values b.0.0) b.0.1 first.0 second.0 in
    let made : List Cell × List ℕ = (a.0.0 ∷ b.0.0, b.0.1) in
    let heads : map level (a.0.0 ∷ b.0.0) ≡ lev ∷ levels = ap (λ (v : ℕ). v ∷ map level b.0.0) first.1.level ∙ ap (λ (vs : List ℕ). lev ∷ vs) second.1.leveled in
    subst (λ (y : List Cell × List ℕ). Takes bytes (plain_values y.0) y.1 × AreRead kind (lev ∷ levels) y.0) (ok_is made x b.2) (both, record { column = (first.1.column, second.1.column); fit = (first.1.fits, second.1.fit); leveled = heads })

pub cells_again : (kind : CellKind) (cells : List Cell) (rest : List ℕ) → AllByRecursion (IsOfColumn kind false) cells → AllByRecursion Fits cells → cells_at kind (map level cells) (plain_values cells ++ rest) ≡ Ok (cells, rest)
unfolding cells_at
cells_again kind [] rest column fit = refl
cells_again kind (cell ∷ cells) rest column fit =
    let regrouped : plain_values (cell ∷ cells) ++ rest ≡ plain cell ++ (plain_values cells ++ rest) = append_assoc (plain cell) (plain_values cells) rest in
    ap (cells_at kind (map level (cell ∷ cells))) regrouped ∙ rw (cell_again kind cell (plain_values cells ++ rest) column.0 fit.0, cells_again kind cells rest column.1 fit.1) refl

-- ---- cells of a required column

pub weaker : (kind : CellKind) (cells : List Cell) → AllByRecursion (IsOfColumn kind true) cells → AllByRecursion (IsOfColumn kind false) cells
weaker kind [] h = tt
weaker kind (Absent ∷ cells) h = (refl, weaker kind cells h.1)
weaker WholeKind (Whole n ∷ cells) h = (h.0, weaker WholeKind cells h.1)
weaker WholeKind (Bytes b ∷ cells) h = (h.0, weaker WholeKind cells h.1)
weaker BytesKind (Whole n ∷ cells) h = (h.0, weaker BytesKind cells h.1)
weaker BytesKind (Bytes b ∷ cells) h = (h.0, weaker BytesKind cells h.1)

pub all_there : (kind : CellKind) (cells : List Cell) → AllByRecursion (IsOfColumn kind true) cells → map level cells ≡ replicate (length cells) 1
all_there kind [] h = refl
all_there kind (Absent ∷ cells) h = let e : true ≡ false = h.0 in absurd cc
all_there kind (Whole n ∷ cells) h = ap (λ (vs : List ℕ). 1 ∷ vs) (all_there kind cells h.1)
all_there kind (Bytes b ∷ cells) h = ap (λ (vs : List ℕ). 1 ∷ vs) (all_there kind cells h.1)

head_is : (a b : ℕ) (xs ys : List ℕ) → a ∷ xs ≡ b ∷ ys → (a ≡ b) × (xs ≡ ys)
head_is a b xs ys e = (cc, cc)

pub none_absent : (kind : CellKind) (count : ℕ) (cells : List Cell) → AllByRecursion (IsOfColumn kind false) cells → map level cells ≡ replicate count 1 → AllByRecursion (IsOfColumn kind true) cells
none_absent kind count [] h e = tt
none_absent kind zero (cell ∷ cells) h e = absurd cc
none_absent kind (suc count) (Absent ∷ cells) h e = absurd (zero_one (head_is 0 1 (map level cells) (replicate count 1) e).0)
none_absent WholeKind (suc count) (Whole n ∷ cells) h e = (tt, none_absent WholeKind count cells h.1 (head_is 1 1 (map level cells) (replicate count 1) e).1)
none_absent WholeKind (suc count) (Bytes b ∷ cells) h e = absurd h.0
none_absent BytesKind (suc count) (Whole n ∷ cells) h e = absurd h.0
none_absent BytesKind (suc count) (Bytes b ∷ cells) h e = (tt, none_absent BytesKind count cells h.1 (head_is 1 1 (map level cells) (replicate count 1) e).1)
