-- Payloads in bytes: what is read is what was spelled, and what was spelled is read again.
use Rattle.std.proofs.Common.{◌≡◌, ℕ, ◌+◌, ◌*◌, ◌^◌, ◌<◌, ◌≤◌, cond, eqb, List, [], ◌∷◌, ◌++◌, length, All, refl, sym, ap, subst, ◌∙◌, arith}
use Rattle.std.specs.Prelude.{Some, None, sum_by}
use Rattle.std.specs.List.{AllByRecursion}
use Rattle.std.specs.Int.{w64, to_le_bytes}
use Rattle.std.proofs.lemmas.Bool.{eqb-true}
use Rattle.std.proofs.lemmas.Option.{same_Some}
use Rattle.std.proofs.lemmas.List.{append-nil, nil_from_length, length-append}
use Rattle.std.proofs.lemmas.List.Elements.{All-from_recursion, recursion_from_All}
use Rattle.std.proofs.lemmas.List.Sums.{sum_by-cons}
use Rattle.fd_kinds.specs.declared.row.Row.{Row}
use Rattle.fd_kinds.specs.RowSize.{row_size}
use Rattle.fd_kinds.specs.RowSpelling.{row_spelling}
use Rattle.fd_wal.specs.Frames.{Frame, Transactions, Rotation, batch_spelling, IsRow, IsBatch}
use Rattle.fd_wal.specs.Logs.{AreTransactions}
use Rattle.fd_wal.specs.Reading.{◌>>=◌, Reading, number_at, list_at, row_at, batch_at, transactions_at, ended, least_row, least_batch}
use Rattle.fd_wal.proofs.Numbers.{IsBytes, bind_some, guard_passed, Takes, Takes-then, wide64, number_takes, number_again}
use Rattle.fd_wal.proofs.Many.{list_spelling, list_take, list_again}
use Rattle.fd_wal.proofs.Rows.{RowFits, row_takes, row_again, row_is, row_fits}

-- ---- batches

-- rows that have a spelling
pub record BatchFits (rows : List Row) : Type 0 where
  pub few : length rows < 2 ^ 32
  pub each : AllByRecursion RowFits rows

least_of_row : (r : Row) → least_row ≤ length (row_spelling r)
least_of_row r = simp length-append (omega arith)

least_of_batch : (rows : List Row) → least_batch ≤ length (batch_spelling rows)
least_of_batch rows = omega arith

pub batch_takes : (bytes : List ℕ) (x : List Row × List ℕ) → IsBytes bytes → batch_at bytes ≡ Some x → Takes bytes (batch_spelling x.0) x.1 × BatchFits x.0
unfolding batch_at
batch_takes bytes x fits e =
    let t = list_take least_row row_at row_spelling RowFits row_takes bytes x fits e in
    (t.0, record { few = t.1; each = t.2 })

pub batch_again : (rows : List Row) (rest : List ℕ) → BatchFits rows → batch_at (batch_spelling rows ++ rest) ≡ Some (rows, rest)
unfolding batch_at
batch_again rows rest fit = list_again least_row row_at row_spelling RowFits row_again least_of_row rows rest fit.few fit.each

-- rows of so few bytes
rows_fit : (rows : List Row) → AllByRecursion IsRow rows → sum_by row_size rows < 2 ^ 32 → AllByRecursion RowFits rows × (64 * length rows ≤ sum_by row_size rows)
rows_fit [] all small = (tt, omega arith)
rows_fit (r ∷ rows) all small =
    let split : sum_by row_size (r ∷ rows) ≡ row_size r + sum_by row_size rows = sum_by-cons row_size r rows in
    let more = rows_fit rows all.1 (omega (arith, split, small)) in
    let few = more.1 in
    ((row_fits r all.0 (omega (arith, split, small)), more.0), omega (arith, split, few))

pub batch_fits : (rows : List Row) → All IsRow rows → sum_by row_size rows < 2 ^ 32 → BatchFits rows
batch_fits rows all small =
    let found = rows_fit rows (recursion_from_All IsRow rows all) small in
    let few = found.1 in
    record { few = omega (arith, few, small); each = found.0 }

rows_are : (rows : List Row) → AllByRecursion RowFits rows → AllByRecursion IsRow rows
rows_are [] all = tt
rows_are (r ∷ rows) all = (row_is r all.0, rows_are rows all.1)

pub batch_is : (rows : List Row) → BatchFits rows → All IsRow rows
batch_is rows fit = All-from_recursion IsRow rows (rows_are rows fit.each)

-- ---- payloads

-- what stands behind the kind of transactions
abbrev pub transactions_body : ℕ → List (List Row) → List ℕ
transactions_body first batches = to_le_bytes w64 first ++ list_spelling batch_spelling batches

-- a frame whose payload is read
abbrev pub FrameFits : Frame → Type 0
FrameFits (Transactions first batches) = (first < 2 ^ 64) × (length batches < 2 ^ 32) × AllByRecursion BatchFits batches
FrameFits (Rotation hi) = hi < 2 ^ 64

pub ended_is : {A : Type 0} (r : Reading A) (y : A) → ended r ≡ Some y → r ≡ Some (y, [])
ended_is {A} r y e =
    let a = bind_some r (λ x. cond (eqb (length x.1) 0) (Some x.0) None) y e in
    let g = guard_passed (eqb (length a.0.1) 0) a.0.0 y a.2 in
    let none : a.0.1 ≡ [] = nil_from_length a.0.1 (eqb-true _ _ g.0) in
    a.1 ∙ ap (λ (rest : List ℕ). Some (a.0.0, rest)) none ∙ ap (λ (x : A). Some (x, [])) g.1

pub ended_whole : {A : Type 0} (r : Reading A) (y : A) → r ≡ Some (y, []) → ended r ≡ Some y
ended_whole r y e = rw e refl

one_kind : (m n : ℕ) (a b : List (List Row)) → Transactions m a ≡ Transactions n b → (m ≡ n) × (a ≡ b)
one_kind m n a b e = (cc, cc)

-- the bytes behind the kind, where they are read as transactions
pub transactions_take : (bytes : List ℕ) (first : ℕ) (batches : List (List Row)) → IsBytes bytes → ended (transactions_at bytes) ≡ Some (Transactions first batches)
    → (bytes ≡ transactions_body first batches) × FrameFits (Transactions first batches)
unfolding transactions_at
transactions_take bytes first batches fits e =
    let whole = ended_is (transactions_at bytes) (Transactions first batches) e in
    let x : Frame × List ℕ = (Transactions first batches, []) in
    let a = bind_some (number_at w64 bytes) (λ n. list_at least_batch batch_at n.1 >>= λ bs. Some (Transactions n.0 bs.0, bs.1)) x whole in
    let b = bind_some (list_at least_batch batch_at a.0.1) (λ bs. Some (Transactions a.0.0 bs.0, bs.1)) x a.2 in
    let n = number_takes w64 (2 ^ 64) wide64 bytes a.0 fits a.1 in
    let t = list_take least_batch batch_at batch_spelling BatchFits batch_takes a.0.1 b.0 n.0.rest_fits b.1 in
    let both = Takes-then n.0 t.0 in
    let made : Frame × List ℕ = (Transactions a.0.0 b.0.0, b.0.1) in
    let same : made ≡ x = same_Some made x b.2 in
    let parts = one_kind a.0.0 first b.0.0 batches (ap (λ (y : Frame × List ℕ). y.0) same) in
    let none : b.0.1 ≡ [] = ap (λ (y : Frame × List ℕ). y.1) same in (
      both.parts
          ∙ ap (λ (rest : List ℕ). transactions_body a.0.0 b.0.0 ++ rest) none
          ∙ append-nil (transactions_body a.0.0 b.0.0)
          ∙ ap (λ (m : ℕ). transactions_body m b.0.0) parts.0
          ∙ ap (λ (bs : List (List Row)). transactions_body first bs) parts.1,
      (
        subst (λ (m : ℕ). m < 2 ^ 64) parts.0 n.1,
        subst (λ (bs : List (List Row)). length bs < 2 ^ 32) parts.1 t.1,
        subst (λ (bs : List (List Row)). AllByRecursion BatchFits bs) parts.1 t.2,
      ),
    )

pub transactions_again : (first : ℕ) (batches : List (List Row)) → FrameFits (Transactions first batches) → ended (transactions_at (transactions_body first batches)) ≡ Some (Transactions first batches)
unfolding transactions_at
transactions_again first batches fit =
    let listed : list_at least_batch batch_at (list_spelling batch_spelling batches) ≡ Some (batches, []) =
    ap (list_at least_batch batch_at) (sym (append-nil (list_spelling batch_spelling batches)))
    ∙ list_again least_batch batch_at batch_spelling BatchFits batch_again least_of_batch batches [] fit.1 fit.2 in
    ended_whole (transactions_at (transactions_body first batches)) (Transactions first batches)
    (rw (number_again w64 (2 ^ 64) wide64 first (list_spelling batch_spelling batches) fit.0, listed) refl)

-- ---- which frames are read

batches_fit : (batches : List (List Row)) → AllByRecursion IsBatch batches → AllByRecursion BatchFits batches
batches_fit [] all = tt
batches_fit (rows ∷ batches) all =
    let small = all.0.ordered.small in
    (batch_fits rows all.0.each (omega (arith, small)), batches_fit batches all.1)

pub transactions_fit : (first : ℕ) (batches : List (List Row)) → AreTransactions first batches → FrameFits (Transactions first batches)
transactions_fit first batches are =
    let below = are.below in
    (omega (arith, below), are.few, batches_fit batches (recursion_from_All IsBatch batches are.each))
