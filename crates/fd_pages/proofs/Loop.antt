-- Reading cells one after the other, as a loop does.
use Rattle.std.proofs.Common.{◌≡◌, ℕ, suc, ◌-◌, ◌+◌, ◌≤◌, ◌<◌, List, [], ◌∷◌, ◌++◌, length, drop, replicate, get_or, Result, Ok, Err, refl, sym, ap, ◌∙◌, subst, append_assoc, arith}
use Rattle.std.proofs.lemmas.List.{append-nil, drop_more, drop_all}
use Rattle.fd_pages.specs.declared.cell.CellKind.{CellKind}
use Rattle.fd_pages.specs.declared.cell.Cell.{Cell}
use Rattle.fd_pages.specs.declared.fault.PageFault.{PageFault}
use Rattle.fd_pages.specs.declared.fault.PageFault.TheVariants.{BadPage, NoMemory}
use Rattle.fd_pages.specs.Reader.{◌>>=◌, Fails, cell_at, cells_at, with_front}

regroup : (front : List Cell) (cell : Cell) (read : Result (List Cell × List ℕ) PageFault) → with_front front (read >>= λ x. Ok (cell ∷ x.0, x.1)) ≡ with_front (front ++ cell ∷ []) read
regroup front cell (Ok x) = ap (λ (cells : List Cell). Ok (cells, x.1)) (simp append_assoc)
regroup front cell (Err e) = refl

pub goes_on : (kind : CellKind) (front : List Cell) (level : ℕ) (levels bytes : List ℕ) (cell : Cell) (after : List ℕ) (total : Result (List Cell × List ℕ) PageFault) → cell_at kind level bytes ≡ Ok (cell, after)
    → with_front front (cells_at kind (level ∷ levels) bytes) ≡ total → with_front (front ++ cell ∷ []) (cells_at kind levels after) ≡ total
unfolding cells_at
goes_on kind front level levels bytes cell after total h so_far =
    let one : with_front front (cells_at kind (level ∷ levels) bytes) ≡ with_front (front ++ cell ∷ []) (cells_at kind levels after) = rw h (regroup front cell (cells_at kind levels after)) in
    sym one ∙ so_far

pub ends : (e : PageFault) (kind : CellKind) (front : List Cell) (level : ℕ) (levels bytes : List ℕ) (total : Result (List Cell × List ℕ) PageFault) → Fails e (cell_at kind level bytes)
    → with_front front (cells_at kind (level ∷ levels) bytes) ≡ total → Fails e total
unfolding cells_at
ends NoMemory kind front level levels bytes total h so_far = tt
ends BadPage kind front level levels bytes total h so_far =
    let one : with_front front (cells_at kind (level ∷ levels) bytes) ≡ Err BadPage = rw h refl in
    sym so_far ∙ one

pub is_done : (kind : CellKind) (front : List Cell) (bytes : List ℕ) (total : Result (List Cell × List ℕ) PageFault) → with_front front (cells_at kind [] bytes) ≡ total → total ≡ Ok (front, bytes)
unfolding cells_at
is_done kind front bytes total so_far =
    let one : with_front front (cells_at kind [] bytes) ≡ Ok (front, bytes) = ap (λ (cells : List Cell). Ok (cells, bytes)) (append-nil front) in
    sym so_far ∙ one

-- ---- the levels that are left

pub next_level : (kind : CellKind) (front : List Cell) (levels : List ℕ) (i : ℕ) (bytes : List ℕ) (total : Result (List Cell × List ℕ) PageFault) → i < length levels
    → with_front front (cells_at kind (drop i levels) bytes) ≡ total → with_front front (cells_at kind (get_or levels i 0 ∷ drop (i + 1) levels) bytes) ≡ total
next_level kind front levels i bytes total lt h = subst (λ ls. with_front front (cells_at kind ls bytes) ≡ total) (drop_more levels i 0 lt) h

pub no_level : (kind : CellKind) (front : List Cell) (levels : List ℕ) (i : ℕ) (bytes : List ℕ) (total : Result (List Cell × List ℕ) PageFault) → length levels ≤ i
    → with_front front (cells_at kind (drop i levels) bytes) ≡ total → with_front front (cells_at kind [] bytes) ≡ total
no_level kind front levels i bytes total le h = subst (λ ls. with_front front (cells_at kind ls bytes) ≡ total) (drop_all i levels le) h

pub next_one : (kind : CellKind) (front : List Cell) (count i : ℕ) (bytes : List ℕ) (total : Result (List Cell × List ℕ) PageFault) → i < count
    → with_front front (cells_at kind (replicate (count - i) 1) bytes) ≡ total → with_front front (cells_at kind (1 ∷ replicate (count - (i + 1)) 1) bytes) ≡ total
next_one kind front count i bytes total lt h =
    let e : count - i ≡ suc (count - (i + 1)) = omega arith in
    subst (λ k. with_front front (cells_at kind (replicate k 1) bytes) ≡ total) e h

pub no_one : (kind : CellKind) (front : List Cell) (count i : ℕ) (bytes : List ℕ) (total : Result (List Cell × List ℕ) PageFault) → count ≤ i
    → with_front front (cells_at kind (replicate (count - i) 1) bytes) ≡ total → with_front front (cells_at kind [] bytes) ≡ total
no_one kind front count i bytes total le h =
    let e : count - i ≡ 0 = omega arith in
    subst (λ k. with_front front (cells_at kind (replicate k 1) bytes) ≡ total) e h
