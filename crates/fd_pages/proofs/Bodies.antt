-- The bodies of pages: what is read is spelled so, and what is spelled so is read.
use Rattle.std.proofs.Common.{◌≡◌, ℕ, ◌+◌, ◌^◌, ◌<◌, ◌≤◌, Bool, true, false, cond, eqb, List, [], ◌++◌, length, map, take, drop, replicate, Result, Ok, Err, IfOk, refl, sym, ap, subst, ◌∙◌, append_assoc, arith}
use Rattle.std.specs.Prelude.{slice_range, ◌-◌}
use Rattle.std.specs.List.{AllByRecursion}
use Rattle.std.proofs.lemmas.Bool.{eqb-true}
use Rattle.std.proofs.lemmas.List.{append-nil, nil_from_length, length-map, length-replicate, length-take-le, length-append, take_at, take-append-drop, drop-drop, length-drop}
use Rattle.std.proofs.lemmas.List.Elements.{All-from_recursion, recursion_from_All, All-replicate}
use Rattle.fd_hybrid.specs.Refusals.{Spells}
use Rattle.fd_hybrid.specs.Format.{IsSpelling}
use Rattle.fd_pages.specs.declared.cell.CellKind.{CellKind}
use Rattle.fd_pages.specs.declared.cell.Cell.{Cell}
use Rattle.fd_pages.specs.declared.fault.PageFault.{PageFault}
use Rattle.fd_pages.specs.declared.fault.PageFault.TheVariants.{BadPage, NoMemory}
use Rattle.fd_pages.specs.Columns.{IsOfColumn, Fits, sized, plain_values, level}
use Rattle.fd_pages.specs.Pages.{header_bytes, IsBody, IsPage, IsPageAt, BeginsPage, Gives}
use Rattle.fd_pages.specs.Reader.{DecodesOrRunsOut, sized_at, cells_at, ended, AreCells}
use Rattle.fd_pages.proofs.Numbers.{IsBytes, ok_is, sized_takes, sized_again}
use Rattle.fd_pages.proofs.ValueLaws.{levels_fit, parts_within}
use Rattle.fd_pages.proofs.CellLaws.{cells_take, cells_again, weaker, all_there, none_absent}

guard_ended : {A : Type 0} (b : Bool) (d : PageFault) (x y : A) → cond b (Ok x) (Err d) ≡ Ok y → (b ≡ true) × (x ≡ y)
guard_ended true d x y e = (refl, cc)
guard_ended false d x y e = absurd cc

pub not_ok : {A : Type 0} (e : PageFault) (x : A) → Err e ≡ Ok x → ⊥
not_ok e x h = absurd cc

-- nothing is left behind what all of the bytes are read as
pub ended_ok : (read : Result (List Cell × List ℕ) PageFault) (cells : List Cell) → ended read ≡ Ok cells → read ≡ Ok (cells, [])
ended_ok (Err e) cells h = absurd cc
ended_ok (Ok x) cells h =
    let g = guard_ended (eqb (length x.1) 0) BadPage x.0 cells h in
    let nothing : x.1 ≡ [] = nil_from_length x.1 (eqb-true _ _ g.0) in
    ap (λ (xs : List Cell). Ok (xs, x.1)) g.1 ∙ ap (λ (ys : List ℕ). Ok (cells, ys)) nothing

pub gives : (r : Result (List Cell) PageFault) (read : Result (List Cell) PageFault) (cells : List Cell) → DecodesOrRunsOut (λ x. x) r read → read ≡ Ok cells → Gives r (Ok cells)
gives (Ok x) read cells h e = sym h ∙ e
gives (Err NoMemory) read cells h e = tt
gives (Err BadPage) read cells h e = sym h ∙ e

-- an answer that gives an error in place of a value is want of memory
pub gives_other : {A B : Type 0} (e : PageFault) (x : A) (y : B) → Gives (Err e) (Ok x) → Gives (Err e) (Ok y)
gives_other NoMemory x y h = tt
gives_other BadPage x y h = absurd (not_ok BadPage x h)

-- ---- required columns

pub required_read : (kind : CellKind) (count : ℕ) (bytes : List ℕ) (cells : List Cell) → IsBytes bytes → ended (cells_at kind (replicate count 1) bytes) ≡ Ok cells → AreCells kind true count cells × IsBody true cells bytes
required_read kind count bytes cells fits e =
    let small : AllByRecursion (λ v. v < 2) (replicate count 1) = recursion_from_All (λ v. v < 2) (replicate count 1) (All-replicate (λ v. v < 2) count 1 (omega arith)) in
    let t = cells_take kind (replicate count 1) bytes (cells, []) small fits (ended_ok (cells_at kind (replicate count 1) bytes) cells e) in
    let counted : length cells ≡ count = sym (length-map cells level) ∙ ap length t.1.leveled ∙ length-replicate count 1 in
    let there : AllByRecursion (IsOfColumn kind true) cells = none_absent kind count cells t.1.column t.1.leveled in
    (record { counted = counted; column = All-from_recursion (IsOfColumn kind true) cells there; fit = All-from_recursion Fits cells t.1.fit }, t.0.parts ∙ append-nil (plain_values cells))

pub required_again : (kind : CellKind) (count : ℕ) (bytes : List ℕ) (cells : List Cell) → AreCells kind true count cells → bytes ≡ plain_values cells → ended (cells_at kind (replicate count 1) bytes) ≡ Ok cells
required_again kind count bytes cells are e =
    let there : AllByRecursion (IsOfColumn kind true) cells = recursion_from_All (IsOfColumn kind true) cells are.column in
    let fit : AllByRecursion Fits cells = recursion_from_All Fits cells are.fit in
    let levels : replicate count 1 ≡ map level cells = ap (λ k. replicate k 1) (sym are.counted) ∙ sym (all_there kind cells there) in
    let whole : bytes ≡ plain_values cells ++ [] = e ∙ sym (append-nil (plain_values cells)) in
    let read : cells_at kind (replicate count 1) bytes ≡ Ok (cells, []) = ap (λ ls. cells_at kind ls bytes) levels ∙ ap (cells_at kind (map level cells)) whole ∙ cells_again kind cells [] (weaker kind cells there) fit in
    rw read refl

pub required_found : (kind : CellKind) (count : ℕ) (bytes : List ℕ) (r : Result (List Cell) PageFault) → IsBytes bytes → DecodesOrRunsOut (λ x. x) r (ended (cells_at kind (replicate count 1) bytes)) → IfOk r (λ cells. AreCells kind true count cells × IsBody true cells bytes)
required_found kind count bytes (Ok cells) fits h = required_read kind count bytes cells fits h
required_found kind count bytes (Err e) fits h = tt

-- ---- optional columns

pub optional_read : (kind : CellKind) (count : ℕ) (body runs values levels : List ℕ) (cells : List Cell) → IsBytes body → sized_at body ≡ Ok (runs, values) → Spells 1 count runs levels → ended (cells_at kind levels values) ≡ Ok cells
    → AreCells kind false count cells × IsBody false cells body
optional_read kind count body runs values levels cells fits sized_is spelled e =
    let s = sized_takes body runs values fits sized_is in
    let small : AllByRecursion (λ v. v < 2) levels = recursion_from_All (λ v. v < 2) levels spelled.0.1 in
    let t = cells_take kind levels values (cells, []) small s.0.rest_fits (ended_ok (cells_at kind levels values) cells e) in
    let counted : length cells ≡ count = sym (length-map cells level) ∙ ap length t.1.leveled ∙ spelled.0.0 in
    let parts : body ≡ sized runs ++ plain_values cells = s.0.parts ∙ ap (λ x. sized runs ++ x) (t.0.parts ∙ append-nil (plain_values cells)) in (
      record { counted = counted; column = All-from_recursion (IsOfColumn kind false) cells t.1.column; fit = All-from_recursion Fits cells t.1.fit },
      (runs, subst (λ ls. IsSpelling 1 ls runs) (sym t.1.leveled) spelled.1, parts),
    )

pub optional_found : (kind : CellKind) (count : ℕ) (body runs values levels : List ℕ) (r : Result (List Cell) PageFault) → IsBytes body → sized_at body ≡ Ok (runs, values) → Spells 1 count runs levels
    → DecodesOrRunsOut (λ x. x) r (ended (cells_at kind levels values)) → IfOk r (λ cells. AreCells kind false count cells × IsBody false cells body)
optional_found kind count body runs values levels (Ok cells) fits sized_is spelled h = optional_read kind count body runs values levels cells fits sized_is spelled h
optional_found kind count body runs values levels (Err e) fits sized_is spelled h = tt

-- the length and the runs in the body of these cells are read so
pub optional_sized : (runs body : List ℕ) (cells : List Cell) → length body < 2 ^ 31 → body ≡ sized runs ++ plain_values cells → sized_at body ≡ Ok (runs, plain_values cells)
optional_sized runs body cells small e =
    let within = parts_within runs (plain_values cells) (2 ^ 31) (subst (λ x. length x < 2 ^ 31) e small) in
    ap sized_at e ∙ sized_again runs (plain_values cells) (omega (arith, within.0))

pub optional_levels : (kind : CellKind) (count : ℕ) (runs : List ℕ) (cells : List Cell) → AreCells kind false count cells → IsSpelling 1 (map level cells) runs → Spells 1 count runs (map level cells)
optional_levels kind count runs cells are spelled =
    ((length-map cells level ∙ are.counted, All-from_recursion (λ v. v < 2 ^ 1) (map level cells) (levels_fit cells)), spelled)

pub optional_again : (kind : CellKind) (count : ℕ) (cells : List Cell) → AreCells kind false count cells → ended (cells_at kind (map level cells) (plain_values cells)) ≡ Ok cells
optional_again kind count cells are =
    let read : cells_at kind (map level cells) (plain_values cells) ≡ Ok (cells, []) =
    ap (cells_at kind (map level cells)) (sym (append-nil (plain_values cells))) ∙ cells_again kind cells [] (recursion_from_All (IsOfColumn kind false) cells are.column) (recursion_from_All Fits cells are.fit) in
    rw read refl

-- ---- pages

-- a header, a body and what is behind it
pub page_begins : (kind : CellKind) (required : Bool) (count size : ℕ) (bytes rest body behind : List ℕ) (cells : List Cell) → 0 < count → count ≤ 1000 → size < 2 ^ 31 → size ≤ length rest
    → bytes ≡ header_bytes count size ++ rest → body ≡ take size rest → behind ≡ drop size rest → AreCells kind required count cells × IsBody required cells body → BeginsPage kind required count bytes cells behind
page_begins kind required count size bytes rest body behind cells some few small within whole body-is behind-is (are, spelled) =
    let len : length body ≡ size = ap length body-is ∙ length-take-le size rest within in
    let parts : rest ≡ body ++ behind = sym (take-append-drop size rest) ∙ ap (λ x. x ++ drop size rest) (sym body-is) ∙ ap (λ x. body ++ x) (sym behind-is) in
    let page : List ℕ = header_bytes (length cells) (length body) ++ body in
    let same : header_bytes count size ≡ header_bytes (length cells) (length body) = ap (λ k. header_bytes k size) (sym are.counted) ∙ ap (header_bytes (length cells)) (sym len) in
    record {
      front = page;
      whole = whole ∙ ap (λ x. x ++ rest) same ∙ ap (λ x. header_bytes (length cells) (length body) ++ x) parts ∙ sym (append_assoc (header_bytes (length cells) (length body)) body behind);
      counted = are.counted;
      page = record { some = omega (arith, are.counted); few = omega (arith, are.counted); column = are.column; fit = are.fit; body = body; spelled = spelled; small = omega arith; whole = refl };
    }

pub record Parts (kind : CellKind) (required : Bool) (count : ℕ) (bytes : List ℕ) (cells : List Cell) (behind : List ℕ) : Type 0 where
  pub body : List ℕ
  pub are : AreCells kind required count cells
  pub spelled : IsBody required cells body
  pub some : 0 < count
  pub few : count ≤ 1000
  pub small : length body < 2 ^ 31
  pub whole : bytes ≡ header_bytes count (length body) ++ (body ++ behind)

-- a page is a header and a body
pub page_parts : (kind : CellKind) (required : Bool) (count : ℕ) (bytes : List ℕ) (cells : List Cell) (behind : List ℕ) → BeginsPage kind required count bytes cells behind → Parts kind required count bytes cells behind
page_parts kind required count bytes cells behind b =
    let p = b.page in
    record {
      body = p.body;
      are = record { counted = b.counted; column = p.column; fit = p.fit };
      spelled = p.spelled;
      some = omega (arith, b.counted, p.some);
      few = omega (arith, b.counted, p.few);
      small = p.small;
      whole = b.whole ∙ ap (λ x. x ++ behind) p.whole ∙ append_assoc (header_bytes (length cells) (length p.body)) p.body behind ∙ ap (λ k. header_bytes k (length p.body) ++ (p.body ++ behind)) b.counted;
    }

abbrev split : List ℕ → List ℕ → Result (List ℕ × List ℕ) PageFault
split a b = Ok (a, b)

pub split_is : (a b x y : List ℕ) → split a b ≡ split x y → (a ≡ x) × (b ≡ y)
split_is a b x y e =
    let same : (a, b) ≡ (x, y) = ok_is (a, b) (x, y) e in
    (ap (λ (p : List ℕ × List ℕ). p.0) same, ap (λ (p : List ℕ × List ℕ). p.1) same)

abbrev given : List ℕ → Result (List ℕ) PageFault
given xs = Ok xs

pub levels_same : (a b : List ℕ) → given a ≡ given b → a ≡ b
levels_same a b e = ok_is a b e

-- ---- places

-- the page at a place begins what is there
pub place_begins : (kind : CellKind) (required : Bool) (count : ℕ) (bytes : List ℕ) (at : ℕ) (cells : List Cell) (end : ℕ) → IsPageAt kind required count bytes at cells end → BeginsPage kind required count (drop at bytes) cells (drop end bytes)
place_begins kind required count bytes at cells end p =
    let e : at + (end - at) ≡ end = omega (arith, p.begin) in
    record {
      front = slice_range bytes at end;
      whole = sym (take-append-drop (end - at) (drop at bytes)) ∙ ap (λ x. take (end - at) (drop at bytes) ++ x) (drop-drop (end - at) at bytes ∙ ap (λ k. drop k bytes) e);
      counted = p.counted;
      page = p.page;
    }

-- what is in front of the bytes at a place is the page at that place
pub begins_place : (kind : CellKind) (required : Bool) (count : ℕ) (bytes : List ℕ) (at : ℕ) (cells : List Cell) (rest : List ℕ) → at ≤ length bytes → BeginsPage kind required count (drop at bytes) cells rest
    → IsPageAt kind required count bytes at cells (length bytes - length rest)
begins_place kind required count bytes at cells rest within b =
    let long : length b.front + length rest ≡ length bytes - at = sym (length-append b.front rest) ∙ sym (ap length b.whole) ∙ length-drop at bytes in
    let e : (length bytes - length rest) - at ≡ length b.front = omega (arith, long, within) in
    let page : slice_range bytes at (length bytes - length rest) ≡ b.front = ap (λ k. take k (drop at bytes)) e ∙ ap (take (length b.front)) b.whole ∙ take_at b.front rest (length b.front) refl in
    record {
      begin = omega (arith, long, within);
      within = omega arith;
      counted = b.counted;
      page = subst (IsPage kind required cells) (sym page) b.page;
    }

-- the place behind a page, from what is left
pub end_is : (bytes rest : List ℕ) (end : ℕ) → end ≤ length bytes → rest ≡ drop end bytes → length bytes - length rest ≡ end
end_is bytes rest end within e = omega (arith, ap length e, length-drop end bytes)

pub bad_none : {A : Type 0} (r : Result A PageFault) (y : A) → r ≡ Err BadPage → Gives r (Ok y) → ⊥
bad_none {A} r y e h =
    let refused : Gives {A = A} (Err BadPage) (Ok y) = subst (λ (x : Result A PageFault). Gives x (Ok y)) e h in
    not_ok BadPage y refused

abbrev read : List Cell → List ℕ → Result (List Cell × List ℕ) PageFault
read cells rest = Ok (cells, rest)

pub read_is : (a x : List Cell) (b y : List ℕ) → read a b ≡ read x y → (a ≡ x) × (b ≡ y)
read_is a x b y e =
    let same : (a, b) ≡ (x, y) = ok_is (a, b) (x, y) e in
    (ap (λ (p : List Cell × List ℕ). p.0) same, ap (λ (p : List Cell × List ℕ). p.1) same)
