-- The bodies of pages with indexes, by picks and by cells.
use Rattle.std.proofs.Common.{◌≡◌, ℕ, suc, ◌+◌, ◌^◌, ◌<◌, ◌≤◌, Bool, true, false, List, [], ◌∷◌, ◌++◌, length, map, Result, Ok, Err, IfOk, append_assoc, refl, sym, ap, subst, ◌∙◌, arith}
use Rattle.std.specs.Prelude.{All}
use Rattle.std.specs.List.{AllByRecursion}
use Rattle.std.proofs.lemmas.List.{length-map, length-append}
use Rattle.std.proofs.lemmas.List.Elements.{All-from_recursion, recursion_from_All, All-same}
use Rattle.fd_hybrid.specs.Format.{IsSpelling}
use Rattle.fd_hybrid.specs.Refusals.{Spells}
use Rattle.fd_pages.specs.declared.cell.CellKind.TheVariants.{Bytes as BytesKind}
use Rattle.fd_pages.specs.declared.cell.Cell.{Cell}
use Rattle.fd_pages.specs.declared.cell.Cell.TheVariants.{Absent, Whole, Bytes}
use Rattle.fd_pages.specs.Columns.{IsOfColumn, sized, level}
use Rattle.fd_pages.specs.Reader.{sized_at}
use Rattle.fd_pages.specs.Dictionaries.{texts_in, IsWidth, AreIndexes, IsCodeBody}
use Rattle.fd_pages.specs.declared.fault.PageFault.{PageFault}
use Rattle.fd_pages.specs.declared.fault.PageFault.TheVariants.{BadPage, NoMemory}
use Rattle.fd_pages.specs.Pages.{Gives, SeenGives}
use Rattle.fd_codes.proofs.Outcomes.{not_ok}
use Rattle.fd_codes.proofs.Numbers.{IsBytes, ok_is, sized_takes, sized_again}
use Rattle.fd_codes.specs.Picks.{picked_cell, picked_cells, IsPick, pick_level, pick_indexes, present, spread}
use Rattle.fd_codes.specs.Codes.{ArePicks, HasBody, IsPickBody, AreSpread, AddsLevels, AddsIndexes}
use Rattle.fd_codes.proofs.Lengths.{spelling_short}
use Rattle.fd_codes.proofs.PickLaws as picks

-- a level has one bit
levels_fit : (cells : List Cell) → AllByRecursion (λ v. v < 2 ^ 1) (map level cells)
levels_fit [] = tt
levels_fit (Absent ∷ cells) = (omega arith, levels_fit cells)
levels_fit (Whole number ∷ cells) = (omega arith, levels_fit cells)
levels_fit (Bytes bytes ∷ cells) = (omega arith, levels_fit cells)

-- the lengths of an optional column's levels and indexes are those of its body at most
parts_within : (runs indexes : List ℕ) (n : ℕ) → length (sized runs ++ indexes) < n → (length runs < n) × (length indexes < n)
parts_within runs indexes n lt =
    let e : length (sized runs ++ indexes) ≡ 4 + length runs + length indexes = omega (arith, length-append (sized runs) indexes) in
    (omega arith, omega arith)

-- the bytes are the indexes of the cells that are there, behind their width
pub record AreRuns (size : ℕ) (chosen bytes : List ℕ) : Type 0 where
  pub width : ℕ
  pub wide : IsWidth size width
  pub runs : List ℕ
  pub spelled : IsSpelling width (pick_indexes chosen) runs
  pub whole : bytes ≡ width ∷ runs

-- the indexes of the cells that picks stand for
indexes_are : (required : Bool) (texts : List (List ℕ)) (size : ℕ) (chosen bytes : List ℕ) → length texts ≡ size → AllByRecursion (IsPick required size) chosen → AreRuns size chosen bytes → AreIndexes texts (picked_cells texts chosen) bytes
indexes_are required texts size chosen bytes counted within r = record {
  width = r.width;
  wide = subst (λ n. IsWidth n r.width) (sym counted) r.wide;
  indexes = pick_indexes chosen;
  are = picks.texts_at required texts chosen (subst (λ n. AllByRecursion (IsPick required n) chosen) (sym counted) within);
  runs = r.runs;
  spelled = r.spelled;
  whole = r.whole;
}

has_body : (required : Bool) (texts : List (List ℕ)) (size count : ℕ) (chosen body : List ℕ) → AllByRecursion (IsPick required size) chosen → length chosen ≡ count → IsCodeBody required texts (picked_cells texts chosen) body
    → HasBody required texts count body (picked_cells texts chosen)
has_body required texts size count chosen body within counted spelled = record {
  counted = length-map chosen (picked_cell texts) ∙ counted;
  column = All-from_recursion (IsOfColumn BytesKind required) (picked_cells texts chosen) (picks.cells_column required size texts chosen within);
  spelled = spelled;
}

pub required_body : (size count : ℕ) (chosen body : List ℕ) → AllByRecursion (IsPick true size) chosen → length chosen ≡ count → AreRuns size chosen body → IsPickBody true size count body chosen
required_body size count chosen body within counted r = record {
  within = All-from_recursion (IsPick true size) chosen within;
  cells = λ texts same. has_body true texts size count chosen body within counted (indexes_are true texts size chosen body same within r);
}

pub optional_body : (size count : ℕ) (chosen body levels bytes : List ℕ) → AllByRecursion (IsPick false size) chosen → length chosen ≡ count → IsSpelling 1 (map pick_level chosen) levels → AreRuns size chosen bytes → body ≡ sized levels ++ bytes
    → IsPickBody false size count body chosen
optional_body size count chosen body levels bytes within counted spelled r whole = record {
  within = All-from_recursion (IsPick false size) chosen within;
  cells = λ texts same. has_body false texts size count chosen body within counted
      (levels, bytes, subst (λ ls. IsSpelling 1 ls levels) (sym (picks.levels_same texts chosen)) spelled, indexes_are false texts size chosen bytes same within r, whole);
}

-- ---- what is read

pub required_found : (size count : ℕ) (body chosen : List ℕ) → ArePicks size count body chosen → IsPickBody true size count body chosen
required_found size count body chosen p =
    let within = recursion_from_All (λ index. index < size) p.indexes p.within in
    let same : pick_indexes chosen ≡ p.indexes = ap pick_indexes p.are ∙ picks.there_indexes p.indexes in
    required_body size count chosen body
    (subst (λ cs. AllByRecursion (IsPick true size) cs) (sym p.are) (picks.there_picks true size p.indexes within))
    (ap length p.are ∙ length-map p.indexes suc ∙ p.counted)
    (record { width = p.width; wide = p.wide; runs = p.runs; spelled = subst (λ ks. IsSpelling p.width ks p.runs) (sym same) p.spelled; whole = p.whole })

pub optional_found : (size count : ℕ) (body runs bytes levels there chosen : List ℕ) → IsBytes body → sized_at body ≡ Ok (runs, bytes) → Spells 1 count runs levels → ArePicks size (present levels) bytes there → chosen ≡ spread levels there
    → IsPickBody false size count body chosen
optional_found size count body runs bytes levels there chosen fits sized-is spelled p chosen-is =
    let s = sized_takes body runs bytes fits sized-is in
    let small = recursion_from_All (λ v. v < 2) levels spelled.0.1 in
    let within = recursion_from_All (λ index. index < size) p.indexes p.within in
    let are : chosen ≡ spread levels (map suc p.indexes) = chosen-is ∙ ap (spread levels) p.are in
    let same_levels : map pick_level chosen ≡ levels = ap (map pick_level) are ∙ picks.spread_levels levels p.indexes small p.counted in
    let same_indexes : pick_indexes chosen ≡ p.indexes = ap pick_indexes are ∙ picks.spread_indexes levels p.indexes p.counted in
    optional_body size count chosen body runs bytes
    (subst (λ cs. AllByRecursion (IsPick false size) cs) (sym are) (picks.spread_picks size levels p.indexes within))
    (ap length are ∙ picks.spread_counted levels (map suc p.indexes) ∙ spelled.0.0)
    (subst (λ ls. IsSpelling 1 ls runs) (sym same_levels) spelled.1)
    (record { width = p.width; wide = p.wide; runs = p.runs; spelled = subst (λ ks. IsSpelling p.width ks p.runs) (sym same_indexes) p.spelled; whole = p.whole })
    s.0.parts

-- ---- what is spelled

-- the picks of cells that are there, from their indexes
pub picks_spelled : (texts : List (List ℕ)) (size count : ℕ) (cells : List Cell) (bytes : List ℕ) → length texts ≡ size → length (texts_in cells) ≡ count → (p : AreIndexes texts cells bytes) → ArePicks size count bytes (map suc p.indexes)
picks_spelled texts size count cells bytes same counted p = record {
  width = p.width;
  wide = subst (λ n. IsWidth n p.width) same p.wide;
  indexes = p.indexes;
  counted = picks.indexes_counted texts p.indexes (texts_in cells) p.are ∙ counted;
  within = All-from_recursion (λ index. index < size) p.indexes (subst (λ n. AllByRecursion (λ index. index < n) p.indexes) same (picks.indexes_within texts p.indexes (texts_in cells) p.are));
  runs = p.runs;
  spelled = p.spelled;
  whole = p.whole;
  are = refl;
}

pub required_spelled : (texts : List (List ℕ)) (size count : ℕ) (cells : List Cell) (body : List ℕ) → length texts ≡ size → HasBody true texts count body cells
    → (there : List ℕ) × ArePicks size count body there × (picked_cells texts there ≡ cells)
required_spelled texts size count cells body same h =
    let column = recursion_from_All (IsOfColumn BytesKind true) cells h.column in
    let p : AreIndexes texts cells body = h.spelled in
    (map suc p.indexes, picks_spelled texts size count cells body same (picks.there_texts cells column ∙ h.counted) p, picks.there_back texts cells p.indexes column p.are)

-- the parts of the body of an optional column's page
pub record Parts (texts : List (List ℕ)) (size count : ℕ) (body : List ℕ) (cells : List Cell) : Type 0 where
  pub levels : List ℕ
  pub bytes : List ℕ
  pub there : List ℕ
  pub parts : sized_at body ≡ Ok (levels, bytes)
  pub leveled : Spells 1 count levels (map level cells)
  pub picks : ArePicks size (present (map level cells)) bytes there
  pub back : picked_cells texts (spread (map level cells) there) ≡ cells

pub optional_spelled : (texts : List (List ℕ)) (size count : ℕ) (cells : List Cell) (body : List ℕ) → length texts ≡ size → length body < 2 ^ 31 → HasBody false texts count body cells → Parts texts size count body cells
optional_spelled texts size count cells body same small h =
    let column = recursion_from_All (IsOfColumn BytesKind false) cells h.column in
    let levels : List ℕ = h.spelled.0 in
    let bytes : List ℕ = h.spelled.1 in
    let p : AreIndexes texts cells bytes = h.spelled.3 in
    let whole : body ≡ sized levels ++ bytes = h.spelled.4 in
    let within = parts_within levels bytes (2 ^ 31) (subst (λ x. length x < 2 ^ 31) whole small) in
    record {
      levels = levels;
      bytes = bytes;
      there = map suc p.indexes;
      parts = ap sized_at whole ∙ sized_again levels bytes (omega (arith, within.0));
      leveled = ((length-map cells level ∙ h.counted, All-from_recursion (λ v. v < 2 ^ 1) (map level cells) (levels_fit cells)), h.spelled.2);
      picks = picks_spelled texts size (present (map level cells)) cells bytes same (sym (picks.present_texts cells column)) p;
      back = picks.spread_back texts cells p.indexes column p.are;
    }

-- ---- what is written

pub fit_indexes : (required : Bool) (size width : ℕ) (chosen indexes : List ℕ) → indexes ≡ pick_indexes chosen → IsWidth size width → All (IsPick required size) chosen → All (λ v. v < 2 ^ width) indexes
fit_indexes required size width chosen indexes e wide within =
    All-same (λ v. v < 2 ^ width) indexes (pick_indexes chosen) e
    (All-from_recursion (λ v. v < 2 ^ width) (pick_indexes chosen) (picks.indexes_fit required size width chosen wide.holds (recursion_from_All (IsPick required size) chosen within)))

pub fit_levels : (chosen levels : List ℕ) → levels ≡ map pick_level chosen → All (λ v. v < 2 ^ 1) levels
fit_levels chosen levels e = All-same (λ v. v < 2 ^ 1) levels (map pick_level chosen) e (All-from_recursion (λ v. v < 2 ^ 1) (map pick_level chosen) (picks.levels_fit chosen))

pub adds_indexes : (size width : ℕ) (chosen indexes runs old mid new : List ℕ) → IsWidth size width → width ≤ 31 → length chosen ≤ 1000 → indexes ≡ pick_indexes chosen → IsSpelling width indexes runs → mid ≡ old ++ width ∷ [] → new ≡ mid ++ runs
    → AddsIndexes size chosen old new
adds_indexes size width chosen indexes runs old mid new wide most few e spelled mid-is new-is =
    let same : IsSpelling width (pick_indexes chosen) runs = subst (λ ks. IsSpelling width ks runs) e spelled in
    record {
      width = width;
      wide = wide;
      runs = runs;
      spelled = same;
      short = spelling_short width (pick_indexes chosen) runs (omega (arith, most)) (omega (arith, few, picks.indexes_few chosen)) same;
      whole = new-is ∙ ap (λ x. x ++ runs) mid-is ∙ append_assoc old (width ∷ []) runs;
    }

pub levels_short : (chosen levels runs : List ℕ) → length chosen ≤ 1000 → levels ≡ map pick_level chosen → IsSpelling 1 levels runs → length runs ≤ 100000
levels_short chosen levels runs few e spelled = spelling_short 1 levels runs (omega arith) (omega (arith, few, ap length e ∙ length-map chosen pick_level)) spelled

pub adds_levels : (chosen levels runs old new : List ℕ) → length chosen ≤ 1000 → levels ≡ map pick_level chosen → IsSpelling 1 levels runs → new ≡ old ++ sized runs → AddsLevels chosen old new
adds_levels chosen levels runs old new few e spelled new-is =
    let same : IsSpelling 1 (map pick_level chosen) runs = subst (λ ls. IsSpelling 1 ls runs) e spelled in
    record {
      runs = runs;
      spelled = same;
      short = spelling_short 1 (map pick_level chosen) runs (omega arith) (omega (arith, few, length-map chosen pick_level)) same;
      whole = new-is;
    }

written_runs : (size : ℕ) (chosen old new : List ℕ) (a : AddsIndexes size chosen old new) → AreRuns size chosen (a.width ∷ a.runs)
written_runs size chosen old new a = record { width = a.width; wide = a.wide; runs = a.runs; spelled = a.spelled; whole = refl }

pub required_written : (size : ℕ) (chosen out body : List ℕ) → out ≡ [] → All (IsPick true size) chosen → AddsIndexes size chosen out body → IsPickBody true size (length chosen) body chosen
required_written size chosen out body none within a =
    let whole : body ≡ a.width ∷ a.runs = a.whole ∙ ap (λ x. x ++ a.width ∷ a.runs) none in
    required_body size (length chosen) chosen body (recursion_from_All (IsPick true size) chosen within) refl
    (record { width = a.width; wide = a.wide; runs = a.runs; spelled = a.spelled; whole = whole })

pub required_short : (size : ℕ) (chosen out body : List ℕ) → out ≡ [] → AddsIndexes size chosen out body → length body < 2 ^ 31
required_short size chosen out body none a =
    let whole : body ≡ a.width ∷ a.runs = a.whole ∙ ap (λ x. x ++ a.width ∷ a.runs) none in
    omega (arith, ap length whole, a.short)

pub optional_written : (size : ℕ) (chosen out mid body : List ℕ) → out ≡ [] → All (IsPick false size) chosen → AddsLevels chosen out mid → AddsIndexes size chosen mid body → IsPickBody false size (length chosen) body chosen
optional_written size chosen out mid body none within l a =
    let front : mid ≡ sized l.runs = l.whole ∙ ap (λ x. x ++ sized l.runs) none in
    optional_body size (length chosen) chosen body l.runs (a.width ∷ a.runs) (recursion_from_All (IsPick false size) chosen within) refl l.spelled (written_runs size chosen mid body a)
    (a.whole ∙ ap (λ x. x ++ a.width ∷ a.runs) front)

pub optional_short : (size : ℕ) (chosen out mid body : List ℕ) → out ≡ [] → AddsLevels chosen out mid → AddsIndexes size chosen mid body → length body < 2 ^ 31
optional_short size chosen out mid body none l a =
    let front : mid ≡ sized l.runs = l.whole ∙ ap (λ x. x ++ sized l.runs) none in
    let whole : body ≡ sized l.runs ++ a.width ∷ a.runs = a.whole ∙ ap (λ x. x ++ a.width ∷ a.runs) front in
    omega (arith, ap length whole, length-append (sized l.runs) (a.width ∷ a.runs), l.short, a.short)

-- ---- answers

pub required_all : (size count : ℕ) (body : List ℕ) (r : Result (List ℕ) PageFault) → IfOk r (ArePicks size count body) → IfOk r (IsPickBody true size count body)
required_all size count body (Ok chosen) h = required_found size count body chosen h
required_all size count body (Err e) h = tt

pub optional_all : (size count : ℕ) (body runs bytes levels : List ℕ) (r : Result (List ℕ) PageFault) → IsBytes body → sized_at body ≡ Ok (runs, bytes) → Spells 1 count runs levels → IfOk r (AreSpread size levels bytes) → IfOk r (IsPickBody false size count body)
optional_all size count body runs bytes levels (Ok chosen) fits sized-is spelled h = optional_found size count body runs bytes levels h.there chosen fits sized-is spelled h.indexed h.are
optional_all size count body runs bytes levels (Err e) fits sized-is spelled h = tt

-- an answer that gives the picks of cells
pub seen_back : (texts : List (List ℕ)) (r : Result (List ℕ) PageFault) (chosen : List ℕ) (cells : List Cell) → Gives r (Ok chosen) → picked_cells texts chosen ≡ cells → SeenGives {Y = List Cell} (picked_cells texts) r (Ok cells)
seen_back texts (Ok given) chosen cells h e = ap (λ (ps : List ℕ). Ok (picked_cells texts ps)) (ok_is given chosen h) ∙ ap (λ (cs : List Cell). Ok cs) e
seen_back texts (Err NoMemory) chosen cells h e = tt
seen_back texts (Err BadPage) chosen cells h e = absurd (not_ok BadPage chosen h)
