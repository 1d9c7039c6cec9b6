-- The rows at the places that count are the rows that count.
use Rattle.std.proofs.Common.{◌≡◌, ℕ, zero, suc, ◌<◌, ◌+◌, Bool, true, false, cond, List, [], ◌∷◌, ◌++◌, map, length, take, get_or, refl, sym, ◌∙◌, ap, subst, arith}
use Rattle.std.specs.Prelude.{filter, All, Some, None}
use Rattle.std.specs.List.{range_with_len}
use Rattle.std.proofs.lemmas.List.{take-map}
use Rattle.std.proofs.lemmas.List.FromFn.{fill_by_all}
use Rattle.std.proofs.lemmas.List.Elements.{filter-append, All-filter, All-nil, All-cons}
use Rattle.fd_kinds.specs.declared.row.Row.{Row}
use Rattle.fd_kinds.specs.declared.row.Numbered.{Numbered}
use Rattle.fd_kinds.specs.declared.query.Query.{Query}
use Rattle.fd_kinds.specs.declared.query.Query.TheVariants as query
use Rattle.fd_kinds.specs.Parts.{rows_of}
use Rattle.fd_scan.specs.declared.aggregate.Gathered.{Gathered}
use Rattle.fd_scan.specs.Aggregates.{counts, counted, AreGroups, AreGathered}
use Rattle.fd_scan.specs.RowPlaces.{row_at, rows_at, empty_row, places_of}

row_got : (rows : List Numbered) (at : ℕ) → at < length rows → get_or (rows_of rows) at empty_row ≡ row_at rows at
unfolding row_at
row_got [] at h = refl
row_got (n ∷ ns) zero h = refl
row_got (n ∷ ns) (suc at) h = row_got ns at (omega arith)

length_rows : (rows : List Numbered) → length (rows_of rows) ≡ length rows
length_rows [] = refl
length_rows (n ∷ ns) = ap suc (length_rows ns)

rows_are : (rows : List Numbered) → rows_of rows ≡ rows_at rows (places_of rows)
rows_are rows = fill_by_all (row_at rows) (rows_of rows) (length rows) empty_row (length_rows rows) (λ at h. row_got rows at h)

filter_rows : {X Y : Type 0} (f : X → Y) (p : Y → Bool) (xs : List X) → filter p (map f xs) ≡ map f (filter (λ x. p (f x)) xs)
filter_rows f p [] = refl
filter_rows f p (x ∷ xs) = by (p (f x)) (filter_rows f p xs)
  where
    by : (b : Bool) → filter p (map f xs) ≡ map f (filter (λ x. p (f x)) xs) → cond b (f x ∷ filter p (map f xs)) (filter p (map f xs)) ≡ map f (cond b (x ∷ filter (λ x. p (f x)) xs) (filter (λ x. p (f x)) xs))
    by true e = ap (λ l. f x ∷ l) e
    by false e = e

counted_is : (q : Query) (rows : List Row) → counted q rows ≡ filter (counts q) rows
counted_is (query.Types window) rows = refl
counted_is (query.LabelNames None window) rows = refl
counted_is (query.LabelNames (Some selector) window) rows = refl
counted_is (query.Values name None window) rows = refl
counted_is (query.Values name (Some selector) window) rows = refl
counted_is (query.Series None window) rows = refl
counted_is (query.Series (Some selector) window) rows = refl
counted_is (query.Range selector window) rows = refl
counted_is (query.Merge selector window) rows = refl

counted_append : (q : Query) (before rows : List Row) → counted q (before ++ rows) ≡ counted q before ++ counted q rows
counted_append q before rows =
    counted_is q (before ++ rows)
    ∙ filter-append (counts q) before rows
    ∙ (λ i. sym (counted_is q before) i ++ sym (counted_is q rows) i)

-- the places that count
abbrev pub counting : Query → List Numbered → List ℕ
counting q rows = filter (λ at. counts q (row_at rows at)) (places_of rows)

rows_counted : (q : Query) (rows : List Numbered) → rows_at rows (counting q rows) ≡ counted q (rows_of rows)
rows_counted q rows =
    sym (filter_rows (row_at rows) (counts q) (places_of rows))
    ∙ ap (filter (counts q)) (sym (rows_are rows))
    ∙ sym (counted_is q (rows_of rows))

-- a first part of what is kept is what is kept of a first part
first_part : {X : Type 0} (p : X → Bool) (xs : List X) (k : ℕ) → (j : ℕ) × (filter p (take j xs) ≡ take k (filter p xs))
first_part p xs zero = (0, refl)
first_part p [] (suc k) = (0, refl)
first_part p (x ∷ xs) (suc k) = by (p x) refl (first_part p xs k) (first_part p xs (suc k))
  where
    by : (b : Bool) → p x ≡ b → ((j : ℕ) × (filter p (take j xs) ≡ take k (filter p xs))) → ((j : ℕ) × (filter p (take j xs) ≡ take (suc k) (filter p xs))) → (j : ℕ) × (filter p (take j (x ∷ xs)) ≡ take (suc k) (filter p (x ∷ xs)))
    by true kept (j, e) (i, f) = (suc j, rw kept (ap (λ l. x ∷ l) e))
    by false left (j, e) (i, f) = (suc i, rw left f)

-- ---- what was gathered

pub gathered_all : (q : Query) (rows : List Numbered) (places : List ℕ) (old new : Gathered)
    → places ≡ counting q rows
    → ((query : Query) → (more : List Row) → AreGroups query more old.groups → AreGroups query (more ++ rows_at rows places) new.groups)
    → (before : List Row) → AreGathered q before old → AreGathered q (before ++ rows_of rows) new
gathered_all q rows places old new are step before held = record {
  groups =
      subst (λ l. AreGroups q l new.groups)
      (ap (λ l. counted q before ++ l) (ap (rows_at rows) are ∙ rows_counted q rows) ∙ sym (counted_append q before (rows_of rows)))
      (step q (counted q before) held.groups);
}

pub gathered_first : (q : Query) (rows : List Numbered) (places : List ℕ) (old new : Gathered)
    → places ≡ counting q rows
    → ((k : ℕ) × ((query : Query) → (more : List Row) → AreGroups query more old.groups → AreGroups query (more ++ rows_at rows (take k places)) new.groups))
    → (k : ℕ) × ((before : List Row) → AreGathered q before old → AreGathered q (before ++ take k (rows_of rows)) new)
gathered_first q rows places old new are (k, step) =
    let part : (j : ℕ) × (filter (counts q) (take j (rows_of rows)) ≡ take k (filter (counts q) (rows_of rows))) = first_part (counts q) (rows_of rows) k in
    let same : rows_at rows (take k places) ≡ counted q (take part.0 (rows_of rows)) =
    sym (take-map (row_at rows) k places)
    ∙ ap (take k) (ap (rows_at rows) are ∙ rows_counted q rows ∙ counted_is q (rows_of rows))
    ∙ sym part.1
    ∙ sym (counted_is q (take part.0 (rows_of rows))) in (
      part.0,
      λ before held. record {
        groups =
            subst (λ l. AreGroups q l new.groups)
            (ap (λ l. counted q before ++ l) same ∙ sym (counted_append q before (take part.0 (rows_of rows))))
            (step q (counted q before) held.groups);
      },
    )

-- ---- the places lie in the columns

ranged : (a n : ℕ) → All (λ at. at < a + n) (range_with_len a n)
ranged a zero = All-nil (λ at. at < a + zero)
ranged a (suc n) =
    All-cons (λ at. at < a + suc n) a (range_with_len (a + 1) n) (omega arith)
    (let same : a + 1 + n ≡ a + suc n = omega arith in subst (λ m. All (λ at. at < m) (range_with_len (a + 1) n)) same (ranged (a + 1) n))

pub places_inside : (q : Query) (rows : List Numbered) (places : List ℕ) → places ≡ counting q rows → All (λ at. at < length rows) places
places_inside q rows places are =
    let all : All (λ at. at < length rows) (places_of rows) = let same : 0 + length rows ≡ length rows = omega arith in subst (λ m. All (λ at. at < m) (places_of rows)) same (ranged 0 (length rows)) in
    subst (All (λ at. at < length rows)) (sym are) (All-filter (λ at. counts q (row_at rows at)) (λ at. at < length rows) (places_of rows) all)
