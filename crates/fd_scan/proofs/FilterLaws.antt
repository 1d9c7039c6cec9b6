-- Places that are kept by one test after the other.
use Rattle.std.proofs.Common.{◌≡◌, ℕ, zero, suc, ◌+◌, ◌<◌, Bool, true, false, ◌&&◌, cond, List, [], ◌∷◌, ◌++◌, length, take, get_or, refl, sym, ◌∙◌, ap, arith, bytes_eq, codes, add-one, append-nil}
use Rattle.std.specs.Prelude.{Option, Some, None, filter, unwrap_or, slice_get, All, ◌==◌}
use Rattle.std.specs.List.{list_all, range_with_len}
use Rattle.std.proofs.lemmas.List.Elements.{filter_agree, filter-append}
use Rattle.std.proofs.lemmas.List.Folds.{list_all_more}
use Rattle.fd_kinds.specs.declared.row.Numbered.{Numbered}
use Rattle.fd_kinds.specs.declared.query.Matcher.{Matcher}
use Rattle.fd_kinds.specs.declared.query.MatchOp.{MatchOp}
use Rattle.fd_kinds.specs.declared.query.ProfileType.{ProfileType}
use Rattle.fd_kinds.specs.declared.query.Selector.{Selector}
use Rattle.fd_kinds.specs.declared.query.Window.{Window}
use Rattle.fd_kinds.specs.LabelMaps.{value_of}
use Rattle.fd_kinds.specs.Meaning.{agrees, is_match, is_within, is_selected}
use Rattle.fd_dictionary.specs.Dictionaries.{Cells, entries_of, entry_at, index_in}
use Rattle.fd_column.specs.Cells.{label, columns_of, column_texts}
use Rattle.fd_scan.specs.RowPlaces.{row_at, has_text, has_texts, has_delta, is_in_time, is_entry}
use Rattle.fd_scan.proofs.LookupLaws.{entry_compares, empty_text}
use Rattle.fd_scan.proofs.CellValues.{name_read, sample_type_read, sample_unit_read, period_type_read, period_unit_read, label_read, no_label}

-- ---- filters

pub filter_all : {X : Type 0} (xs : List X) → filter (λ x. true) xs ≡ xs
filter_all [] = refl
filter_all (x ∷ xs) = ap (λ l. x ∷ l) (filter_all xs)

pub filter_twice : {X : Type 0} (p q : X → Bool) (xs : List X) → filter q (filter p xs) ≡ filter (λ x. p x && q x) xs
filter_twice p q [] = refl
filter_twice p q (x ∷ xs) = by (p x) (filter_twice p q xs)
  where
    by : (b : Bool) → filter q (filter p xs) ≡ filter (λ x. p x && q x) xs → filter q (cond b (x ∷ filter p xs) (filter p xs)) ≡ cond (b && q x) (x ∷ filter (λ x. p x && q x) xs) (filter (λ x. p x && q x) xs)
    by true e = ap (λ l. cond (q x) (x ∷ l) l) e
    by false e = e

range_push : (a n : ℕ) → range_with_len a (suc n) ≡ range_with_len a n ++ (a + n) ∷ []
range_push a zero = ap (λ k. k ∷ []) (omega arith)
range_push a (suc n) = ap (λ l. a ∷ l) (range_push (a + 1) n ∙ ap (λ k. range_with_len (a + 1) n ++ k ∷ []) (omega arith))

-- one more place, which the test keeps or does not
places_more : (p : ℕ → Bool) (at : ℕ) → filter p (range_with_len 0 (at + 1)) ≡ filter p (range_with_len 0 at) ++ cond (p at) (at ∷ []) []
places_more p at =
    ap (λ n. filter p (range_with_len 0 n)) (add-one at)
    ∙ ap (filter p) (range_push 0 at ∙ ap (λ k. range_with_len 0 at ++ k ∷ []) (omega arith))
    ∙ filter-append p (range_with_len 0 at) (at ∷ [])

pub place_kept : (p : ℕ → Bool) (at : ℕ) (old new : List ℕ) → p at ≡ true → old ≡ filter p (range_with_len 0 at) → new ≡ old ++ at ∷ [] → new ≡ filter p (range_with_len 0 (at + 1))
place_kept p at old new kept before is =
    is ∙ ap (λ l. l ++ at ∷ []) before ∙ sym (places_more p at ∙ ap (λ b. filter p (range_with_len 0 at) ++ cond b (at ∷ []) []) kept)

pub place_left : (p : ℕ → Bool) (at : ℕ) (old new : List ℕ) → p at ≡ false → old ≡ filter p (range_with_len 0 at) → new ≡ old → new ≡ filter p (range_with_len 0 (at + 1))
place_left p at old new left before is =
    is ∙ before ∙ sym (places_more p at ∙ ap (λ b. filter p (range_with_len 0 at) ++ cond b (at ∷ []) []) left ∙ append-nil (filter p (range_with_len 0 at)))

-- ---- texts

pub texts_kept : (cells : Cells) (op : MatchOp) (text : List ℕ) (wanted : Option ℕ) (empty : Bool) (old new : List ℕ)
    → wanted ≡ entry_at (entries_of cells) text → empty ≡ (length text == 0)
    → new ≡ filter (λ at. agrees op (is_entry wanted empty (index_in cells at))) old
    → new ≡ filter (λ at. agrees op (has_text cells text at)) old
texts_kept cells op text wanted empty old new w e is =
    is ∙ filter_agree _ _ (λ at. (λ i. agrees op (is_entry (w i) (e i) (index_in cells at))) ∙ ap (agrees op) (entry_compares cells text at)) old

pub absent_kept : (op : MatchOp) (text : List ℕ) (agree : Bool) (old new : List ℕ)
    → agree ≡ agrees op (length text == 0)
    → new ≡ filter (λ at. agree) old
    → new ≡ filter (λ at. agrees op (bytes_eq [] text)) old
absent_kept op text agree old new a is = is ∙ ap (λ b. filter (λ (at : ℕ). b) old) (a ∙ ap (agrees op) (empty_text text))

pub labels_kept : (rows : List Numbered) (column : ℕ) (name text : List ℕ) (op : MatchOp) (old new : List ℕ)
    → slice_get (columns_of rows) column ≡ Some (label name)
    → new ≡ filter (λ at. agrees op (has_text (column_texts rows column) text at)) old
    → new ≡ filter (λ at. agrees op (bytes_eq (unwrap_or (value_of (row_at rows at).labels.pairs name) []) text)) old
labels_kept rows column name text op old new there is =
    is ∙ filter_agree _ _ (λ at. ap (λ t. agrees op (bytes_eq t text)) (label_read rows column at name there)) old

pub labels_absent : (rows : List Numbered) (name text : List ℕ) (op : MatchOp) (old new : List ℕ)
    → All (λ n. value_of n.row.labels.pairs name ≡ None) rows
    → new ≡ filter (λ at. agrees op (bytes_eq [] text)) old
    → new ≡ filter (λ at. agrees op (bytes_eq (unwrap_or (value_of (row_at rows at).labels.pairs name) []) text)) old
labels_absent rows name text op old new none is =
    is ∙ filter_agree _ _ (λ at. ap (λ o. agrees op (bytes_eq (unwrap_or o []) text)) (sym (no_label rows at name none))) old

pub names_kept : (rows : List Numbered) (m : Matcher) (old new : List ℕ)
    → bytes_eq m.name (codes "__name__") ≡ true
    → new ≡ filter (λ at. agrees m.op (has_text (column_texts rows 1) m.value at)) old
    → new ≡ filter (λ at. is_match (row_at rows at) m) old
names_kept rows m old new named is =
    is
    ∙ filter_agree _ _
    (λ at.
    ap (λ t. agrees m.op (bytes_eq t m.value)) (name_read rows at)
    ∙ ap (λ b. agrees m.op (bytes_eq (cond b (row_at rows at).name (unwrap_or (value_of (row_at rows at).labels.pairs m.name) [])) m.value)) (sym named))
    old

pub matchers_more : (rows : List Numbered) (ms : List Matcher) (i : ℕ) (m : Matcher) (old mid new : List ℕ)
    → i < length ms → m ≡ get_or ms i m
    → mid ≡ filter (λ at. list_all (is_match (row_at rows at)) (take i ms)) old
    → new ≡ filter (λ at. is_match (row_at rows at) m) mid
    → new ≡ filter (λ at. list_all (is_match (row_at rows at)) (take (i + 1) ms)) old
matchers_more rows ms i m old mid new within is before step =
    step
    ∙ ap (filter (λ at. is_match (row_at rows at) m)) before
    ∙ filter_twice (λ at. list_all (is_match (row_at rows at)) (take i ms)) (λ at. is_match (row_at rows at) m) old
    ∙ filter_agree _ _
    (λ at.
    ap (λ x. list_all (is_match (row_at rows at)) (take i ms) && is_match (row_at rows at) x) is
    ∙ sym (list_all_more (is_match (row_at rows at)) ms i m within))
    old

-- ---- types

pub type_kept : (rows : List Numbered) (kind : ProfileType) (old a b c d e : List ℕ)
    → a ≡ filter (has_text (column_texts rows 1) kind.name) old
    → b ≡ filter (has_text (column_texts rows 2) kind.sample_type) a
    → c ≡ filter (has_text (column_texts rows 3) kind.sample_unit) b
    → d ≡ filter (has_text (column_texts rows 4) kind.period_type) c
    → e ≡ filter (has_text (column_texts rows 5) kind.period_unit) d
    → e ≡ filter (λ at. has_texts kind (row_at rows at)) old
type_kept rows kind old a b c d e ea eb ec ed ee =
    ee
    ∙ ap (filter q) (ed ∙ ap (filter p) (ec ∙ ap (filter u) (eb ∙ ap (filter s) ea ∙ filter_twice n s old) ∙ filter_twice (λ at. n at && s at) u old) ∙ filter_twice (λ at. (n at && s at) && u at) p old)
    ∙ filter_twice (λ at. ((n at && s at) && u at) && p at) q old
    ∙ filter_agree _ _ read old
  where
    n : ℕ → Bool
    n = has_text (column_texts rows 1) kind.name

    s : ℕ → Bool
    s = has_text (column_texts rows 2) kind.sample_type

    u : ℕ → Bool
    u = has_text (column_texts rows 3) kind.sample_unit

    p : ℕ → Bool
    p = has_text (column_texts rows 4) kind.period_type

    q : ℕ → Bool
    q = has_text (column_texts rows 5) kind.period_unit

    read : (at : ℕ) → ((((n at && s at) && u at) && p at) && q at) ≡ has_texts kind (row_at rows at)
    read at = λ i. (((bytes_eq (name_read rows at i) kind.name && bytes_eq (sample_type_read rows at i) kind.sample_type) && bytes_eq (sample_unit_read rows at i) kind.sample_unit) && bytes_eq (period_type_read rows at i) kind.period_type) && bytes_eq (period_unit_read rows at i) kind.period_unit

-- ---- selectors

and_true : (b : Bool) → (b && true) ≡ b
and_true true = refl
and_true false = refl

and_false : (b : Bool) → (b && false) ≡ false
and_false true = refl
and_false false = refl

reorder : (w d t m : Bool) → (((w && d) && t) && m) ≡ (w && ((t && d) && m))
reorder false d t m = refl
reorder true true t m = ap (λ c. c && m) (sym (and_true t))
reorder true false t m = ap (λ c. c && m) (sym (and_false t))

pub selector_kept : (rows : List Numbered) (window : Window) (selector : Selector) (all a b c : List ℕ)
    → a ≡ filter (λ at. is_in_time window (Some selector.kind.delta) (row_at rows at)) all
    → b ≡ filter (λ at. has_texts selector.kind (row_at rows at)) a
    → c ≡ filter (λ at. list_all (is_match (row_at rows at)) selector.matchers) b
    → c ≡ filter (λ at. is_within window (row_at rows at) && is_selected selector (row_at rows at)) all
selector_kept rows window selector all a b c ea eb ec =
    ec
    ∙ ap (filter m) (eb ∙ ap (filter k) ea ∙ filter_twice t k all)
    ∙ filter_twice (λ at. t at && k at) m all
    ∙ filter_agree _ _
    (λ at.
    reorder (is_within window (row_at rows at)) (has_delta (Some selector.kind.delta) (row_at rows at)) (has_texts selector.kind (row_at rows at)) (list_all (is_match (row_at rows at)) selector.matchers))
    all
  where
    t : ℕ → Bool
    t at = is_in_time window (Some selector.kind.delta) (row_at rows at)

    k : ℕ → Bool
    k at = has_texts selector.kind (row_at rows at)

    m : ℕ → Bool
    m at = list_all (is_match (row_at rows at)) selector.matchers
