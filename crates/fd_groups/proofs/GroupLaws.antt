-- Groups of rows by their keys, as rows are added and as they are listed.
use Rattle.std.proofs.Common.{◌≡◌, ℕ, Bool, true, false, ◌||◌, cond, List, [], ◌∷◌, ◌++◌, map, filter, T, refl, sym, ◌∙◌, ap, subst, Some, None}
use Rattle.std.specs.Prelude.{Option, MatchOption, is_some}
use Rattle.std.specs.declared.cmp.Ordering.{Ordering}
use Rattle.std.specs.declared.cmp.Ordering.TheVariants.{Less, Equal}
use Rattle.std.specs.Ordering.{is_eq, is_lt}
use Rattle.std.specs.Cmp.{IsTotalOrder, Equal-is, eq_by_cmp_equiv, tied_itself}
use Rattle.std.specs.FinMap.{find, is_sorted}
use Rattle.std.specs.FinMap.Entries.{same_entries, below_all}
use Rattle.std.proofs.lemmas.Bool.{and_from}
use Rattle.std.specs.List.{list_any, AllByRecursion}
use Rattle.std.specs.List.Sorted.{IsStrictlySortedBy}
use Rattle.std.specs.Map.{lookup, keys_of}
use Rattle.std.specs.BTreeMap.{BTreeMap, IsOrdered, is_at, get}
use Rattle.std.proofs.lemmas.List.Elements.{filter-append}
use Rattle.std.proofs.lemmas.List.Folds.{list_any-append}
use Rattle.std.proofs.lemmas.Map.Made.{is_some-lookup}
use Rattle.fd_kinds.specs.declared.row.Row.{Row}
use Rattle.fd_kinds.specs.Meaning.{distinct}
use Rattle.fd_groups.specs.Groups.{IsGrouped}
use Rattle.fd_kinds.proofs.Distinct.{sorted_distinct, any_distinct}

filter_none : {A : Type 0} (p : A → Bool) (xs : List A) → list_any p xs ≡ false → filter p xs ≡ []
filter_none p [] e = refl
filter_none p (x ∷ xs) e = by (p x) e (filter_none p xs)
  where
    by : (b : Bool) → (b || list_any p xs) ≡ false → (list_any p xs ≡ false → filter p xs ≡ []) → cond b (x ∷ filter p xs) (filter p xs) ≡ []
    by true f rest = cc
    by false f rest = rest f

or_end : (a b : Bool) → (a || (b || false)) ≡ (a || b)
or_end true b = refl
or_end false true = refl
or_end false false = refl

or_true : (a : Bool) → (a || true) ≡ true
or_true true = refl
or_true false = refl

or_false : (a : Bool) → (a || false) ≡ a
or_false true = refl
or_false false = refl

nothing_more : {A : Type 0} (l : List A) → l ++ [] ≡ l
nothing_more [] = refl
nothing_more (x ∷ xs) = ap (λ l. x ∷ l) (nothing_more xs)

-- one more row, that a test takes or leaves
any_push : (p : Row → Bool) (rows : List Row) (row : Row) (b : Bool) → p row ≡ b → list_any p (rows ++ row ∷ []) ≡ (list_any p rows || b)
any_push p rows row b e = list_any-append p rows (row ∷ []) ∙ or_end (list_any p rows) (p row) ∙ ap (λ c. list_any p rows || c) e

filter_push : (p : Row → Bool) (rows : List Row) (row : Row) (b : Bool) → p row ≡ b → filter p (rows ++ row ∷ []) ≡ filter p rows ++ cond b (row ∷ []) []
filter_push p rows row b e = filter-append p rows (row ∷ []) ∙ ap (λ c. filter p rows ++ cond c (row ∷ []) []) e

module _ {K : Type 0} {R : K → K → Ordering} (o : IsTotalOrder R) (exact : (x y : K) → R x y ≡ Equal → x ≡ y) where
  -- ---- lists in order

  -- entries in order of their keys are told by what a search finds
  find-lookup : {X : Type 0} (q : K) (es : List (K × X)) → find R q es ≡ lookup (is_at (R q)) es
  find-lookup q [] = refl
  find-lookup q (e ∷ es) = ap (λ f. cond (is_eq (R q e.0)) (Some e.1) f) (find-lookup q es)

  all_above : {X : Type 0} (k : K) (es : List (K × X)) → AllByRecursion (λ s. R k s ≡ Less) (keys_of es) → below_all R k es ≡ true
  all_above k [] h = refl
  all_above k (e ∷ es) h = and_from (is_lt (R k e.0)) (below_all R k es) (ap is_lt h.0) (all_above k es h.1)

  in_order : {X : Type 0} (es : List (K × X)) → IsStrictlySortedBy R (keys_of es) → is_sorted R es ≡ true
  unfolding IsStrictlySortedBy
  in_order [] h = refl
  in_order (e ∷ es) h = and_from (below_all R e.0 es) (is_sorted R es) (all_above e.0 es h.0) (in_order es h.1)

  none_rises : IsStrictlySortedBy R []
  unfolding IsStrictlySortedBy
  none_rises = tt

  abbrev marks : List K → List (K × ℕ)
  marks ks = map (λ k. (k, 0)) ks

  keys_of_marks : (ks : List K) → keys_of (marks ks) ≡ ks
  keys_of_marks [] = refl
  keys_of_marks (k ∷ ks) = ap (λ l. k ∷ l) (keys_of_marks ks)

  lookup_marks : (q : K) (ks : List K) → lookup (is_at (R q)) (marks ks) ≡ cond (list_any (is_at (R q)) ks) (Some 0) None
  lookup_marks q [] = refl
  lookup_marks q (k ∷ ks) = by (is_eq (R q k)) (lookup_marks q ks)
    where
      by : (b : Bool) → lookup (is_at (R q)) (marks ks) ≡ cond (list_any (is_at (R q)) ks) (Some 0) None → cond b (Some 0) (lookup (is_at (R q)) (marks ks)) ≡ cond (b || list_any (is_at (R q)) ks) (Some 0) None
      by true rest = refl
      by false rest = rest

  -- lists that rise and have the same members are equal
  pub same_members : (ks ls : List K) → IsStrictlySortedBy R ks → IsStrictlySortedBy R ls → ((q : K) → list_any (is_at (R q)) ks ≡ list_any (is_at (R q)) ls) → ks ≡ ls
  same_members ks ls rising_ks rising_ls same = sym (keys_of_marks ks) ∙ ap keys_of marked ∙ keys_of_marks ls
    where
      sorted : (l : List K) → IsStrictlySortedBy R l → T (is_sorted R (marks l))
      sorted l h = subst T (sym (in_order (marks l) (subst (IsStrictlySortedBy R) (sym (keys_of_marks l)) h))) tt

      found : (q : K) → find R q (marks ks) ≡ find R q (marks ls)
      found q =
          find-lookup q (marks ks)
          ∙ lookup_marks q ks
          ∙ ap (λ b. cond b (Some 0) None) (same q)
          ∙ sym (find-lookup q (marks ls) ∙ lookup_marks q ls)

      marked : marks ks ≡ marks ls
      marked = same_entries R o exact (marks ks) (marks ls) (sorted ks rising_ks) (sorted ls rising_ls) found

  -- ---- one more row

  module _ {X : Type 0} (key : Row → K) (Of : X → List Row → Type 0) where
    abbrev At : Option X → Bool → List Row → Type 0
    At found any rows = MatchOption found (any ≡ false) (λ x. (any ≡ true) × Of x rows)

    abbrev has : K → Row → Bool
    has q row = is_eq (R q (key row))

    -- what a key stands for after a row with it was added, by what it stood for before
    abbrev pub IsMore : Option X → X → Row → Type 0
    IsMore before after row = MatchOption before (Of after (row ∷ [])) (λ x. (rows : List Row) → Of x rows → Of after (rows ++ row ∷ []))

    moved : (found : Option X) (a b : Bool) (xs ys : List Row) → a ≡ b → xs ≡ ys → At found a xs → At found b ys
    moved found a b xs ys e f h = subst (λ c. At found c ys) e (subst (At found a) f h)

    grown : (before : Option X) (after : X) (row : Row) (any : Bool) (rows : List Row) → (any ≡ false → rows ≡ []) → IsMore before after row → At before any rows → Of after (rows ++ row ∷ [])
    grown None after row any rows none more h = subst (λ l. Of after (l ++ row ∷ [])) (sym (none h)) more
    grown (Some x) after row any rows none more h = more rows h.1

    pub groups_more : (m n : BTreeMap K X) (rows : List Row) (row : Row) (after : X)
        → IsOrdered R n
        → ((q : K) → get R n q ≡ cond (is_eq (R (key row) q)) (Some after) (get R m q))
        → IsMore (get R m (key row)) after row
        → IsGrouped R key Of m rows → IsGrouped R key Of n (rows ++ row ∷ [])
    groups_more m n rows row after rising updates more before = record {
      rising = rising;
      each = λ q. by q (is_eq (R (key row) q)) refl;
    }
      where
        turned : (q : K) → has q row ≡ is_eq (R (key row) q)
        turned q = (eq_by_cmp_equiv o).symm q (key row)

        here : (q : K) → key row ≡ q → Of after (filter (has q) rows ++ row ∷ [])
        here q e = subst (λ k. Of after (filter (has k) rows ++ row ∷ [])) e
            (grown (get R m (key row)) after row (list_any (has (key row)) rows) (filter (has (key row)) rows) (filter_none (has (key row)) rows) more (before.each (key row)))

        by : (q : K) (b : Bool) → is_eq (R (key row) q) ≡ b → At (get R n q) (list_any (has q) (rows ++ row ∷ [])) (filter (has q) (rows ++ row ∷ []))
        by q true e =
            subst (λ found. At found (list_any (has q) (rows ++ row ∷ [])) (filter (has q) (rows ++ row ∷ [])))
            (sym (updates q ∙ ap (λ b. cond b (Some after) (get R m q)) e)) (
              any_push (has q) rows row true (turned q ∙ e) ∙ or_true (list_any (has q) rows),
              subst (Of after) (sym (filter_push (has q) rows row true (turned q ∙ e))) (here q (exact (key row) q ((Equal-is (R (key row) q)).0 e))),
            )
        by q false e =
            subst (λ found. At found (list_any (has q) (rows ++ row ∷ [])) (filter (has q) (rows ++ row ∷ [])))
            (sym (updates q ∙ ap (λ b. cond b (Some after) (get R m q)) e))
            (moved (get R m q) (list_any (has q) rows) (list_any (has q) (rows ++ row ∷ [])) (filter (has q) rows) (filter (has q) (rows ++ row ∷ []))
            (sym (any_push (has q) rows row false (turned q ∙ e) ∙ or_false (list_any (has q) rows)))
            (sym (filter_push (has q) rows row false (turned q ∙ e) ∙ nothing_more (filter (has q) rows)))
            (before.each q))

    -- the same where what stands for a key is told by another list after the row was added
    pub groups_moved : (After : X → List Row → Type 0) (m n : BTreeMap K X) (rows : List Row) (row : Row) (after : X)
        → IsOrdered R n
        → ((q : K) → get R n q ≡ cond (is_eq (R (key row) q)) (Some after) (get R m q))
        → MatchOption (get R m (key row)) (After after (row ∷ [])) (λ x. (some : List Row) → Of x some → After after (some ++ row ∷ []))
        → ((q : K) (x : X) (some : List Row) → is_eq (R (key row) q) ≡ false → get R m q ≡ Some x → Of x some → After x some)
        → IsGrouped R key Of m rows → IsGrouped R key After n (rows ++ row ∷ [])
    groups_moved After m n rows row after rising updates more others before = record {
      rising = rising;
      each = λ q. by q (is_eq (R (key row) q)) refl;
    }
      where
        AtAfter : Option X → Bool → List Row → Type 0
        AtAfter found any some = MatchOption found (any ≡ false) (λ x. (any ≡ true) × After x some)

        turned : (q : K) → has q row ≡ is_eq (R (key row) q)
        turned q = (eq_by_cmp_equiv o).symm q (key row)

        with : (found : Option X) (any : Bool) (some : List Row) → (any ≡ false → some ≡ []) → MatchOption found (After after (row ∷ [])) (λ x. (some : List Row) → Of x some → After after (some ++ row ∷ [])) → At found any some → After after (some ++ row ∷ [])
        with None any some none h k = subst (λ l. After after (l ++ row ∷ [])) (sym (none k)) h
        with (Some x) any some none h k = h some k.1

        here : (q : K) → key row ≡ q → After after (filter (has q) rows ++ row ∷ [])
        here q e = subst (λ k. After after (filter (has k) rows ++ row ∷ [])) e
            (with (get R m (key row)) (list_any (has (key row)) rows) (filter (has (key row)) rows) (filter_none (has (key row)) rows) more (before.each (key row)))

        kept : (q : K) (found : Option X) (any : Bool) (some : List Row) → is_eq (R (key row) q) ≡ false → get R m q ≡ found → At found any some → AtAfter found any some
        kept q None any some apart is h = h
        kept q (Some x) any some apart is h = (h.0, others q x some apart is h.1)

        by : (q : K) (b : Bool) → is_eq (R (key row) q) ≡ b → AtAfter (get R n q) (list_any (has q) (rows ++ row ∷ [])) (filter (has q) (rows ++ row ∷ []))
        by q true e =
            subst (λ found. AtAfter found (list_any (has q) (rows ++ row ∷ [])) (filter (has q) (rows ++ row ∷ [])))
            (sym (updates q ∙ ap (λ b. cond b (Some after) (get R m q)) e)) (
              any_push (has q) rows row true (turned q ∙ e) ∙ or_true (list_any (has q) rows),
              subst (After after) (sym (filter_push (has q) rows row true (turned q ∙ e))) (here q (exact (key row) q ((Equal-is (R (key row) q)).0 e))),
            )
        by q false e =
            subst (λ found. AtAfter found (list_any (has q) (rows ++ row ∷ [])) (filter (has q) (rows ++ row ∷ [])))
            (sym (updates q ∙ ap (λ b. cond b (Some after) (get R m q)) e))
            (subst (λ c. AtAfter (get R m q) c (filter (has q) (rows ++ row ∷ []))) (sym (any_push (has q) rows row false (turned q ∙ e) ∙ or_false (list_any (has q) rows)))
            (subst (λ l. AtAfter (get R m q) (list_any (has q) rows) l) (sym (filter_push (has q) rows row false (turned q ∙ e) ∙ nothing_more (filter (has q) rows)))
            (kept q (get R m q) (list_any (has q) rows) (filter (has q) rows) e refl (before.each q))))

    -- what stands for each key is told by another list
    pub groups_retold : (After : X → List Row → Type 0) (m n : BTreeMap K X) (rows : List Row) → IsOrdered R n → ((q : K) → get R n q ≡ get R m q) → ((x : X) (some : List Row) → Of x some → After x some) → IsGrouped R key Of m rows → IsGrouped R key After n rows
    groups_retold After m n rows rising same retold before = record {
      rising = rising;
      each = λ q. subst (λ found. MatchOption found (list_any (has q) rows ≡ false) (λ x. (list_any (has q) rows ≡ true) × After x (filter (has q) rows))) (sym (same q)) (by (get R m q) (list_any (has q) rows) (filter (has q) rows) (before.each q));
    }
      where
        by : (found : Option X) (any : Bool) (some : List Row) → At found any some → MatchOption found (any ≡ false) (λ x. (any ≡ true) × After x some)
        by None any some h = h
        by (Some x) any some h = (h.0, retold x some h.1)

    -- maps that find the same have the same groups
    pub same_groups : (m n : BTreeMap K X) (rows : List Row) → IsOrdered R n → ((q : K) → get R n q ≡ get R m q) → IsGrouped R key Of m rows → IsGrouped R key Of n rows
    same_groups m n rows rising same before = record {
      rising = rising;
      each = λ q. subst (λ found. At found (list_any (has q) rows) (filter (has q) rows)) (sym (same q)) (before.each q);
    }

    -- nothing is grouped of no rows
    pub groups_none : (m : BTreeMap K X) → m.entries ≡ [] → IsGrouped R key Of m []
    groups_none m empty = record {
      rising = subst (λ es. IsStrictlySortedBy R (keys_of es)) (sym empty) none_rises;
      each = λ q. subst (λ es. At (lookup (is_at (R q)) es) false []) (sym empty) refl;
    }

    replaced : (before : Option X) (x y : X) (any : Bool) (rows : List Row) → before ≡ Some x → (Of x rows → Of y rows) → At before any rows → At (Some y) any rows
    replaced before x y any rows is same h =
        let there : (any ≡ true) × Of x rows = subst (λ f. At f any rows) is h in
        (there.0, same there.1)

    -- another thing of the same rows at a key
    pub groups_replaced : (m n : BTreeMap K X) (rows : List Row) (k : K) (x y : X)
        → IsOrdered R n
        → get R m k ≡ Some x
        → ((q : K) → get R n q ≡ cond (is_eq (R k q)) (Some y) (get R m q))
        → ((some : List Row) → Of x some → Of y some)
        → IsGrouped R key Of m rows → IsGrouped R key Of n rows
    groups_replaced m n rows k x y rising is updates same before = record {
      rising = rising;
      each = λ q. subst (λ found. At found (list_any (has q) rows) (filter (has q) rows)) (sym (updates q)) (by q (is_eq (R k q)) refl);
    }
      where
        by : (q : K) (b : Bool) → is_eq (R k q) ≡ b → At (cond b (Some y) (get R m q)) (list_any (has q) rows) (filter (has q) rows)
        by q true e =
            let here : k ≡ q = exact k q ((Equal-is (R k q)).0 e) in
            replaced (get R m q) x y (list_any (has q) rows) (filter (has q) rows) (ap (get R m) (sym here) ∙ is) (same (filter (has q) rows)) (before.each q)
        by q false e = before.each q

    -- ---- the list

    any_key : (q : K) (rows : List Row) → list_any (is_at (R q)) (map key rows) ≡ list_any (has q) rows
    any_key q [] = refl
    any_key q (r ∷ rs) = ap (λ b. has q r || b) (any_key q rs)

    found_any : (found : Option X) (any : Bool) (rows : List Row) → At found any rows → is_some found ≡ any
    found_any None any rows h = sym h
    found_any (Some x) any rows h = sym h.0

    keys_are : (m : BTreeMap K X) (rows : List Row) → IsGrouped R key Of m rows → keys_of m.entries ≡ distinct R (map key rows)
    keys_are m rows groups =
        same_members (keys_of m.entries) (distinct R (map key rows)) groups.rising (sorted_distinct o (map key rows))
        (λ q.
        sym (is_some-lookup (is_at (R q)) m.entries)
        ∙ found_any (get R m q) (list_any (has q) rows) (filter (has q) rows) (groups.each q)
        ∙ sym (any_distinct o q (map key rows) ∙ any_key q rows))

    module _ {Y : Type 0} (out : K × X → Y) (means : K → List Row → Y) (shows : (k : K) (x : X) (rows : List Row) → Of x rows → out (k, x) ≡ means k rows) where
      shown : (rows : List Row) (k : K) (x : X) (found : Option X) → found ≡ Some x → At found (list_any (has k) rows) (filter (has k) rows) → out (k, x) ≡ means k (filter (has k) rows)
      shown rows k x found e h = shows k x (filter (has k) rows) (subst (λ f. At f (list_any (has k) rows) (filter (has k) rows)) e h).1

      not_later : (e : K × X) (es : List (K × X)) → AllByRecursion (λ s. R e.0 s ≡ Less) (keys_of es) → lookup (is_at (R e.0)) es ≡ None
      not_later e [] h = refl
      not_later e (f ∷ fs) h = ap (λ r. cond (is_eq r) (Some f.1) (lookup (is_at (R e.0)) fs)) h.0 ∙ not_later e fs h.1

      later : (e : K × X) (es : List (K × X)) (k : K) (x : X) → AllByRecursion (λ s. R e.0 s ≡ Less) (keys_of es) → lookup (is_at (R k)) es ≡ Some x → lookup (is_at (R k)) (e ∷ es) ≡ Some x
      later e es k x h found = by (is_eq (R k e.0)) refl
        where
          by : (b : Bool) → is_eq (R k e.0) ≡ b → cond b (Some e.1) (lookup (is_at (R k)) es) ≡ Some x
          by true p = absurd (none (sym found ∙ ap (λ q. lookup (is_at (R q)) es) (exact k e.0 ((Equal-is (R k e.0)).0 p)) ∙ not_later e es h))
            where
              none : Some x ≡ None → ⊥
              none f = cc
          by false p = found

      outs : (means_at : K → Y) (es : List (K × X)) → IsStrictlySortedBy R (keys_of es) → ((k : K) (x : X) → lookup (is_at (R k)) es ≡ Some x → out (k, x) ≡ means_at k) → map out es ≡ map means_at (keys_of es)
      unfolding IsStrictlySortedBy
      outs means_at [] rising each = refl
      outs means_at (e ∷ es) rising each =
          ap (λ y. y ∷ map out es) (each e.0 e.1 (ap (λ r. cond (is_eq r) (Some e.1) (lookup (is_at (R e.0)) es)) (tied_itself o e.0)))
          ∙ ap (λ l. means_at e.0 ∷ l) (outs means_at es rising.1 (λ k x found. each k x (later e es k x rising.0 found)))

      pub groups_listed : (m : BTreeMap K X) (rows : List Row) → IsGrouped R key Of m rows → map out m.entries ≡ map (λ k. means k (filter (has k) rows)) (distinct R (map key rows))
      groups_listed m rows groups =
          outs (λ k. means k (filter (has k) rows)) m.entries groups.rising (λ k x found. shown rows k x (get R m k) found (groups.each k))
          ∙ ap (map (λ k. means k (filter (has k) rows))) (keys_are m rows groups)
