-- The labels that count, found from the back.
use Rattle.std.proofs.Common.{◌≡◌, ℕ, suc, ◌+◌, ◌-◌, ◌<◌, ◌≤◌, Bool, true, false, not, ◌&&◌, cond, List, [], ◌∷◌, ◌++◌, map, length, get_or, drop, drop-cons, refl, sym, ap, ◌∙◌, subst, arith, Option, Some, None}
use Rattle.std.specs.Prelude.{slice_get, is_some, sum_by}
use Rattle.std.specs.Option.{unwrap_or, option_or, option_map}
use Rattle.std.proofs.lemmas.Option.{slice_get-map}
use Rattle.std.specs.declared.cmp.Ordering.{Ordering}
use Rattle.std.specs.declared.cmp.Ordering.TheVariants.{Less, Equal, Greater}
use Rattle.std.specs.Ordering.{is_eq, nat_cmp}
use Rattle.std.specs.BTreeMap.{is_at}
use Rattle.std.specs.BTreeSet.{BTreeSet, contains}
use Rattle.std.specs.Cmp.{unsigned_tied}
use Rattle.std.proofs.lemmas.Bool.{and_parts}
use Rattle.std.proofs.lemmas.List.Sums.{sum_by-cons, sum_by_push}
use Rattle.fd_kinds.specs.declared.pair.Pair.{Pair}
use Rattle.fd_lists.specs.Texts.{text_cmp}
use Rattle.fd_kinds.specs.RowSize.{pair_size}
use Rattle.fd_kinds.specs.Labels.{are_labels}
use Rattle.fd_kinds.specs.LabelMaps.{is_kept, value_of, last_value_of, put, in_order}
use Rattle.fd_kinds.specs.LabelsOf.{with_pairs, labels_of}
use Rattle.fd_kinds.proofs.LabelCollection.{last_value_push}
use Rattle.fd_kinds.proofs.PairPlacement.{in_order_are_labels, in_order_value, same_maps}
use Rattle.fd_pprof.specs.Frames.{text}
use Rattle.fd_pprof.specs.Winners.{place_from, text_numbers, wins, AreSeen, AreWinners}
use Rattle.fd_pprof.proofs.TextNumbers.{same_by, ties, number_of}

or_none : {X : Type 0} (o : Option X) → option_or o None ≡ o
or_none None = refl
or_none (Some x) = refl

-- a value behind those that are there already
stays : {X : Type 0} (b : Bool) (v : X) (o : Option X) → (b ≡ true → is_some o ≡ true) → option_or o (cond b (Some v) None) ≡ o
stays b v (Some x) h = refl
stays true v None h = let e : false ≡ true = h refl in cc
stays false v None h = refl

-- a pair in front that does not win says nothing more
lost_value : (ps : List Pair) (p : Pair) (name : List ℕ) → wins ps p ≡ false → last_value_of (p ∷ ps) name ≡ last_value_of ps name
lost_value ps p name lost = stays (is_kept p && is_eq (text_cmp name p.name)) p.value (last_value_of ps name) there
  where
    kept_is : (b c : Bool) → b ≡ true → (b && not c) ≡ false → c ≡ true
    kept_is true true h l = refl
    kept_is true false h l = cc
    kept_is false c h l = cc

    there : (is_kept p && is_eq (text_cmp name p.name)) ≡ true → is_some (last_value_of ps name) ≡ true
    there both =
        let parts = and_parts (is_kept p) (is_eq (text_cmp name p.name)) both in
        let same : name ≡ p.name = same_by name p.name parts.1 in
        ap (λ n. is_some (last_value_of ps n)) same ∙ kept_is (is_kept p) (is_some (last_value_of ps p.name)) parts.0 lost

same_order : (ks ps : List Pair) → ((name : List ℕ) → last_value_of ks name ≡ last_value_of ps name) → in_order ks ≡ in_order ps
same_order ks ps h =
    same_maps (in_order ks) (in_order ps) (in_order_are_labels ks) (in_order_are_labels ps) (λ name. in_order_value ks name ∙ h name ∙ sym (in_order_value ps name))

none_of : (o : Option (List ℕ)) → is_some o ≡ false → o ≡ None
none_of None h = refl
none_of (Some x) h = cc

-- a pair whose name is not there adds its bytes
put_size : (p : Pair) (qs : List Pair) → value_of qs p.name ≡ None → sum_by pair_size (put p qs) ≡ pair_size p + sum_by pair_size qs
put_size p [] h = sum_by-cons pair_size p []
put_size p (q ∷ qs) h = by (text_cmp p.name q.name) refl (put_size p qs)
  where
    by : (o : Ordering) → text_cmp p.name q.name ≡ o → (value_of qs p.name ≡ None → sum_by pair_size (put p qs) ≡ pair_size p + sum_by pair_size qs) → sum_by pair_size (put p (q ∷ qs)) ≡ pair_size p + sum_by pair_size (q ∷ qs)
    by Less e r = rw e (sum_by-cons pair_size p (q ∷ qs))
    by Equal e r = let t : Some q.value ≡ None = subst (λ o. cond (is_eq o) (Some q.value) (value_of qs p.name) ≡ None) e h in cc
    by Greater e r =
        let h2 : value_of qs p.name ≡ None = subst (λ o. cond (is_eq o) (Some q.value) (value_of qs p.name) ≡ None) e h in
        let s = r h2 in
        rw e (omega (arith, sum_by-cons pair_size q (put p qs), sum_by-cons pair_size q qs, s))

pub no_winners : AreWinners [] []
no_winners = record { same = λ name. refl; size = refl }

pub lost : (ks ps : List Pair) (p : Pair) → wins ps p ≡ false → AreWinners ks ps → AreWinners ks (p ∷ ps)
lost ks ps p l w = record {
  same = λ name. w.same name ∙ sym (lost_value ps p name l);
  size = w.size ∙ sym (ap (sum_by pair_size) (same_order (p ∷ ps) ps (λ name. lost_value ps p name l)));
}

joins : {X : Type 0} (b : Bool) (v : X) (o : Option X) → (b ≡ true → o ≡ None) → cond b (Some v) o ≡ option_or o (cond b (Some v) None)
joins true v o h = rw (h refl) refl
joins false v o h = sym (or_none o)

wins_parts : (b : Bool) (o : Option (List ℕ)) → (b && not (is_some o)) ≡ true → (b ≡ true) × (o ≡ None)
wins_parts true None h = (refl, refl)
wins_parts true (Some x) h = cc
wins_parts false o h = cc

pub won : (ks ps : List Pair) (p : Pair) → wins ps p ≡ true → AreWinners ks ps → AreWinners (ks ++ p ∷ []) (p ∷ ps)
won ks ps p h w =
    let parts = wins_parts (is_kept p) (last_value_of ps p.name) h in
    let free : value_of (in_order ps) p.name ≡ None = in_order_value ps p.name ∙ parts.1 in
    let ordered : in_order (p ∷ ps) ≡ put p (in_order ps) = ap (λ b. cond b (put p (in_order ps)) (in_order ps)) parts.0 in
    record {
      same = λ name. last_value_push ks p name
          ∙ ap (cond (is_kept p && is_eq (text_cmp name p.name)) (Some p.value)) (w.same name)
          ∙ joins (is_kept p && is_eq (text_cmp name p.name)) p.value (last_value_of ps name) (absent name parts.1);
      size = omega (arith, sum_by_push pair_size ks p, w.size, put_size p (in_order ps) free, ap (sum_by pair_size) ordered);
    }
  where
    absent : (name : List ℕ) → last_value_of ps p.name ≡ None → (is_kept p && is_eq (text_cmp name p.name)) ≡ true → last_value_of ps name ≡ None
    absent name none both =
        let both_parts = and_parts (is_kept p) (is_eq (text_cmp name p.name)) both in
        ap (last_value_of ps) (same_by name p.name both_parts.1) ∙ none

-- the labels of the winners are those of all
pub same_labels : (ks ps : List Pair) → AreWinners ks ps → labels_of ks ≡ labels_of ps
unfolding labels_of
same_labels ks ps w = ap (λ xs. with_pairs xs (are_labels xs) refl) (same_order ks ps w.same)

with_pairs_is : (ps : List Pair) (b : Bool) (e : are_labels ps ≡ b) → b ≡ true → (with_pairs ps b e).pairs ≡ ps
with_pairs_is ps true e h = refl
with_pairs_is ps false e h = cc

pub labels_bytes : (ks ps : List Pair) → AreWinners ks ps → sum_by pair_size (labels_of ps).pairs ≡ sum_by pair_size ks
unfolding labels_of
labels_bytes ks ps w =
    ap (sum_by pair_size) (with_pairs_is (in_order ps) (are_labels (in_order ps)) refl (in_order_are_labels ps)) ∙ sym w.size

-- the keys that are seen in front of one more pair

or_some : {X : Type 0} (b : Bool) (v : X) (o : Option X) → is_some (option_or o (cond b (Some v) None)) ≡ cond b true (is_some o)
or_some true v None = refl
or_some true v (Some x) = refl
or_some false v None = refl
or_some false v (Some x) = refl

-- a pair that is not kept is not seen
pub seen_less : (ts : List (List ℕ)) (behind : List Pair) (p : Pair) (seen : BTreeSet ℕ) → is_kept p ≡ false → AreSeen ts behind seen → AreSeen ts (p ∷ behind) seen
seen_less ts behind p seen not_kept before k n at =
    before k n at
    ∙ ap is_some (sym (ap (λ b. option_or (last_value_of behind (text ts k)) (cond (b && is_eq (text_cmp (text ts k) p.name)) (Some p.value) None)) not_kept ∙ or_none (last_value_of behind (text ts k))))

same_bool : (b c : Bool) → (b ≡ true → c ≡ true) → (c ≡ true → b ≡ true) → b ≡ c
same_bool true c f g = sym (f refl)
same_bool false true f g = g refl
same_bool false false f g = refl

number_tied : (m n : ℕ) → is_eq (nat_cmp m n) ≡ true → m ≡ n
number_tied m n h = grind (arith, unsigned_tied m n)

number_ties : (m n : ℕ) → m ≡ n → is_eq (nat_cmp m n) ≡ true
number_ties m n h = grind (arith, unsigned_tied m n)

-- numbers tie where their texts do
pub same_tie : (ts : List (List ℕ)) (j k m n : ℕ) → slice_get (text_numbers ts) j ≡ Some m → slice_get (text_numbers ts) k ≡ Some n → is_eq (nat_cmp m n) ≡ is_eq (text_cmp (text ts k) (text ts j))
same_tie ts j k m n mj nk = same_bool (is_eq (nat_cmp m n)) (is_eq (text_cmp (text ts k) (text ts j))) forth back
  where
    forth : is_eq (nat_cmp m n) ≡ true → is_eq (text_cmp (text ts k) (text ts j)) ≡ true
    forth h =
        let same : text ts k ≡ text ts j = sym (number_of ts k n nk).there ∙ ap (text ts) (sym (number_tied m n h)) ∙ (number_of ts j m mj).there in
        ap (λ x. is_eq (text_cmp x (text ts j))) same ∙ ties (text ts j)

    back : is_eq (text_cmp (text ts k) (text ts j)) ≡ true → is_eq (nat_cmp m n) ≡ true
    back h =
        let same : text ts k ≡ text ts j = same_by (text ts k) (text ts j) h in
        number_ties m n ((number_of ts j m mj).is ∙ ap (λ t. unwrap_or (place_from 0 ts t) 0) (sym same) ∙ sym (number_of ts k n nk).is)

-- a pair that is kept is seen
pub seen_more : (ts : List (List ℕ)) (behind : List Pair) (p : Pair) (seen new : BTreeSet ℕ) (j m : ℕ) → is_kept p ≡ true → p.name ≡ text ts j → slice_get (text_numbers ts) j ≡ Some m
    → ((n : ℕ) → contains nat_cmp new n ≡ cond (is_at (nat_cmp m) n) true (contains nat_cmp seen n)) → AreSeen ts behind seen → AreSeen ts (p ∷ behind) new
seen_more ts behind p seen new j m kept named mj puts before k n nk =
    puts n
    ∙ ap (cond (is_at (nat_cmp m) n) true) (before k n nk)
    ∙ ap (λ b. cond b true (is_some (last_value_of behind (text ts k)))) (same_tie ts j k m n mj nk ∙ ap (λ x. is_eq (text_cmp (text ts k) x)) (sym named))
    ∙ sym (or_some (is_eq (text_cmp (text ts k) p.name)) p.value (last_value_of behind (text ts k)))
    ∙ sym (ap (λ b. is_some (option_or (last_value_of behind (text ts k)) (cond (b && is_eq (text_cmp (text ts k) p.name)) (Some p.value) None))) kept)

-- whether a key is new
pub new_key : (ts : List (List ℕ)) (behind : List Pair) (p : Pair) (seen : BTreeSet ℕ) (j m : ℕ) (b : Bool) → is_kept p ≡ true → p.name ≡ text ts j → slice_get (text_numbers ts) j ≡ Some m
    → b ≡ not (contains nat_cmp seen m) → AreSeen ts behind seen → b ≡ wins behind p
new_key ts behind p seen j m b kept named mj is before =
    is
    ∙ ap not (before j m mj ∙ ap (λ x. is_some (last_value_of behind x)) (sym named))
    ∙ sym (ap (λ k. k && not (is_some (last_value_of behind p.name))) kept)

-- a place behind the table has no text
pub no_text : (ts : List (List ℕ)) (k : ℕ) → slice_get (text_numbers ts) k ≡ None → text ts k ≡ []
no_text ts k h = by (slice_get ts k) refl (sym (slice_get-map (λ t. unwrap_or (place_from 0 ts t) 0) ts k) ∙ h)
  where
    by : (o : Option (List ℕ)) → slice_get ts k ≡ o → option_map (λ t. unwrap_or (place_from 0 ts t) 0) o ≡ None → text ts k ≡ []
    by None e n = ap (λ o. unwrap_or o []) e
    by (Some t) e n = cc

-- a list from the place before on
pub one_before : {A : Type 0} (f : A → Pair) (xs : List A) (i : ℕ) (d : A) → 0 < i → i ≤ length xs → map f (drop (i - 1) xs) ≡ f (get_or xs (i - 1) d) ∷ map f (drop i xs)
one_before f xs i d some within =
    let lt : i - 1 < length xs = omega arith in
    let s : suc (i - 1) ≡ i = omega arith in
    ap (map f) (drop-cons xs (i - 1) d lt ∙ ap (λ k. get_or xs (i - 1) d ∷ drop k xs) s)

nothing_kept : (name value : List ℕ) → name ≡ [] → is_kept (record { name = name; value = value }) ≡ true → ⊥
nothing_kept name value e h = let f : is_kept (record { name = []; value = value }) ≡ true = subst (λ n. is_kept (record { name = n; value = value }) ≡ true) e h in cc

-- a label whose key is behind the table is not kept
pub not_there : (ts : List (List ℕ)) (k : ℕ) (value : List ℕ) → slice_get (text_numbers ts) k ≡ None → is_kept (record { name = text ts k; value = value }) ≡ true → ⊥
not_there ts k value none h = nothing_kept (text ts k) value (no_text ts k none) h
