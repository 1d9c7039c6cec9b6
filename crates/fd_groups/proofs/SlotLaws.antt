-- Sums that stand at places, as values are added and as they are listed.
use Rattle.std.proofs.Common.{◌≡◌, ◌≢◌, ℕ, ℤ, pos, ◌+ℤ◌, ◌+◌, ◌<◌, Bool, true, false, cond, List, [], ◌∷◌, ◌++◌, map, length, get_or, refl, sym, ◌∙◌, ap, subst, Some, None, arith, rules, length-append}
use Rattle.std.proofs.Math.ListN.{set}
use Rattle.std.proofs.Math.Seq.{get_or-append_seam}
use Rattle.std.proofs.lemmas.List.{get_or-set_same, get_or-set_other, get_or_append_left, length-set}
use Rattle.std.specs.Prelude.{Option, MatchOption, filter}
use Rattle.std.specs.List.{list_any}
use Rattle.std.specs.Ordering.{is_eq}
use Rattle.std.specs.Cmp.{Equal-is, tied_itself}
use Rattle.std.specs.Map.{lookup}
use Rattle.std.specs.BTreeMap.{BTreeMap, IsOrdered, is_at, get}
use Rattle.std.proofs.Math.IntN.{+ℤ_idr}
use Rattle.fd_kinds.specs.declared.row.Row.{Row}
use Rattle.fd_kinds.specs.declared.query.StackSum.{StackSum}
use Rattle.fd_kinds.specs.Meaning.{stack_cmp, value_sum, stack_sums}
use Rattle.fd_groups.specs.Groups.{has_key, IsSumAt, AreStackSums, AreSums, KeepsSlots}
use Rattle.fd_groups.specs.Slots.{AreInside}
use Rattle.fd_groups.proofs.GroupLaws.{groups_moved, groups_retold, groups_listed, groups_none}
use Rattle.fd_groups.proofs.SumLaws.{Stack, stack_cmp_total, stack_cmp_exact, value_sum-push, total_more}

abbrev Slots : Type 0
Slots = BTreeMap Stack ℕ

abbrev stack_of : Row → Stack
stack_of row = row.stack

same_stack : (a b : Stack) → is_eq (stack_cmp a b) ≡ true → a ≡ b
same_stack a b h = stack_cmp_exact a b ((Equal-is (stack_cmp a b)).0 h)

stack_same : (a b : Stack) → a ≡ b → is_eq (stack_cmp a b) ≡ true
stack_same a b e = ap (λ x. is_eq (stack_cmp a x)) (sym e) ∙ ap is_eq (tied_itself stack_cmp_total a)

-- a place that a stack has is one of the list
found_inside : (sums : List ℤ) (any : Bool) (some : List Row) (slot : ℕ) (found : Option ℕ) → found ≡ Some slot → MatchOption found (any ≡ false) (λ x. (any ≡ true) × IsSumAt sums x some) → slot < length sums
found_inside sums any some slot None e h = absurd (cc)
found_inside sums any some slot (Some x) e h = let s : x ≡ slot = cc in subst (λ n. n < length sums) s h.1.0

inside : (slots : Slots) (sums : List ℤ) (rows : List Row) (stack : Stack) (slot : ℕ) → AreStackSums sums slots rows → get stack_cmp slots stack ≡ Some slot → slot < length sums
inside slots sums rows stack slot groups is =
    found_inside sums (list_any (has_key stack_cmp stack_of stack) rows) (filter (has_key stack_cmp stack_of stack) rows) slot (get stack_cmp slots stack) is (groups.each stack)

-- ---- a value at a place

kept_slots : (slots : Slots) (stack : Stack) (slot : ℕ) → get stack_cmp slots stack ≡ Some slot → (q : Stack) → get stack_cmp slots q ≡ cond (is_eq (stack_cmp stack q)) (Some slot) (get stack_cmp slots q)
kept_slots slots stack slot is q = by (is_eq (stack_cmp stack q)) refl
  where
    by : (b : Bool) → is_eq (stack_cmp stack q) ≡ b → get stack_cmp slots q ≡ cond b (Some slot) (get stack_cmp slots q)
    by true e = ap (get stack_cmp slots) (sym (same_stack stack q e)) ∙ is
    by false e = refl

pub known_more : (slots : Slots) (old new : List ℤ) (slot : ℕ) (value before after : ℤ)
    → new ≡ set old slot (get_or old slot (pos 0) +ℤ value)
    → after ≡ before +ℤ value
    → (rows : List Row) (row : Row) → get stack_cmp slots row.stack ≡ Some slot → row.value ≡ value
    → AreSums slots old before rows → AreSums slots new after (rows ++ row ∷ [])
known_more slots old new slot value before after are more rows row is is_value sums = record {
  groups =
      groups_moved stack_cmp_total stack_cmp_exact stack_of (IsSumAt old) (IsSumAt new) slots slots rows row slot sums.groups.rising
      (kept_slots slots row.stack slot is)
      (subst (λ found. MatchOption found (IsSumAt new slot (row ∷ [])) (λ x. (some : List Row) → IsSumAt old x some → IsSumAt new slot (some ++ row ∷ []))) (sym is) here)
      there
      sums.groups;
  apart = sums.apart;
  whole = total_more before after rows row (more ∙ ap (λ v. before +ℤ v) (sym is_value)) sums.whole;
}
  where
    long : length new ≡ length old
    long = ap length are ∙ length-set old slot (get_or old slot (pos 0) +ℤ value)

    here : (some : List Row) → IsSumAt old slot some → IsSumAt new slot (some ++ row ∷ [])
    here some (within, is_sum) = (
      subst (λ n. slot < n) (sym long) within,
      ap (λ l. get_or l slot (pos 0)) are
          ∙ get_or-set_same old slot (get_or old slot (pos 0) +ℤ value) (pos 0) within
          ∙ (λ i. is_sum i +ℤ sym is_value i)
          ∙ sym (value_sum-push some row),
    )

    there : (q : Stack) (x : ℕ) (some : List Row) → is_eq (stack_cmp row.stack q) ≡ false → get stack_cmp slots q ≡ Some x → IsSumAt old x some → IsSumAt new x some
    there q x some other found (within, is_sum) =
        let apart : x ≢ slot = λ e. let t : is_eq (stack_cmp row.stack q) ≡ true = stack_same row.stack q (sums.apart row.stack q slot is (found ∙ ap Some e)) in cc in (
          subst (λ n. x < n) (sym long) within,
          ap (λ l. get_or l x (pos 0)) are ∙ get_or-set_other old slot x (get_or old slot (pos 0) +ℤ value) (pos 0) apart ∙ is_sum,
        )

-- ---- a new place

push_long : (sums : List ℤ) (sum : ℤ) → length (sums ++ sum ∷ []) ≡ length sums + 1
push_long sums sum = length-append sums (sum ∷ [])

still : (old new : List ℤ) (sum : ℤ) → new ≡ old ++ sum ∷ [] → (x : ℕ) (some : List Row) → IsSumAt old x some → IsSumAt new x some
still old new sum are x some (within, is_sum) =
    let long : length new ≡ length old + 1 = ap length are ∙ push_long old sum in
    (omega arith, ap (λ l. get_or l x (pos 0)) are ∙ get_or_append_left old (sum ∷ []) (pos 0) x within ∙ is_sum)

abbrev Puts : Slots → Slots → Stack → ℕ → Type 0
Puts m n stack slot = (q : Stack) → get stack_cmp n q ≡ cond (is_eq (stack_cmp stack q)) (Some slot) (get stack_cmp m q)

pub new_kept : (m n : Slots) (stack stored : Stack) (slot : ℕ) → stored ≡ stack → get stack_cmp m stack ≡ None → Puts m n stored slot → KeepsSlots m n
new_kept m n stack stored slot is none puts = record {
  each = λ q s found. puts q ∙ by q s found (is_eq (stack_cmp stored q)) refl;
}
  where
    by : (q : Stack) (s : ℕ) → get stack_cmp m q ≡ Some s → (b : Bool) → is_eq (stack_cmp stored q) ≡ b → cond b (Some slot) (get stack_cmp m q) ≡ Some s
    by q s found true e =
        let p : Some s ≡ None = sym found ∙ ap (get stack_cmp m) (sym (same_stack stored q e) ∙ is) ∙ none in
        absurd (cc)
    by q s found false e = found

pub new_more : (m n : Slots) (old new : List ℤ) (stack stored : Stack) (slot : ℕ) (value added before after : ℤ)
    → IsOrdered stack_cmp n → stored ≡ stack → get stack_cmp m stack ≡ None → Puts m n stored slot
    → slot ≡ length old → new ≡ old ++ added ∷ [] → added ≡ value → after ≡ before +ℤ value
    → (rows : List Row) (row : Row) → row.stack ≡ stack → row.value ≡ value
    → AreSums m old before rows → AreSums n new after (rows ++ row ∷ [])
new_more m n old new stack stored slot value added before after rising is none puts at_end are is_added more rows row is_stack is_value sums = record {
  groups =
      groups_moved stack_cmp_total stack_cmp_exact stack_of (IsSumAt old) (IsSumAt new) m n rows row slot rising
      (subst (λ s. Puts m n s slot) (is ∙ sym is_stack) puts)
      (subst (λ found. MatchOption found (IsSumAt new slot (row ∷ [])) (λ x. (some : List Row) → IsSumAt old x some → IsSumAt new slot (some ++ row ∷ []))) (sym (ap (get stack_cmp m) is_stack ∙ none)) first)
      (λ q x some other found. still old new added are x some)
      sums.groups;
  apart = λ a b s fa fb. by a b s fa fb (is_eq (stack_cmp stored a)) (is_eq (stack_cmp stored b)) refl refl;
  whole = total_more before after rows row (more ∙ ap (λ v. before +ℤ v) (sym is_value)) sums.whole;
}
  where
    long : length new ≡ length old + 1
    long = ap length are ∙ push_long old added

    first : IsSumAt new slot (row ∷ [])
    first = (
      (let l : length new ≡ length old + 1 = long in let e : slot ≡ length old = at_end in omega arith),
      (λ i. get_or (are i) (at_end i) (pos 0)) ∙ get_or-append_seam old added [] (pos 0) ∙ is_added ∙ sym is_value ∙ sym (+ℤ_idr row.value),
    )

    not_new : (b : Stack) (s : ℕ) → get stack_cmp m b ≡ Some s → s ≡ slot → ⊥
    not_new b s found e = let h : s < length old = inside m old rows b s sums.groups found in omega arith

    of : (a : Stack) (s : ℕ) (b : Bool) → is_eq (stack_cmp stored a) ≡ b → get stack_cmp n a ≡ Some s → cond b (Some slot) (get stack_cmp m a) ≡ Some s
    of a s b e f = sym (puts a ∙ ap (λ c. cond c (Some slot) (get stack_cmp m a)) e) ∙ f

    by : (a b : Stack) (s : ℕ) → get stack_cmp n a ≡ Some s → get stack_cmp n b ≡ Some s → (x y : Bool) → is_eq (stack_cmp stored a) ≡ x → is_eq (stack_cmp stored b) ≡ y → a ≡ b
    by a b s fa fb true true ea eb = sym (same_stack stored a ea) ∙ same_stack stored b eb
    by a b s fa fb true false ea eb =
        let p : Some slot ≡ Some s = of a s true ea fa in
        let e : slot ≡ s = cc in
        absurd (not_new b s (of b s false eb fb) (sym e))
    by a b s fa fb false true ea eb =
        let p : Some slot ≡ Some s = of b s true eb fb in
        let e : slot ≡ s = cc in
        absurd (not_new a s (of a s false ea fa) (sym e))
    by a b s fa fb false false ea eb = sums.apart a b s (of a s false ea fa) (of b s false eb fb)

-- one more sum, which no stack has
pub sums_left : (m n : Slots) (old new : List ℤ) (added total : ℤ) → n.entries ≡ m.entries → new ≡ old ++ added ∷ [] → (rows : List Row) → AreSums m old total rows → AreSums n new total rows
sums_left m n old new added total same are rows sums =
    let finds : (q : Stack) → get stack_cmp n q ≡ get stack_cmp m q = λ q. ap (lookup (is_at (stack_cmp q))) same in
    record {
      groups = groups_retold stack_cmp_total stack_cmp_exact stack_of (IsSumAt old) (IsSumAt new) m n rows (search (rules, same, sums.groups.rising)) finds (λ x some. still old new added are x some) sums.groups;
      apart = λ a b s fa fb. sums.apart a b s (sym (finds a) ∙ fa) (sym (finds b) ∙ fb);
      whole = sums.whole;
    }

-- ---- the list

abbrev pub to_sum : List ℤ → Stack × ℕ → StackSum
to_sum sums e = record { stack = e.0; value = get_or sums e.1 (pos 0) }

pub sums_from_map : (m : Slots) (sums : List ℤ) (rows : List Row) → AreStackSums sums m rows → map (to_sum sums) m.entries ≡ stack_sums rows
sums_from_map m sums rows groups =
    groups_listed stack_cmp_total stack_cmp_exact stack_of (IsSumAt sums) (to_sum sums) (λ stack some. record { stack = stack; value = value_sum some }) (λ stack slot some at. ap (λ n. record { stack = stack; value = n }) at.1) m rows groups

pub no_sums : (m : Slots) (sums : List ℤ) → m.entries ≡ [] → AreSums m sums (pos 0) []
no_sums m sums empty = record {
  groups = groups_none stack_cmp_total stack_cmp_exact stack_of (IsSumAt sums) m empty;
  apart = λ a b s fa fb. absurd (none a s fa);
  whole = refl;
}
  where
    none : (a : Stack) (s : ℕ) → get stack_cmp m a ≡ Some s → ⊥
    none a s found = let p : None ≡ Some s = sym (ap (lookup (is_at (stack_cmp a))) empty) ∙ found in cc

-- ---- places that are inside

pub places_new : (m n : Slots) (old new : List ℤ) (sum : ℤ) (stored : Stack) (slot : ℕ) → Puts m n stored slot → slot ≡ length old → new ≡ old ++ sum ∷ [] → AreInside m old → AreInside n new
places_new m n old new sum stored slot puts at_end are held = record {
  each = λ a s found. by a s (is_eq (stack_cmp stored a)) (sym (puts a) ∙ found);
}
  where
    long : length new ≡ length old + 1
    long = ap length are ∙ push_long old sum

    by : (a : Stack) (s : ℕ) (b : Bool) → cond b (Some slot) (get stack_cmp m a) ≡ Some s → s < length new
    by a s true e =
        let same : slot ≡ s = cc in
        omega (arith, same, at_end, long)
    by a s false e =
        let before : s < length old = held.each a s e in
        omega (arith, before, long)
