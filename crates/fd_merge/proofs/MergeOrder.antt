-- What is done, followed by what is left of either side, stays in order.
use Rattle.std.proofs.Common.{◌≡◌, ℕ, zero, suc, ◌+◌, ◌<◌, Bool, true, false, not, cond, List, [], ◌∷◌, ◌++◌, length, get_or, IsTrue, refl, sym, ◌∙◌, ap, subst, arith}
use Rattle.std.specs.Prelude.{Some, None, All, IsSorted, IsPermutation}
use Rattle.std.specs.declared.cmp.Ordering.{Ordering}
use Rattle.std.specs.declared.cmp.Ordering.TheVariants.{Less, Equal, Greater}
use Rattle.std.specs.Ordering.{is_lt, ordering_reverse}
use Rattle.std.specs.Cmp.{IsTotalOrder, then_total, on_total, nat_cmp_total}
use Rattle.std.proofs.lemmas.Bool.{and_from, and_parts}
use Rattle.std.proofs.lemmas.Option.{same_Some}
use Rattle.std.proofs.lemmas.List.Elements.{All-tail}
use Rattle.std.proofs.lemmas.List.{append_assoc, append-nil}
use Rattle.std.proofs.lemmas.List.Sorted.{IsPermutation-refl, IsPermutation-trans, IsPermutation-append_right, IsPermutation-middle}
use Rattle.fd_kinds.specs.declared.row.Numbered.{Numbered}
use Rattle.fd_kinds.specs.RowOrder.{row_cmp}
use Rattle.fd_column.specs.RowNumbers.{numbered_cmp}
use Rattle.fd_column.specs.RowNumbers.{IsNumber}
use Rattle.fd_merge.specs.declared.side.Side.TheVariants.{Left, Right}
use Rattle.fd_merge.specs.Merges.{MovesFirst, next_side, leads, rises, Merges, Starts, Ends, Turns}

not_true : (b : Bool) → IsTrue (not b) → b ≡ false
not_true true h = cc
not_true false h = refl

not_false : (b : Bool) → b ≡ false → IsTrue (not b)
not_false b h = rw h refl

pub sorted_from : (xs : List Numbered) → IsTrue (rises xs) → IsSorted numbered_cmp xs
sorted_from [] h = λ k d low high. absurd (omega (arith, high))
sorted_from (x ∷ []) h = λ k d low high. absurd (omega (arith, high))
sorted_from (x ∷ y ∷ xs) h = λ k d low high. by k d high (sorted_from (y ∷ xs) (and_parts (leads x (y ∷ xs)) (rises (y ∷ xs)) h).1)
  where
    by : (k : ℕ) (d : Numbered) → k + 1 < length (x ∷ y ∷ xs) → IsSorted numbered_cmp (y ∷ xs) → is_lt (numbered_cmp (get_or (x ∷ y ∷ xs) (k + 1) d) (get_or (x ∷ y ∷ xs) k d)) ≡ false
    by zero d high ih = not_true (is_lt (numbered_cmp y x)) (and_parts (leads x (y ∷ xs)) (rises (y ∷ xs)) h).0
    by (suc k) d high ih =
        let same : suc (k + 1) ≡ suc k + 1 = omega arith in
        subst (λ n. is_lt (numbered_cmp (get_or (x ∷ y ∷ xs) n d) (get_or (x ∷ y ∷ xs) (suc k) d)) ≡ false) same (ih k d (omega arith) (omega (arith, high)))

pub rises_from : (xs : List Numbered) → IsSorted numbered_cmp xs → IsTrue (rises xs)
rises_from [] h = refl
rises_from (x ∷ []) h = refl
rises_from (x ∷ y ∷ xs) h =
    and_from (leads x (y ∷ xs)) (rises (y ∷ xs)) (not_false (is_lt (numbered_cmp y x)) (h 0 x (omega arith) (omega arith))) (rises_from (y ∷ xs) behind)
  where
    behind : IsSorted numbered_cmp (y ∷ xs)
    behind = λ k d low high.
        let same : suc k + 1 ≡ suc (k + 1) = omega arith in
        subst (λ n. is_lt (numbered_cmp (get_or (x ∷ y ∷ xs) n d) (get_or (x ∷ y ∷ xs) (suc k) d)) ≡ false) same (h (suc k) d (omega arith) (omega (arith, high)))

-- the first row of one side goes to the end of what is done, and the other side still follows
pub other_follows : (done : List Numbered) (x : Numbered) (rest other : List Numbered) → IsTrue (rises (done ++ x ∷ rest)) → IsTrue (rises (done ++ other)) → IsTrue (leads x other) → IsTrue (rises (done ++ x ∷ other))
other_follows [] x rest other h o l = and_from (leads x other) (rises other) l o
other_follows (d ∷ []) x rest other h o l =
    let parts = and_parts (leads d (x ∷ rest)) (rises (x ∷ rest)) h in
    let others = and_parts (leads d other) (rises other) o in
    and_from (leads d (x ∷ other)) (rises (x ∷ other)) parts.0 (and_from (leads x other) (rises other) l others.1)
other_follows (d ∷ e ∷ done) x rest other h o l =
    let parts = and_parts (leads d (e ∷ done ++ x ∷ rest)) (rises (e ∷ done ++ x ∷ rest)) h in
    let others = and_parts (leads d (e ∷ done ++ other)) (rises (e ∷ done ++ other)) o in
    and_from (leads d (e ∷ done ++ x ∷ other)) (rises (e ∷ done ++ x ∷ other)) parts.0 (other_follows (e ∷ done) x rest other parts.1 others.1 l)

numbered_total : IsTotalOrder row_cmp → IsTotalOrder numbered_cmp
numbered_total o = then_total (on_total (λ (n : Numbered). n.row) o) (on_total (λ (n : Numbered). n.number) nat_cmp_total)

-- the first of the right leads the left where it is next, and that of the left leads the right where that is next
right_leads : IsTotalOrder row_cmp → (left : List Numbered) (y : Numbered) (right : List Numbered) → next_side left (y ∷ right) ≡ Some Right → IsTrue (leads y left)
right_leads o [] y right h = refl
right_leads o (x ∷ left) y right h = by (numbered_cmp y x) refl h
  where
    apart : Left ≡ Right → ⊥
    apart h = cc

    by : (p : Ordering) → numbered_cmp y x ≡ p → Some (cond (is_lt p) Right Left) ≡ Some Right → IsTrue (leads y (x ∷ left))
    by Less e h =
        let back : numbered_cmp x y ≡ Greater = (numbered_total o).antisymm x y ∙ ap ordering_reverse e in
        rw back refl
    by Equal e h = absurd (apart (same_Some Left Right h))
    by Greater e h = absurd (apart (same_Some Left Right h))

left_leads : (x : Numbered) (left right : List Numbered) → next_side (x ∷ left) right ≡ Some Left → IsTrue (leads x right)
left_leads x left [] h = refl
left_leads x left (y ∷ right) h = by (is_lt (numbered_cmp y x)) refl h
  where
    apart : Right ≡ Left → ⊥
    apart h = cc

    by : (b : Bool) → is_lt (numbered_cmp y x) ≡ b → Some (cond b Right Left) ≡ Some Left → IsTrue (not (is_lt (numbered_cmp y x)))
    by true e h = absurd (apart (same_Some Right Left h))
    by false e h = not_false (is_lt (numbered_cmp y x)) e

pub left_there : (left right : List Numbered) → next_side left right ≡ Some Left → 0 < length left
left_there [] [] h = cc
left_there [] (y ∷ right) h = absurd (apart (same_Some Right Left h))
  where
    apart : Right ≡ Left → ⊥
    apart h = cc
left_there (x ∷ left) right h = omega arith

pub right_there : (left right : List Numbered) → next_side left right ≡ Some Right → 0 < length right
right_there [] [] h = cc
right_there (x ∷ left) [] h = absurd (apart (same_Some Left Right h))
  where
    apart : Left ≡ Right → ⊥
    apart h = cc
right_there left (y ∷ right) h = omega arith

pub none_left : (left right : List Numbered) → next_side left right ≡ None → (left ≡ []) × (right ≡ [])
none_left [] [] h = (refl, refl)
none_left [] (y ∷ right) h = cc
none_left (x ∷ left) [] h = cc
none_left (x ∷ left) (y ∷ right) h = cc

pub merges_start : (left right : List Numbered) → IsSorted numbered_cmp left → IsSorted numbered_cmp right → Merges (left ++ right) [] left right
merges_start left right l r = record {
  same = IsPermutation-refl (left ++ right);
  with_left = rises_from left l;
  with_right = rises_from right r;
}

-- done, then x and the rest, grouped as x at the end of done
regroup : (done : List Numbered) (x : Numbered) (rest : List Numbered) → (done ++ x ∷ []) ++ rest ≡ done ++ x ∷ rest
regroup done x rest = append_assoc done (x ∷ []) rest

pub merges_left : (all done : List Numbered) (x : Numbered) (left right : List Numbered) → IsTrue (leads x right) → Merges all done (x ∷ left) right → Merges all (done ++ x ∷ []) left right
merges_left all done x left right l m = record {
  same = subst (IsPermutation all) (sym (regroup done x (left ++ right))) m.same;
  with_left = subst (λ xs. IsTrue (rises xs)) (sym (regroup done x left)) m.with_left;
  with_right = subst (λ xs. IsTrue (rises xs)) (sym (regroup done x right)) (other_follows done x left right m.with_left m.with_right l);
}

pub merges_right : (all done left : List Numbered) (x : Numbered) (right : List Numbered) → IsTrue (leads x left) → Merges all done left (x ∷ right) → Merges all (done ++ x ∷ []) left right
merges_right all done left x right l m = record {
  same = subst (IsPermutation all) (sym (regroup done x (left ++ right))) (IsPermutation-trans all (done ++ (left ++ x ∷ right)) (done ++ x ∷ (left ++ right)) m.same (IsPermutation-append_right done (left ++ x ∷ right) (x ∷ (left ++ right)) (IsPermutation-middle left x right)));
  with_left = subst (λ xs. IsTrue (rises xs)) (sym (regroup done x left)) (other_follows done x right left m.with_right m.with_left l);
  with_right = subst (λ xs. IsTrue (rises xs)) (sym (regroup done x right)) m.with_right;
}

pub turns_left : (done left right done' left' : List Numbered) → next_side left right ≡ Some Left → All IsNumber left → All IsNumber right → MovesFirst done left done' left' → Turns done left right done' left' right
turns_left done left right done' left' side l r m = record {
  keeps = λ all merges. subst (λ d. Merges all d left' right) (sym m.done_is) (merges_left all done m.first left' right (left_leads m.first left' right (subst (λ xs. next_side xs right ≡ Some Left) m.rest_is side)) (subst (λ xs. Merges all done xs right) m.rest_is merges));
  left_numbers = All-tail IsNumber m.first left' (subst (All IsNumber) m.rest_is l);
  right_numbers = r;
  fewer = let one : length left ≡ suc (length left') = ap length m.rest_is in omega (arith, one);
}

pub turns_right : IsTotalOrder row_cmp → (done left right done' right' : List Numbered) → next_side left right ≡ Some Right → All IsNumber left → All IsNumber right → MovesFirst done right done' right' → Turns done left right done' left right'
turns_right o done left right done' right' side l r m = record {
  keeps = λ all merges. subst (λ d. Merges all d left right') (sym m.done_is) (merges_right all done left m.first right' (right_leads o left m.first right' (subst (λ xs. next_side left xs ≡ Some Right) m.rest_is side)) (subst (λ xs. Merges all done left xs) m.rest_is merges));
  left_numbers = l;
  right_numbers = All-tail IsNumber m.first right' (subst (All IsNumber) m.rest_is r);
  fewer = let one : length right ≡ suc (length right') = ap length m.rest_is in omega (arith, one);
}

-- nothing is left
pub merges_all : (all done left right : List Numbered) → next_side left right ≡ None → Merges all done left right → IsPermutation all done
merges_all all done left right side m =
    let none = none_left left right side in
    subst (IsPermutation all) (append-nil done) (subst (λ xs. IsPermutation all (done ++ (xs ++ []))) none.0 (subst (λ xs. IsPermutation all (done ++ (left ++ xs))) none.1 m.same))

pub merges_sorted : (all done left right : List Numbered) → next_side left right ≡ None → Merges all done left right → IsSorted numbered_cmp done
merges_sorted all done left right side m =
    sorted_from done (subst (λ xs. IsTrue (rises xs)) (append-nil done) (subst (λ xs. IsTrue (rises (done ++ xs))) (none_left left right side).0 m.with_left))

pub ends_all : (done left right done' left' right' : List Numbered) → next_side left' right' ≡ None → ((all : List Numbered) → Merges all done left right → Merges all done' left' right') → Ends done left right done'
ends_all done left right done' left' right' side keeps = record {
  rows = λ all m. merges_all all done' left' right' side (keeps all m);
  sorted = λ all m. merges_sorted all done' left' right' side (keeps all m);
}

start_merges : (left right done left' right' : List Numbered) → IsSorted numbered_cmp left → IsSorted numbered_cmp right → Starts left right done left' right' → Merges (left ++ right) done left' right'
start_merges left right done left' right' l r s =
    subst (λ d. Merges (left ++ right) d left' right') (sym s.done_is) (subst (λ xs. Merges (left ++ right) [] xs right') (sym s.left_is) (subst (λ xs. Merges (left ++ right) [] left xs) (sym s.right_is) (merges_start left right l r)))

-- from the start to the end
pub all_merged : (left right done left' right' done' : List Numbered) → IsSorted numbered_cmp left → IsSorted numbered_cmp right → Starts left right done left' right' → Ends done left' right' done' → IsPermutation (left ++ right) done'
all_merged left right done left' right' done' l r s e = e.rows (left ++ right) (start_merges left right done left' right' l r s)

pub all_sorted : (left right done left' right' done' : List Numbered) → IsSorted numbered_cmp left → IsSorted numbered_cmp right → Starts left right done left' right' → Ends done left' right' done' → IsSorted numbered_cmp done'
all_sorted left right done left' right' done' l r s e = e.sorted (left ++ right) (start_merges left right done left' right' l r s)
