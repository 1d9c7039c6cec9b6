-- The names that are seen, and the labels that are tested so far.
use Rattle.std.proofs.Common.{◌≡◌, ℕ, suc, ◌+◌, ◌<◌, Bool, true, false, cond, List, [], ◌∷◌, ◌++◌, length, get_or, take, drop, drop-cons, length-take-le, refl, sym, ap, ◌∙◌, arith}
use Rattle.std.specs.Prelude.{◌||◌}
use Rattle.std.specs.Option.{option_or, option_map}
use Rattle.std.specs.Ordering.{is_eq}
use Rattle.std.specs.Cmp.{eq_by_cmp_equiv}
use Rattle.std.specs.Cmp.Lexicographic.{nat_list_cmp_total}
use Rattle.std.specs.BTreeSet.{BTreeSet, contains}
use Rattle.std.specs.BTreeMap.{is_at}
use Rattle.std.proofs.lemmas.List.{take_more}
use Rattle.std.proofs.lemmas.List.Folds.{list_any-append}
use Rattle.fd_kinds.specs.declared.pair.Pair.{Pair}
use Rattle.fd_lists.specs.Texts.{text_cmp}
use Rattle.fd_rows.specs.declared.faults.BatchFault.TheVariants as fault
use Rattle.fd_rows.specs.Labels.{has_label, label_refusal}
use Rattle.fd_rows.specs.Body.{labels_refusal}

or_last : (b c : Bool) → (c || (b || false)) ≡ cond b true c
or_last true true = refl
or_last true false = refl
or_last false true = refl
or_last false false = refl

-- one more name is seen
pub seen_more : (m n : BTreeSet (List ℕ)) (earlier : List Pair) (p : Pair) (key : List ℕ) → key ≡ p.name → ((q : List ℕ) → contains text_cmp m q ≡ has_label earlier q)
    → ((q : List ℕ) → contains text_cmp n q ≡ cond (is_at (text_cmp key) q) true (contains text_cmp m q)) → (q : List ℕ) → contains text_cmp n q ≡ has_label (earlier ++ p ∷ []) q
seen_more m n earlier p key same before puts q =
    let turned : is_eq (text_cmp key q) ≡ is_eq (text_cmp q p.name) = (eq_by_cmp_equiv nat_list_cmp_total).symm key q ∙ ap (λ k. is_eq (text_cmp q k)) same in
    puts q
    ∙ ap (λ b. cond b true (contains text_cmp m q)) turned
    ∙ ap (cond (is_eq (text_cmp q p.name)) true) (before q)
    ∙ sym (list_any-append (λ (x : Pair). is_eq (text_cmp q x.name)) earlier (p ∷ []) ∙ or_last (is_eq (text_cmp q p.name)) (has_label earlier q))

-- the next label, and then those behind it
pub label_step : (series : ℕ) (pairs : List Pair) (i : ℕ) (p : Pair) → i < length pairs → p ≡ get_or pairs i p
    → labels_refusal series (take i pairs) (drop i pairs) ≡ option_or (option_map (fault.Label series i) (label_refusal (take i pairs) p)) (labels_refusal series (take (i + 1) pairs) (drop (i + 1) pairs))
label_step series pairs i p within here =
    let s : suc i ≡ i + 1 = omega arith in
    let dropped : drop i pairs ≡ p ∷ drop (i + 1) pairs = drop-cons pairs i p within ∙ ap (λ k. get_or pairs i p ∷ drop k pairs) s ∙ ap (λ x. x ∷ drop (i + 1) pairs) (sym here) in
    let taken : take i pairs ++ p ∷ [] ≡ take (i + 1) pairs = sym (take_more pairs i p within ∙ ap (λ x. take i pairs ++ x ∷ []) (sym here)) in
    ap (labels_refusal series (take i pairs)) dropped
    ∙ ap (λ k. option_or (option_map (fault.Label series k) (label_refusal (take i pairs) p)) (labels_refusal series (take i pairs ++ p ∷ []) (drop (i + 1) pairs))) (length-take-le i pairs (omega arith))
    ∙ ap (λ xs. option_or (option_map (fault.Label series i) (label_refusal (take i pairs) p)) (labels_refusal series xs (drop (i + 1) pairs))) taken

pub ruleset label_steps = (seen_more, label_step)
