-- What std's reader of a signed number gives is the whole number that the text spells.
use Rattle.std.proofs.Common.{ℕ, ℤ, pos, ◌≡◌, ◌≢◌, ◌<◌, ◌≤◌, ◌-◌, ◌^◌, Bool, true, false, cond, List, [], ◌∷◌, length, get_or, Some, None, Result, Ok, Err, refl, arith, rules, w64, sym, subst, eqb, neg_ℤ}
use Rattle.std.specs.Result.{OkIff, result_ok}
use Rattle.std.specs.Str.{all_ascii_digits}
use Rattle.std.specs.Str.Parse.{ParsesSigned}
use Rattle.std.proofs.lemmas.Bool.Decides.{nat_tests}
use Rattle.std.proofs.lemmas.Str.Parse.{IsNumeralModel, numerals_by_fold, parse_signed_minus, parse_signed_plain}
use Rattle.fd_select.specs.Moments.{read_on, number, is_number_to, whole_number}

own : IsNumeralModel (λ ds. all_ascii_digits ds ≡ true) (read_on 0)
own = numerals_by_fold _ (search rules) read_on (search rules)

-- what is read is there where the test says so
read_where : {E : Type 0} (r : Result ℤ E) (Q : Type 0) (b : Bool) (x : ℤ) → OkIff r Q x → (b ≡ true → Q) → (Q → b ≡ true) → result_ok r ≡ cond b (Some x) None
read_where (Ok y) Q b x h to from = let e : b ≡ true = from h.0 in rw (e, h.1)
read_where (Err e) Q true x h to from = absurd (h (to refl))
read_where (Err e) Q false x h to from = refl

test_parts : (most : ℕ) (ds : List ℕ) → is_number_to most ds ≡ true → (all_ascii_digits ds ≡ true) × (0 < length ds) × (number ds ≤ most)
test_parts most ds h = grind (arith, nat_tests)

test_whole : (most : ℕ) (ds : List ℕ) → all_ascii_digits ds ≡ true → 0 < length ds → number ds ≤ most → is_number_to most ds ≡ true
test_whole most ds d l n = grind (arith, nat_tests)

behind_minus : {E : Type 0} (cs : List ℕ) (r : Result ℤ E) → ParsesSigned w64 10 (45 ∷ cs) r → result_ok r ≡ cond (is_number_to (2 ^ 63) cs) (Some (neg_ℤ (pos (number cs)))) None
behind_minus cs r h =
    read_where r _ (is_number_to (2 ^ 63) cs) _ (parse_signed_minus own w64 (45 ∷ cs) r h refl)
    (λ t. let p = test_parts (2 ^ 63) cs t in p)
    (λ q. test_whole (2 ^ 63) cs q.0 q.1 q.2)

plain : {E : Type 0} (bs : List ℕ) (r : Result ℤ E) → ParsesSigned w64 10 bs r → get_or bs 0 0 ≢ 43 → get_or bs 0 0 ≢ 45 → result_ok r ≡ cond (is_number_to (2 ^ 63 - 1) bs) (Some (pos (number bs))) None
plain bs r h p m =
    read_where r _ (is_number_to (2 ^ 63 - 1) bs) _ (parse_signed_plain own w64 bs r h p m)
    (λ t. let q = test_parts (2 ^ 63 - 1) bs t in (q.0, q.1, omega (arith, q.2)))
    (λ q. test_whole (2 ^ 63 - 1) bs q.0 q.1 (omega (arith, q.2)))

pub whole_number_read : {E : Type 0} (bs : List ℕ) (r : Result ℤ E) → ParsesSigned w64 10 bs r → get_or bs 0 0 ≢ 43 → result_ok r ≡ whole_number bs
whole_number_read [] r h p = plain [] r h p (λ e. omega arith)
whole_number_read (c ∷ cs) r h p = by_minus (eqb c 45) refl
  where
    by_minus : (b : Bool) → eqb c 45 ≡ b → result_ok r ≡ whole_number (c ∷ cs)
    by_minus true e =
        let minus : c ≡ 45 = grind (arith, nat_tests) in
        subst (λ (d : ℕ). ParsesSigned w64 10 (d ∷ cs) r → result_ok r ≡ whole_number (d ∷ cs)) (sym minus) (λ k. behind_minus cs r k) h
    by_minus false e = rw e (plain (c ∷ cs) r h p (grind (arith, nat_tests)))
