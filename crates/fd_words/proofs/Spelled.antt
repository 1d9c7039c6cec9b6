-- A number that decimal digits spell, and the number that parsing them gives.
use Rattle.std.proofs.Common.{◌≡◌, ℕ, ◌<◌, ◌≤◌, ◌^◌, Bool, true, false, cond, not, ◌&&◌, nat_le, List, Result, Some, None, Ok, Err, bytes_eq, decimal, arith, refl, sym, ap, ◌∙◌, true≢false, le-leb, leb-true}
use Rattle.std.specs.Str.Parse.{ParsesUnsigned, digits_value}
use Rattle.std.proofs.lemmas.Fmt.{decimal_is_IsNumeral, parse-decimal}
use Rattle.std.proofs.lemmas.Slice.Eq.{bytes_eq-Decides}
use Rattle.fd_words.specs.Numbers.{number}

chosen : (text : List ℕ) (d least most : ℕ) → bytes_eq text (decimal d) ≡ true → nat_le least d ≡ true → nat_le d most ≡ true
    → cond (bytes_eq text (decimal d) && (nat_le least d && nat_le d most)) (Some d) None ≡ Some d
chosen text d least most same low high =
    ap (λ (b : Bool). cond (b && (nat_le least d && nat_le d most)) (Some d) None) same
    ∙ ap (λ (b : Bool). cond (b && nat_le d most) (Some d) None) low
    ∙ ap (λ (b : Bool). cond b (Some d) None) high

number_some : (least most n : ℕ) (text : List ℕ) → n < 2 ^ 64 → decimal n ≡ text → least ≤ n → n ≤ most → number least most text ≡ Some n
number_some least most n text small is low high =
    let value : digits_value 10 text ≡ n = ap (digits_value 10) (sym is) ∙ (decimal_is_IsNumeral n small).1 in
    ap (λ (d : ℕ). cond (bytes_eq text (decimal d) && (nat_le least d && nat_le d most)) (Some d) None) value
    ∙ chosen text n least most ((bytes_eq-Decides text (decimal n)).1 (sym is)) (le-leb least n low) (le-leb n most high)

number_none : {E : Type 0} (least most : ℕ) (text : List ℕ) (r : Result ℕ E) → ParsesUnsigned 64 10 text r → most < 2 ^ 64
    → ((n : ℕ) → r ≡ Ok n → decimal n ≡ text → least ≤ n → n ≤ most → ⊥) → number least most text ≡ None
number_none least most text r parses small never = go (bytes_eq text (decimal d)) refl (nat_le least d) refl (nat_le d most) refl
  where
    d : ℕ
    d = digits_value 10 text

    go : (b : Bool) → bytes_eq text (decimal (digits_value 10 text)) ≡ b → (low : Bool) → nat_le least (digits_value 10 text) ≡ low
        → (high : Bool) → nat_le (digits_value 10 text) most ≡ high → cond (b && (low && high)) (Some (digits_value 10 text)) None ≡ None
    go false same low is_low high is_high = refl
    go true same false is_low high is_high = refl
    go true same true is_low false is_high = refl
    go true same true is_low true is_high =
        let spelled : text ≡ decimal (digits_value 10 text) = (bytes_eq-Decides text (decimal (digits_value 10 text))).0 same in
        let upto : digits_value 10 text ≤ most = leb-true (digits_value 10 text) most is_high in
        absurd (never (digits_value 10 text)
        (parse-decimal 64 (digits_value 10 text) text r (omega arith) (omega arith) spelled parses)
        (sym spelled) (leb-true least (digits_value 10 text) is_low) upto)

-- ---- the steps of reading

pub number_unread : {E : Type 0} (least most : ℕ) (text : List ℕ) (r : Result ℕ E) (e : E) → ParsesUnsigned 64 10 text r → r ≡ Err e → most < 2 ^ 64
    → number least most text ≡ None
number_unread {E = E} least most text r e parses is small = number_none least most text r parses small (λ n ok same low high. clash n (sym ok ∙ is))
  where
    clash : (n : ℕ) → ◌≡◌ {A = Result ℕ E} (Ok n) (Err e) → ⊥
    clash n bad = cc

number_other : {E : Type 0} (least most : ℕ) (text : List ℕ) (r : Result ℕ E) (n : ℕ) → ParsesUnsigned 64 10 text r → r ≡ Ok n → most < 2 ^ 64
    → (decimal n ≡ text → least ≤ n → n ≤ most → ⊥) → number least most text ≡ None
number_other {E = E} least most text r n parses is small never =
    number_none least most text r parses small (λ k ok same low high.
    let one : k ≡ n = same_ok k (sym ok ∙ is) in
    never (ap decimal (sym one) ∙ same) (omega (arith, one)) (omega (arith, one)))
  where
    same_ok : (k : ℕ) → ◌≡◌ {A = Result ℕ E} (Ok k) (Ok n) → k ≡ n
    same_ok k h = cc

pub number_unlike : {E : Type 0} (least most : ℕ) (text : List ℕ) (r : Result ℕ E) (n : ℕ) → ParsesUnsigned 64 10 text r → r ≡ Ok n → most < 2 ^ 64
    → (decimal n ≡ text → ⊥) → number least most text ≡ None
number_unlike least most text r n parses is small other = number_other least most text r n parses is small (λ same low high. other same)

pub number_low : {E : Type 0} (least most : ℕ) (text : List ℕ) (r : Result ℕ E) (n : ℕ) → ParsesUnsigned 64 10 text r → r ≡ Ok n → most < 2 ^ 64
    → n < least → number least most text ≡ None
number_low least most text r n parses is small low = number_other least most text r n parses is small (λ same atleast high. absurd (omega (arith, low, atleast)))

pub number_high : {E : Type 0} (least most : ℕ) (text : List ℕ) (r : Result ℕ E) (n : ℕ) → ParsesUnsigned 64 10 text r → r ≡ Ok n → most < 2 ^ 64
    → most < n → number least most text ≡ None
number_high least most text r n parses is small high = number_other least most text r n parses is small (λ same low upto. absurd (omega (arith, high, upto)))

pub number_read : (least most n : ℕ) (text : List ℕ) → most < 2 ^ 64 → decimal n ≡ text → least ≤ n → n ≤ most → number least most text ≡ Some n
number_read least most n text small same low high = number_some least most n text (omega (arith, small, high)) same low high

pub ruleset number_steps = (number_unread, number_unlike, number_low, number_high, number_read)

-- a test for another text, by what it answers
pub other_text : (a b : List ℕ) (answer : Bool) → answer ≡ not (bytes_eq a b) → answer ≡ true → a ≡ b → ⊥
other_text a b answer is differs same = true≢false (sym differs ∙ is ∙ ap not ((bytes_eq-Decides a b).1 same))

same_at : (b : Bool) → not b ≡ false → b ≡ true
same_at true h = refl
same_at false h = absurd (true≢false h)

pub same_text : (a b : List ℕ) (answer : Bool) → answer ≡ not (bytes_eq a b) → answer ≡ false → a ≡ b
same_text a b answer is agrees = (bytes_eq-Decides a b).0 (same_at (bytes_eq a b) (sym is ∙ agrees))
