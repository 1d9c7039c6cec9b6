-- One more byte at the end.
use Rattle.std.proofs.Common.{ℕ, ◌≡◌, ◌-◌, List, [], ◌∷◌, ◌++◌, length, drop, Bool, true, false, ◌&&◌, ◌||◌, nat_eq, arith, refl, ap, ◌∙◌, length-append}
use Rattle.std.specs.Cmp.Lexicographic.{pointwise}
use Rattle.std.specs.List.{list_any, ends_with}
use Rattle.std.proofs.lemmas.List.{drop-append-le, drop_all}
use Rattle.std.proofs.lemmas.Bool.Decides.{nat_tests}
use Rattle.httparse.specs.Ascii.{line_feed, carriage_return}
use Rattle.fd_http.specs.Front.{is_text_byte, ends_blank}

none_is_some : (xs : List ℕ) (x : ℕ) → pointwise nat_eq [] (xs ++ x ∷ []) ≡ false
none_is_some [] x = refl
none_is_some (y ∷ xs) x = refl

some_is_none : (xs : List ℕ) (x : ℕ) → pointwise nat_eq (xs ++ x ∷ []) [] ≡ false
some_is_none [] x = refl
some_is_none (y ∷ xs) x = refl

-- lists are equal where their last items and the rest are
pub pointwise_push : (xs ys : List ℕ) (x y : ℕ) → pointwise nat_eq (xs ++ x ∷ []) (ys ++ y ∷ []) ≡ (pointwise nat_eq xs ys && nat_eq x y)
pointwise_push [] [] x y = grind arith
pointwise_push [] (b ∷ ys) x y = grind (arith, none_is_some ys y)
pointwise_push (a ∷ xs) [] x y = grind (arith, some_is_none xs x)
pointwise_push (a ∷ xs) (b ∷ ys) x y = grind (arith, pointwise_push xs ys x y)

-- a list ends with another where their last items are equal and the rest ends with the rest
pub ends_with_push : (xs ys : List ℕ) (x y : ℕ) → ends_with nat_eq (xs ++ x ∷ []) (ys ++ y ∷ []) ≡ (ends_with nat_eq xs ys && nat_eq y x)
ends_with_push xs ys x y =
    let n : length (xs ++ x ∷ []) - length (ys ++ y ∷ []) ≡ length xs - length ys = omega (arith, length-append xs (x ∷ []), length-append ys (y ∷ [])) in
    let d : drop (length xs - length ys) (xs ++ x ∷ []) ≡ drop (length xs - length ys) xs ++ x ∷ [] = drop-append-le (length xs - length ys) xs (x ∷ []) (omega arith) in
    ap (λ (k : ℕ). pointwise nat_eq (ys ++ y ∷ []) (drop k (xs ++ x ∷ []))) n
    ∙ ap (pointwise nat_eq (ys ++ y ∷ [])) d
    ∙ pointwise_push ys (drop (length xs - length ys) xs) y x

ends_with_none : (xs : List ℕ) → ends_with nat_eq xs [] ≡ true
ends_with_none xs = ap (pointwise nat_eq []) (drop_all (length xs - 0) xs (omega arith))

nat_eq_sym : (a b : ℕ) → nat_eq a b ≡ nat_eq b a
nat_eq_sym a b = grind (arith, nat_tests)

any_push : (p : ℕ → Bool) (xs : List ℕ) (x : ℕ) → list_any p (xs ++ x ∷ []) ≡ (list_any p xs || p x)
any_push p [] x = grind arith
any_push p (y ∷ xs) x = grind (arith, any_push p xs x)

pub text_push : (seen : List ℕ) (b : ℕ) → list_any is_text_byte (seen ++ b ∷ []) ≡ (list_any is_text_byte seen || is_text_byte b)
text_push seen b = any_push is_text_byte seen b

pub feed_push : (seen : List ℕ) (b : ℕ) → ends_with nat_eq (seen ++ b ∷ []) (line_feed ∷ []) ≡ nat_eq b line_feed
feed_push seen b =
    ends_with_push seen [] b line_feed
    ∙ ap (λ (t : Bool). t && nat_eq line_feed b) (ends_with_none seen)
    ∙ nat_eq_sym line_feed b

pub return_push : (seen : List ℕ) (b : ℕ) → ends_with nat_eq (seen ++ b ∷ []) (line_feed ∷ carriage_return ∷ []) ≡ (ends_with nat_eq seen (line_feed ∷ []) && nat_eq b carriage_return)
return_push seen b =
    ends_with_push seen (line_feed ∷ []) b carriage_return
    ∙ ap (λ (t : Bool). ends_with nat_eq seen (line_feed ∷ []) && t) (nat_eq_sym carriage_return b)

pub blank_push : (seen : List ℕ) (b : ℕ)
    → ends_blank (seen ++ b ∷ []) ≡ (nat_eq b line_feed && (ends_with nat_eq seen (line_feed ∷ []) || ends_with nat_eq seen (line_feed ∷ carriage_return ∷ [])))
blank_push seen b =
    let two : ends_with nat_eq (seen ++ b ∷ []) (line_feed ∷ line_feed ∷ []) ≡ (ends_with nat_eq seen (line_feed ∷ []) && nat_eq b line_feed) =
    ends_with_push seen (line_feed ∷ []) b line_feed ∙ ap (λ (t : Bool). ends_with nat_eq seen (line_feed ∷ []) && t) (nat_eq_sym line_feed b) in
    let three : ends_with nat_eq (seen ++ b ∷ []) (line_feed ∷ carriage_return ∷ line_feed ∷ []) ≡ (ends_with nat_eq seen (line_feed ∷ carriage_return ∷ []) && nat_eq b line_feed) =
    ends_with_push seen (line_feed ∷ carriage_return ∷ []) b line_feed ∙ ap (λ (t : Bool). ends_with nat_eq seen (line_feed ∷ carriage_return ∷ []) && t) (nat_eq_sym line_feed b) in
    ap (λ (t : Bool). t || ends_with nat_eq (seen ++ b ∷ []) (line_feed ∷ carriage_return ∷ line_feed ∷ [])) two
    ∙ ap (λ (t : Bool). (ends_with nat_eq seen (line_feed ∷ []) && nat_eq b line_feed) || t) three
    ∙ shared (ends_with nat_eq seen (line_feed ∷ [])) (ends_with nat_eq seen (line_feed ∷ carriage_return ∷ [])) (nat_eq b line_feed)
  where
    shared : (p q r : Bool) → ((p && r) || (q && r)) ≡ (r && (p || q))
    shared true true true = refl
    shared true true false = refl
    shared true false true = refl
    shared true false false = refl
    shared false true true = refl
    shared false true false = refl
    shared false false true = refl
    shared false false false = refl
