-- How `clap` sees a word.
use Rattle.std.proofs.Common.{◌≡◌, ℕ, suc, ◌+◌, Bool, true, false, cond, not, ◌&&◌, ◌||◌, ◌==◌, [], ◌∷◌, take, Option, Some, None, option_and_then, IsUtf8, slice_get, bytes_eq, encode_utf8_all, arith, refl, sym, ap, subst, ◌∙◌, true≢false, eqb-true}
use Rattle.std.specs.List.{list_any, before_first, after_first, position_or_len}
use Rattle.std.specs.Char.{encode_utf8}
use Rattle.std.specs.Str.{chars}
use Rattle.std.proofs.lemmas.Str.{encodes-chars}
use Rattle.clap.specs.Lexer.{long_of, long_of_rest, short_of, short_of_rest, strip_byte}
use Rattle.fd_words.specs.Lines.{Text, Look, ends, named, valued, short, plain, is_equals, behind_two_hyphens, behind_hyphen, look_of}

-- what a word that looks so is: `--`, a long option, and short ones
abbrev pub Lexed : Bool → Option (Text × Option Text) → Option Text → Look → Type 0
Lexed d l s ends = d ≡ true
Lexed d l s (named name) = (d ≡ false) × (l ≡ Some (name, None))
Lexed d l s (valued name value) = (d ≡ false) × (l ≡ Some (name, Some value))
Lexed d l s short = (d ≡ false) × (l ≡ None) × (flags : Text) × (s ≡ Some flags)
Lexed d l s plain = (d ≡ false) × (l ≡ None) × (s ≡ None)

abbrev pub dashes : Text
dashes = 45 ∷ 45 ∷ []

before_all : (t : Text) → list_any is_equals t ≡ false → before_first is_equals t ≡ t
before_all [] h = refl
before_all (x ∷ xs) h = go (x == 61) (before_all xs) h
  where
    go : (b : Bool) → (list_any is_equals xs ≡ false → before_first is_equals xs ≡ xs) → (b || list_any is_equals xs) ≡ false
        → take (cond (not b) (1 + position_or_len is_equals xs) 0) (x ∷ xs) ≡ x ∷ xs
    go true more h = absurd (true≢false h)
    go false more h =
        let next : 1 + position_or_len is_equals xs ≡ suc (position_or_len is_equals xs) = omega arith in
        ap (λ (k : ℕ). take k (x ∷ xs)) next ∙ ap (λ (ys : Text). x ∷ ys) (more h)

lexed_two : (c : ℕ) (cs : Text) (b : Bool) → list_any is_equals (c ∷ cs) ≡ b
    → Lexed false (Some (before_first is_equals (c ∷ cs), cond b (Some (after_first is_equals (c ∷ cs))) None)) None
    (cond b (valued (before_first is_equals (c ∷ cs)) (after_first is_equals (c ∷ cs))) (named (c ∷ cs)))
lexed_two c cs true e = (refl, refl)
lexed_two c cs false e = (refl, ap (λ (t : Text). Some (t, None)) (before_all (c ∷ cs) e))

lexed_one : (c : ℕ) (cs : Text) (b : Bool)
    → Lexed (b && bytes_eq cs []) (option_and_then long_of_rest (cond b (Some cs) None)) (cond b None (Some (c ∷ cs))) (cond b (behind_two_hyphens cs) short)
lexed_one c cs false = (refl, refl, c ∷ cs, refl)
lexed_one c [] true = refl
lexed_one c (d ∷ ds) true = lexed_two d ds (list_any is_equals (d ∷ ds)) refl

lexed_at : (c : ℕ) (cs : Text) (b : Bool)
    → Lexed (b && bytes_eq cs (45 ∷ [])) (option_and_then long_of_rest (option_and_then (strip_byte 45) (cond b (Some cs) None)))
    (option_and_then short_of_rest (cond b (Some cs) None)) (cond b (behind_hyphen cs) plain)
lexed_at c cs false = (refl, refl, refl)
lexed_at c [] true = (refl, refl, refl)
lexed_at c (d ∷ ds) true = lexed_one d ds (d == 45)

pub lexed : (word : Text) → Lexed (bytes_eq word dashes) (long_of word) (short_of word) (look_of word)
lexed [] = (refl, refl, refl)
lexed (c ∷ cs) = lexed_at c cs (c == 45)

-- ---- short options begin with a character

first_char : (d : ℕ) (ds cs : Text) → chars (d ∷ ds) ≡ cs → encode_utf8_all (45 ∷ chars (d ∷ ds)) ≡ 45 ∷ d ∷ ds → (x : ℕ) × (slice_get (chars (d ∷ ds)) 0 ≡ Some x)
unfolding encode_utf8
first_char d ds [] e same =
    let bad : 45 ∷ [] ≡ 45 ∷ d ∷ ds = ap (λ (l : Text). encode_utf8_all (45 ∷ l)) (sym e) ∙ same in
    cc
first_char d ds (x ∷ xs) e same = (x, ap (λ (l : Text). slice_get l 0) e)

hyphen_first : (d : ℕ) (ds : Text) → chars (45 ∷ d ∷ ds) ≡ 45 ∷ chars (d ∷ ds)
unfolding chars
hyphen_first d ds = refl

behind_it : (c d : ℕ) (ds : Text) → c ≡ 45 → IsUtf8 (c ∷ d ∷ ds) → (x : ℕ) × (slice_get (chars (d ∷ ds)) 0 ≡ Some x)
behind_it c d ds e u =
    let here : IsUtf8 (45 ∷ d ∷ ds) = subst (λ (k : ℕ). IsUtf8 (k ∷ d ∷ ds)) e u in
    first_char d ds (chars (d ∷ ds)) refl (ap encode_utf8_all (sym (hyphen_first d ds)) ∙ encodes-chars (45 ∷ d ∷ ds) here)

pub short_starts : (word flags : Text) → short_of word ≡ Some flags → IsUtf8 word → (x : ℕ) × (slice_get (chars flags) 0 ≡ Some x)
short_starts [] flags e u = cc
short_starts (c ∷ cs) flags e u = go (c == 45) refl cs u e
  where
    inner : (d : ℕ) (ds : Text) (b : Bool) → c ≡ 45 → IsUtf8 (c ∷ d ∷ ds) → cond b None (Some (d ∷ ds)) ≡ Some flags → (x : ℕ) × (slice_get (chars flags) 0 ≡ Some x)
    inner d ds true is u e = cc
    inner d ds false is u e =
        let same : d ∷ ds ≡ flags = cc in
        subst (λ (l : Text). (x : ℕ) × (slice_get (chars l) 0 ≡ Some x)) same (behind_it c d ds is u)

    go : (b : Bool) → (c == 45) ≡ b → (cs : Text) → IsUtf8 (c ∷ cs) → option_and_then short_of_rest (cond b (Some cs) None) ≡ Some flags
        → (x : ℕ) × (slice_get (chars flags) 0 ≡ Some x)
    go false is cs u e = cc
    go true is [] u e = cc
    go true is (d ∷ ds) u e = inner d ds (d == 45) (eqb-true c 45 is) u e
