-- The names and values that the reader holds are text, and so is what it has still to read.
use Rattle.std.proofs.Common.{ℕ, ◌≡◌, ◌<◌, Bool, true, false, eqb, ◌||◌, List, [], ◌∷◌, ◌++◌, length, get_or, Some, None, refl, sym, subst, arith, append_assoc, IsUtf8, length-append}
use Rattle.std.specs.Option.{IfSome}
use Rattle.std.proofs.lemmas.Bool.Decides.{nat_tests}
use Rattle.std.proofs.lemmas.List.{get_or_at, take_at, drop_at}
use Rattle.std.proofs.lemmas.Str.{IsUtf8-append, IsUtf8-take, IsUtf8-drop, IsUtf8-from_ascii, IsCharBoundary-before_ascii, IsCharBoundary-after_ascii}
use Rattle.std.proofs.lemmas.Str.Ascii.{IsAscii-cons, IsAscii-nil}
use Rattle.fd_kinds.specs.declared.query.MatchOp.{MatchOp}
use Rattle.fd_kinds.specs.declared.query.Matcher.{Matcher}
use Rattle.fd_select.specs.declared.reader.Stage.{Stage}
use Rattle.fd_select.specs.declared.reader.Stage.TheVariants.{Open, Name, Named, Bang, Operator, Quoted, Escaped, Matched, End}
use Rattle.fd_kinds.specs.Names.{is_name_start, is_name_byte}
use Rattle.fd_select.specs.Machine.{step_at, behind_open, behind_name, in_name, behind_bang, behind_operator, in_quoted, behind_backslash, behind_matcher, EndsText}
use Rattle.fd_select.proofs.Basics.{by_test}

abbrev pub Fits : Stage → List ℕ → Type 0
Fits Open rest = IsUtf8 rest
Fits (Name name) rest = IsUtf8 name × IsUtf8 rest
Fits (Named name) rest = IsUtf8 name × IsUtf8 rest
Fits (Bang name) rest = IsUtf8 name × IsUtf8 rest
Fits (Operator name op) rest = IsUtf8 name × IsUtf8 rest
Fits (Quoted name op value) rest = IsUtf8 name × IsUtf8 (value ++ rest)
Fits (Escaped name op value) rest = IsUtf8 name × IsUtf8 value × IsUtf8 rest
Fits Matched rest = IsUtf8 rest
Fits End rest = IsUtf8 rest

text_byte : (b : ℕ) → b < 128 → IsUtf8 (b ∷ [])
text_byte b h = IsUtf8-from_ascii (b ∷ []) (IsAscii-cons b [] h IsAscii-nil)

text_before : (xs ys : List ℕ) (b : ℕ) → b < 128 → IsUtf8 (xs ++ b ∷ ys) → IsUtf8 xs
text_before xs ys b h u =
    let here : get_or (xs ++ b ∷ ys) (length xs) 0 < 128 = rw (get_or_at xs b ys 0 (length xs) refl) h in
    let inside : length xs < length (xs ++ b ∷ ys) = simp length-append (omega arith) in
    subst IsUtf8 (take_at xs (b ∷ ys) (length xs) refl) (IsUtf8-take (xs ++ b ∷ ys) (length xs) u (IsCharBoundary-before_ascii (xs ++ b ∷ ys) (length xs) inside here))

text_from : (xs ys : List ℕ) (b : ℕ) → b < 128 → IsUtf8 (xs ++ b ∷ ys) → IsUtf8 (b ∷ ys)
text_from xs ys b h u =
    let here : get_or (xs ++ b ∷ ys) (length xs) 0 < 128 = rw (get_or_at xs b ys 0 (length xs) refl) h in
    let inside : length xs < length (xs ++ b ∷ ys) = simp length-append (omega arith) in
    subst IsUtf8 (drop_at xs (b ∷ ys) (length xs) refl) (IsUtf8-drop (xs ++ b ∷ ys) (length xs) u (IsCharBoundary-before_ascii (xs ++ b ∷ ys) (length xs) inside here))

text_behind : (b : ℕ) (ys : List ℕ) → b < 128 → IsUtf8 (b ∷ ys) → IsUtf8 ys
text_behind b ys h u = IsUtf8-drop (b ∷ ys) 1 u (IsCharBoundary-after_ascii (b ∷ ys) 0 u (omega arith) h)

small : (b n : ℕ) → eqb b n ≡ true → n < 128 → b < 128
small b n e h = grind (arith, nat_tests)

name_small : (b : ℕ) → is_name_byte b ≡ true → b < 128
name_small b e = grind (arith, nat_tests)

start_small : (b : ℕ) → is_name_start b ≡ true → b < 128
start_small b e = grind (arith, nat_tests)

special_small : (b : ℕ) → (eqb b 34 || eqb b 92) ≡ true → b < 128
special_small b e = grind (arith, nat_tests)

fits_open : (ms : List Matcher) (b : ℕ) (rest : List ℕ) → IsUtf8 (b ∷ rest) → IfSome (behind_open ms b) (λ s. Fits s.stage rest)
fits_open ms b rest u =
    by_test (eqb b 32) _ _ (λ s. Fits s.stage rest) (λ e. text_behind b rest (small b 32 e (omega arith)) u)
    (λ _. by_test (eqb b 125) _ _ (λ s. Fits s.stage rest) (λ e. text_behind b rest (small b 125 e (omega arith)) u)
    (λ _. by_test (is_name_start b) _ _ (λ s. Fits s.stage rest) (λ e. (text_byte b (start_small b e), text_behind b rest (start_small b e) u))
    (λ _. tt)))

fits_name : (ms : List Matcher) (name : List ℕ) (b : ℕ) (rest : List ℕ) → IsUtf8 name → IsUtf8 (b ∷ rest) → IfSome (behind_name ms name b) (λ s. Fits s.stage rest)
fits_name ms name b rest n u =
    by_test (eqb b 32) _ _ (λ s. Fits s.stage rest) (λ e. (n, text_behind b rest (small b 32 e (omega arith)) u))
    (λ _. by_test (eqb b 61) _ _ (λ s. Fits s.stage rest) (λ e. (n, text_behind b rest (small b 61 e (omega arith)) u))
    (λ _. by_test (eqb b 33) _ _ (λ s. Fits s.stage rest) (λ e. (n, text_behind b rest (small b 33 e (omega arith)) u))
    (λ _. tt)))

fits_in_name : (ms : List Matcher) (name : List ℕ) (b : ℕ) (rest : List ℕ) → IsUtf8 name → IsUtf8 (b ∷ rest) → IfSome (in_name ms name b) (λ s. Fits s.stage rest)
fits_in_name ms name b rest n u =
    by_test (is_name_byte b) _ _ (λ s. Fits s.stage rest) (λ e. (IsUtf8-append name (b ∷ []) n (text_byte b (name_small b e)), text_behind b rest (name_small b e) u))
    (λ _. fits_name ms name b rest n u)

fits_bang : (ms : List Matcher) (name : List ℕ) (b : ℕ) (rest : List ℕ) → IsUtf8 name → IsUtf8 (b ∷ rest) → IfSome (behind_bang ms name b) (λ s. Fits s.stage rest)
fits_bang ms name b rest n u =
    by_test (eqb b 61) _ _ (λ s. Fits s.stage rest) (λ e. (n, text_behind b rest (small b 61 e (omega arith)) u))
    (λ _. tt)

fits_operator : (ms : List Matcher) (name : List ℕ) (op : MatchOp) (b : ℕ) (rest : List ℕ) → IsUtf8 name → IsUtf8 (b ∷ rest) → IfSome (behind_operator ms name op b) (λ s. Fits s.stage rest)
fits_operator ms name op b rest n u =
    by_test (eqb b 32) _ _ (λ s. Fits s.stage rest) (λ e. (n, text_behind b rest (small b 32 e (omega arith)) u))
    (λ _. by_test (eqb b 34) _ _ (λ s. Fits s.stage rest) (λ e. (n, text_behind b rest (small b 34 e (omega arith)) u))
    (λ _. tt))

fits_quoted : (ms : List Matcher) (name : List ℕ) (op : MatchOp) (value : List ℕ) (b : ℕ) (rest : List ℕ) → IsUtf8 name → IsUtf8 (value ++ b ∷ rest) → IfSome (in_quoted ms name op value b) (λ s. Fits s.stage rest)
fits_quoted ms name op value b rest n u =
    by_test (eqb b 34) _ _ (λ s. Fits s.stage rest) (λ e. let h = small b 34 e (omega arith) in text_behind b rest h (text_from value rest b h u))
    (λ _. by_test (eqb b 92) _ _ (λ s. Fits s.stage rest) (λ e. let h = small b 92 e (omega arith) in (n, text_before value rest b h u, text_behind b rest h (text_from value rest b h u)))
    (λ _. (n, subst IsUtf8 (sym (append_assoc value (b ∷ []) rest)) u)))

fits_escape : (ms : List Matcher) (name : List ℕ) (op : MatchOp) (value : List ℕ) (b : ℕ) (rest : List ℕ) → IsUtf8 name → IsUtf8 value → IsUtf8 (b ∷ rest) → IfSome (behind_backslash ms name op value b) (λ s. Fits s.stage rest)
fits_escape ms name op value b rest n v u =
    by_test (eqb b 34 || eqb b 92) _ _ (λ s. Fits s.stage rest) (λ e. (n, subst IsUtf8 (sym (append_assoc value (b ∷ []) rest)) (IsUtf8-append value (b ∷ rest) v u)))
    (λ _. tt)

fits_matcher : (ms : List Matcher) (b : ℕ) (rest : List ℕ) → IsUtf8 (b ∷ rest) → IfSome (behind_matcher ms b) (λ s. Fits s.stage rest)
fits_matcher ms b rest u =
    by_test (eqb b 32) _ _ (λ s. Fits s.stage rest) (λ e. text_behind b rest (small b 32 e (omega arith)) u)
    (λ _. by_test (eqb b 44) _ _ (λ s. Fits s.stage rest) (λ e. text_behind b rest (small b 44 e (omega arith)) u)
    (λ _. by_test (eqb b 125) _ _ (λ s. Fits s.stage rest) (λ e. text_behind b rest (small b 125 e (omega arith)) u)
    (λ _. tt)))

pub fits_step : (ms : List Matcher) (stage : Stage) (b : ℕ) (rest : List ℕ) → Fits stage (b ∷ rest) → IfSome (step_at ms stage b) (λ s. Fits s.stage rest)
fits_step ms Open b rest u = fits_open ms b rest u
fits_step ms (Name name) b rest u = fits_in_name ms name b rest u.0 u.1
fits_step ms (Named name) b rest u = fits_name ms name b rest u.0 u.1
fits_step ms (Bang name) b rest u = fits_bang ms name b rest u.0 u.1
fits_step ms (Operator name op) b rest u = fits_operator ms name op b rest u.0 u.1
fits_step ms (Quoted name op value) b rest u = fits_quoted ms name op value b rest u.0 u.1
fits_step ms (Escaped name op value) b rest u = fits_escape ms name op value b rest u.0 u.1 u.2
fits_step ms Matched b rest u = fits_matcher ms b rest u
fits_step ms End b rest u = tt

pub fits_ends : (stage : Stage) (b : ℕ) (rest : List ℕ) → Fits stage (b ∷ rest) → EndsText stage b
fits_ends (Quoted name op value) b rest u = λ e. (u.0, text_before value rest b (omega arith) u.1)
fits_ends Open b rest u = tt
fits_ends (Name name) b rest u = tt
fits_ends (Named name) b rest u = tt
fits_ends (Bang name) b rest u = tt
fits_ends (Operator name op) b rest u = tt
fits_ends (Escaped name op value) b rest u = tt
fits_ends Matched b rest u = tt
fits_ends End b rest u = tt

-- where no byte may stand but within a quoted text, what is left is text
pub fits_stopped : (ms : List Matcher) (stage : Stage) (b : ℕ) (rest : List ℕ) → Fits stage (b ∷ rest) → step_at ms stage b ≡ None → IsUtf8 (b ∷ rest)
fits_stopped ms Open b rest u e = u
fits_stopped ms (Name name) b rest u e = u.1
fits_stopped ms (Named name) b rest u e = u.1
fits_stopped ms (Bang name) b rest u e = u.1
fits_stopped ms (Operator name op) b rest u e = u.1
fits_stopped ms (Escaped name op value) b rest u e = u.2
fits_stopped ms Matched b rest u e = u
fits_stopped ms End b rest u e = u
fits_stopped ms (Quoted name op value) b rest u e = by (eqb b 34) refl
  where
    by : (t : Bool) → eqb b 34 ≡ t → IsUtf8 (b ∷ rest)
    by true f = text_from value rest b (small b 34 f (omega arith)) u.1
    by false f = by_escape (eqb b 92) refl
      where
        by_escape : (t : Bool) → eqb b 92 ≡ t → IsUtf8 (b ∷ rest)
        by_escape true g = text_from value rest b (small b 92 g (omega arith)) u.1
        by_escape false g = let some : step_at ms (Quoted name op value) b ≡ Some (record { matchers = ms; stage = Quoted name op (value ++ b ∷ []) }) = rw (f, g) refl in cc
