-- The rows of what is given, and what one use of an argument makes of them.
use Rattle.std.proofs.Common.{◌≡◌, ℕ, Bool, true, false, cond, not, ◌&&◌, ◌||◌, List, [], ◌∷◌, ◌++◌, map, Option, Some, None, option_map, option_and_then, slice_get, find, fold, codes, bytes_eq, refl, sym, ap, ap₂, ◌∙◌, append-nil, true≢false}
use Rattle.std.proofs.lemmas.Slice.Eq.{bytes_eq-Decides}
use Rattle.std.specs.List.{list_all}
use Rattle.std.specs.Option.{option_map_or, option_or}
use Rattle.clap.specs.Walk.{Row, Rule, at_row, first_of, more_values, has_row, with_default, with_values, without}
use Rattle.clap.specs.Facts.{explicit_source}
use Rattle.clap.specs.Takes.{is_given}
use Rattle.clap.specs.Faults.{check_fault, defaults_fault, use_fault}
use Rattle.clap.specs.Kinds.{Kinds, or_else}
use Rattle.clap.specs.declared.builder.value_parser.Reading.TheVariants as reading
use Rattle.clap.specs.declared.error.kind.ErrorKind.TheVariants as kind
use Rattle.clap.specs.declared.parser.matches.ValueSource.TheVariants.{DefaultValue, CommandLine}
use Rattle.fd_words.specs.Lines.{Text, Given, options, flags, operands, is_named, is_once, value_of}
use Rattle.fd_words.specs.Rules.{told}
use Rattle.fd_words.specs.declared.forms.Form.{Form}
use Rattle.fd_words.specs.declared.forms.Form.TheVariants as form
use Rattle.fd_words.proofs.Rules.{opt, flg, opd, opds, rules_for, shape_for}

abbrev pub row_for : Text × Text → Row
row_for g = record {
  id = g.0;
  values = g.1 ∷ [];
  count = None;
  source = Some CommandLine;
  reading = reading.AsWritten;
}

abbrev pub rows_for : Given → List Row
rows_for = map row_for

pub and_false : (b : Bool) → (b && false) ≡ false
and_false true = refl
and_false false = refl

or_true : (b : Bool) → (b || true) ≡ true
or_true true = refl
or_true false = refl

same_if : {A : Type 0} (b : Bool) (a : A) → cond b a a ≡ a
same_if true a = refl
same_if false a = refl

pub same_name : (n : Text) → bytes_eq n n ≡ true
same_name n = (bytes_eq-Decides n n).1 refl

pub has_row_is : (g : Given) (id : Text) → has_row id (rows_for g) ≡ is_named g id
has_row_is [] id = refl
has_row_is (q ∷ qs) id = ap (λ (b : Bool). bytes_eq q.0 id || b) (has_row_is qs id)

at_row_none : (id : Text) (change : Row → List Row) (missing : List Row) (g : Given) → is_named g id ≡ false
    → at_row id change missing (rows_for g) ≡ rows_for g ++ missing
at_row_none id change missing [] h = refl
at_row_none id change missing (q ∷ qs) h = go (bytes_eq q.0 id) (at_row_none id change missing qs) h
  where
    go : (b : Bool) → (is_named qs id ≡ false → at_row id change missing (rows_for qs) ≡ rows_for qs ++ missing) → (b || is_named qs id) ≡ false
        → cond b (change (row_for q) ++ rows_for qs) (row_for q ∷ at_row id change missing (rows_for qs)) ≡ row_for q ∷ (rows_for qs ++ missing)
    go true more h = absurd (true≢false h)
    go false more h = ap (λ (rs : List Row). row_for q ∷ rs) (more h)

one_more : (g : Given) (n v : Text) → rows_for g ++ row_for (n, v) ∷ [] ≡ rows_for (g ++ (n, v) ∷ [])
one_more [] n v = refl
one_more (q ∷ qs) n v = ap (λ (rs : List Row). row_for q ∷ rs) (one_more qs n v)

-- a use of an argument that was not used before
pub used_once : (g : Given) (n v : Text) → is_named g n ≡ false
    → with_values n reading.AsWritten CommandLine (v ∷ []) (without n (rows_for g)) ≡ rows_for (g ++ (n, v) ∷ [])
used_once g n v h =
    ap (with_values n reading.AsWritten CommandLine (v ∷ [])) (at_row_none n (λ _. []) [] g h ∙ append-nil (rows_for g))
    ∙ at_row_none n (more_values CommandLine (v ∷ [])) (row_for (n, v) ∷ []) g h ∙ one_more g n v

abbrev pub conflict : Bool → Kinds
conflict b = cond b (kind.ArgumentConflict ∷ []) []

repeats : (b : Bool) → or_else (cond (b && true) (kind.ArgumentConflict ∷ []) []) [] ≡ conflict b
repeats true = refl
repeats false = refl

pub opt_use : (n v : Text) (g : Given) → use_fault false (opt n) (v ∷ []) (rows_for g) ≡ conflict (is_named g n)
opt_use n v g =
    ap (λ (b : Bool). or_else (cond (b && true) (kind.ArgumentConflict ∷ []) []) []) (has_row_is g n) ∙ repeats (is_named g n)

pub flg_use : (n : Text) (g : Given) → use_fault false (flg n) [] (rows_for g) ≡ conflict (is_named g n)
flg_use n g =
    ap (λ (b : Bool). or_else (cond (b && true) (kind.ArgumentConflict ∷ []) []) []) (has_row_is g n) ∙ repeats (is_named g n)

pub opd_use : (p : ℕ) (n v : Text) (g : Given) → use_fault false (opd p n) (v ∷ []) (rows_for g) ≡ conflict (is_named g n)
opd_use p n v g =
    ap (λ (b : Bool). or_else (cond (b && true) (kind.ArgumentConflict ∷ []) []) []) (has_row_is g n) ∙ repeats (is_named g n)

-- ---- names that are given once

named_behind : (g more : Given) (n v : Text) → is_named (g ++ (n, v) ∷ more) n ≡ true
named_behind [] more n v = ap (λ (b : Bool). b || is_named more n) (same_name n)
named_behind (q ∷ qs) more n v = ap (λ (b : Bool). bytes_eq q.0 n || b) (named_behind qs more n v) ∙ or_true (bytes_eq q.0 n)

pub twice : (g more : Given) (n v : Text) → is_named g n ≡ true → is_once (g ++ (n, v) ∷ more) ≡ false
twice [] more n v h = absurd (true≢false (sym h))
twice (q ∷ qs) more n v h = go (bytes_eq q.0 n) refl (twice qs more n v) h
  where
    go : (b : Bool) → bytes_eq q.0 n ≡ b → (is_named qs n ≡ true → is_once (qs ++ (n, v) ∷ more) ≡ false) → (b || is_named qs n) ≡ true
        → (not (is_named (qs ++ (n, v) ∷ more) q.0) && is_once (qs ++ (n, v) ∷ more)) ≡ false
    go true e rest h =
        let same : q.0 ≡ n = (bytes_eq-Decides q.0 n).0 e in
        ap (λ (b : Bool). not b && is_once (qs ++ (n, v) ∷ more))
        (ap (is_named (qs ++ (n, v) ∷ more)) same ∙ named_behind qs more n v)
    go false e rest h =
        ap (λ (b : Bool). not (is_named (qs ++ (n, v) ∷ more) q.0) && b) (rest h) ∙ and_false (not (is_named (qs ++ (n, v) ∷ more) q.0))

not_named_behind : (g : Given) (n v id : Text) → bytes_eq n id ≡ false → is_named g id ≡ false → is_named (g ++ (n, v) ∷ []) id ≡ false
not_named_behind [] n v id other h = ap (λ (b : Bool). b || false) other
not_named_behind (q ∷ qs) n v id other h = go (bytes_eq q.0 id) (not_named_behind qs n v id other) h
  where
    go : (b : Bool) → (is_named qs id ≡ false → is_named (qs ++ (n, v) ∷ []) id ≡ false) → (b || is_named qs id) ≡ false → (b || is_named (qs ++ (n, v) ∷ []) id) ≡ false
    go true more h = absurd (true≢false h)
    go false more h = more h

turned : (a b : Text) → bytes_eq a b ≡ false → bytes_eq b a ≡ false
turned a b h = go (bytes_eq b a) refl
  where
    go : (x : Bool) → bytes_eq b a ≡ x → x ≡ false
    go true e =
        let same : a ≡ b = sym ((bytes_eq-Decides b a).0 e) in
        absurd (true≢false (sym ((bytes_eq-Decides a b).1 same) ∙ h))
    go false e = refl

pub still_once : (g : Given) (n v : Text) → is_once g ≡ true → is_named g n ≡ false → is_once (g ++ (n, v) ∷ []) ≡ true
still_once [] n v once h = refl
still_once (q ∷ qs) n v once h = outer (is_named qs q.0) refl (still_once qs n v) once
  where
    inner : (b : Bool) → bytes_eq q.0 n ≡ b → is_named qs q.0 ≡ false → (is_named qs n ≡ false → is_once (qs ++ (n, v) ∷ []) ≡ true) → (b || is_named qs n) ≡ false
        → (not (is_named (qs ++ (n, v) ∷ []) q.0) && is_once (qs ++ (n, v) ∷ [])) ≡ true
    inner true e first more h = absurd (true≢false h)
    inner false e first more h =
        ap₂ (λ (a b : Bool). not a && b) (not_named_behind qs n v q.0 (turned q.0 n e) first) (more h)

    outer : (b : Bool) → is_named qs q.0 ≡ b → (is_once qs ≡ true → is_named qs n ≡ false → is_once (qs ++ (n, v) ∷ []) ≡ true) → (not b && is_once qs) ≡ true
        → (not (is_named (qs ++ (n, v) ∷ []) q.0) && is_once (qs ++ (n, v) ∷ [])) ≡ true
    outer true e more once = absurd (true≢false (sym once))
    outer false e more once = inner (bytes_eq q.0 n) refl e (more once) h

-- ---- at the end

-- the rows with defaults
abbrev pub after : Form → Given → List Row
after f g = fold with_default (rows_for g) (rules_for f)

opt_default_is : (n : Text) (rows : List Row) → with_default rows (opt n) ≡ rows
opt_default_is n rows = same_if (has_row n rows) rows

opd_default_is : (p : ℕ) (n : Text) (rows : List Row) → with_default rows (opd p n) ≡ rows
opd_default_is p n rows = same_if (has_row n rows) rows

no_fault : (b : Bool) → ◌≡◌ {A = Kinds} (cond b [] []) []
no_fault b = same_if b []

opts_quiet : (names : List Text) (rest : List Rule) → ((rows : List Row) → defaults_fault rows rest ≡ [])
    → (rows : List Row) → defaults_fault rows (map opt names ++ rest) ≡ []
unfolding defaults_fault
opts_quiet [] rest h rows = h rows
opts_quiet (n ∷ ns) rest h rows =
    ap (λ (k : Kinds). or_else k (defaults_fault (with_default rows (opt n)) (map opt ns ++ rest))) (no_fault (has_row n rows || true))
    ∙ opts_quiet ns rest h (with_default rows (opt n))

flgs_quiet : (names : List Text) (rest : List Rule) → ((rows : List Row) → defaults_fault rows rest ≡ [])
    → (rows : List Row) → defaults_fault rows (map flg names ++ rest) ≡ []
unfolding defaults_fault
flgs_quiet [] rest h rows = h rows
flgs_quiet (n ∷ ns) rest h rows =
    ap (λ (k : Kinds). or_else k (defaults_fault (with_default rows (flg n)) (map flg ns ++ rest))) (no_fault (has_row n rows || false))
    ∙ flgs_quiet ns rest h (with_default rows (flg n))

opds_quiet : (f : Form) (rows : List Row) → defaults_fault rows (opds f) ≡ []
unfolding defaults_fault
opds_quiet form.Store rows = refl
opds_quiet form.Persist rows = refl
opds_quiet form.Make rows =
    ap₂ or_else (no_fault (has_row (codes "seed") rows || true))
    (ap (λ (k : Kinds). or_else k []) (no_fault (has_row (codes "count") (with_default rows (opd 1 (codes "seed"))) || true)))
opds_quiet form.Serve rows = refl

-- no default is refused
pub quiet : (f : Form) (rows : List Row) → defaults_fault rows (rules_for f) ≡ []
quiet f rows = opts_quiet (options f) (map flg (flags f) ++ opds f) (flgs_quiet (flags f) (opds f) (opds_quiet f)) rows

opts_kept : (names : List Text) (rest : List Rule) (rows : List Row) → fold with_default rows (map opt names ++ rest) ≡ fold with_default rows rest
opts_kept [] rest rows = refl
opts_kept (n ∷ ns) rest rows = ap (λ (rs : List Row). fold with_default rs (map opt ns ++ rest)) (opt_default_is n rows) ∙ opts_kept ns rest rows

opds_kept : (f : Form) (rows : List Row) → fold with_default rows (opds f) ≡ rows
opds_kept form.Store rows = refl
opds_kept form.Persist rows = refl
opds_kept form.Make rows =
    ap (λ (rs : List Row). with_default rs (opd 2 (codes "count"))) (opd_default_is 1 (codes "seed") rows)
    ∙ opd_default_is 2 (codes "count") rows
opds_kept form.Serve rows = refl

is_given_is : (g : Given) (n : Text) → is_given n (rows_for g) ≡ is_named g n
is_given_is [] n = refl
is_given_is (q ∷ qs) n = go (bytes_eq q.0 n) (is_given_is qs n)
  where
    go : (b : Bool) → is_given n (rows_for qs) ≡ is_named qs n → option_map_or (λ (r : Row). explicit_source r.source) (cond b (Some (row_for q)) (find (λ r. bytes_eq r.id n) (rows_for qs))) false ≡ (b || is_named qs n)
    go true more = refl
    go false more = more

abbrev pub wanted : Kinds
wanted = kind.MissingRequiredArgument ∷ []

both_or_none : (a b : Bool) → cond (not a || (not b || false)) wanted [] ≡ cond (a && (b && true)) [] wanted
both_or_none true true = refl
both_or_none true false = refl
both_or_none false b = refl

-- an operand is missing, or none
pub check_is : (f : Form) (g : Given) → check_fault (shape_for f) (after f g) false ≡ cond (list_all (is_named g) (operands f)) [] wanted
check_is form.Store g = refl
check_is form.Persist g = refl
check_is form.Make g =
    ap (λ (rs : List Row). check_fault (shape_for form.Make) rs false) (opts_kept (options form.Make) (opds form.Make) (rows_for g) ∙ opds_kept form.Make (rows_for g))
    ∙ ap₂ (λ (a b : Bool). cond (not a || (not b || false)) wanted []) (is_given_is g (codes "seed")) (is_given_is g (codes "count"))
    ∙ both_or_none (is_named g (codes "seed")) (is_named g (codes "count"))
check_is form.Serve g = refl

-- ---- what the getters read

or_none : (o : Option Text) → o ≡ option_or o None
or_none None = refl
or_none (Some t) = refl

first_of_more : (g : Given) (rows : List Row) (name : Text) → first_of name (rows_for g ++ rows) ≡ option_or (value_of g name) (first_of name rows)
first_of_more [] rows name = refl
first_of_more (q ∷ qs) rows name = go (bytes_eq q.0 name) (first_of_more qs rows name)
  where
    go : (b : Bool) → first_of name (rows_for qs ++ rows) ≡ option_or (value_of qs name) (first_of name rows) → option_and_then (λ (r : Row). slice_get r.values 0) (cond b (Some (row_for q)) (find (λ r. bytes_eq r.id name) (rows_for qs ++ rows)))
        ≡ option_or (option_map (λ (g : Text × Text). g.1) (cond b (Some q) (find (λ g. bytes_eq g.0 name) qs))) (first_of name rows)
    go true more = refl
    go false more = more

first_of_given : (g : Given) (name : Text) → first_of name (rows_for g) ≡ value_of g name
first_of_given g name =
    ap (first_of name) (sym (append-nil (rows_for g))) ∙ first_of_more g [] name ∙ sym (or_none (value_of g name))

-- a name that is given has a text
has_text : (g : Given) (name : Text) → is_named g name ≡ true → (other : Option Text) → value_of g name ≡ option_or (value_of g name) other
has_text [] name h other = absurd (true≢false (sym h))
has_text (q ∷ qs) name h other = go (bytes_eq q.0 name) (λ given. has_text qs name given other) h
  where
    go : (b : Bool) → (is_named qs name ≡ true → value_of qs name ≡ option_or (value_of qs name) other) → (b || is_named qs name) ≡ true
        → option_map (λ (g : Text × Text). g.1) (cond b (Some q) (find (λ g. bytes_eq g.0 name) qs))
        ≡ option_or (option_map (λ (g : Text × Text). g.1) (cond b (Some q) (find (λ g. bytes_eq g.0 name) qs))) other
    go true more h = refl
    go false more h = more h

abbrev rotate_row : Row
rotate_row = record {
  id = codes "rotate";
  values = codes "false" ∷ [];
  count = None;
  source = Some DefaultValue;
  reading = reading.AsWritten;
}

told_rotate : (g : Given) (name : Text) → first_of name (after form.Persist g) ≡ told form.Persist g name
told_rotate g name =
    ap (λ (rs : List Row). first_of name (with_default rs (flg (codes "rotate")))) (opt_default_is (codes "dir") (rows_for g))
    ∙ go (is_named g (codes "rotate")) refl
  where
    flag_text : (b : Bool) → option_and_then (λ (r : Row). slice_get r.values 0) (cond b (Some rotate_row) None) ≡ cond (b || false) (Some (codes "false")) None
    flag_text true = refl
    flag_text false = refl

    here : (b : Bool) → bytes_eq (codes "rotate") name ≡ b → is_named g (codes "rotate") ≡ true
        → value_of g name ≡ option_or (value_of g name) (cond (b || false) (Some (codes "false")) None)
    here true e given =
        let same : codes "rotate" ≡ name = (bytes_eq-Decides (codes "rotate") name).0 e in
        has_text g name (ap (is_named g) (sym same) ∙ given) (Some (codes "false"))
    here false e given = or_none (value_of g name)

    go : (b : Bool) → is_named g (codes "rotate") ≡ b → first_of name (with_default (rows_for g) (flg (codes "rotate"))) ≡ told form.Persist g name
    go true e =
        ap (λ (b : Bool). first_of name (cond b (rows_for g) (with_values (codes "rotate") reading.AsWritten DefaultValue (codes "false" ∷ []) (rows_for g))))
        (has_row_is g (codes "rotate") ∙ e)
        ∙ first_of_given g name ∙ here (bytes_eq (codes "rotate") name) refl e
    go false e =
        ap (λ (b : Bool). first_of name (cond b (rows_for g) (with_values (codes "rotate") reading.AsWritten DefaultValue (codes "false" ∷ []) (rows_for g))))
        (has_row_is g (codes "rotate") ∙ e)
        ∙ ap (first_of name) (at_row_none (codes "rotate") (more_values DefaultValue (codes "false" ∷ [])) (rotate_row ∷ []) g e)
        ∙ first_of_more g (rotate_row ∷ []) name
        ∙ ap (option_or (value_of g name)) (flag_text (bytes_eq (codes "rotate") name))

pub told_is : (f : Form) (g : Given) (name : Text) → first_of name (after f g) ≡ told f g name
told_is form.Store g name =
    ap (first_of name) (opts_kept (options form.Store) [] (rows_for g)) ∙ first_of_given g name ∙ or_none (value_of g name)
told_is form.Persist g name = told_rotate g name
told_is form.Make g name =
    ap (first_of name) (opts_kept (options form.Make) (opds form.Make) (rows_for g) ∙ opds_kept form.Make (rows_for g))
    ∙ first_of_given g name ∙ or_none (value_of g name)
told_is form.Serve g name =
    ap (first_of name) (opts_kept (options form.Serve) [] (rows_for g)) ∙ first_of_given g name ∙ or_none (value_of g name)
