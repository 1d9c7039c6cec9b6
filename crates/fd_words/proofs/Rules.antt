-- The arguments of the built command, and the look-ups among them.
use Rattle.std.proofs.Common.{◌≡◌, ℕ, ◌+◌, min, Bool, true, false, cond, ◌||◌, List, [], ◌∷◌, ◌++◌, map, Option, Some, None, codes, bytes_eq, refl, sym, ap, ◌∙◌, true≢false}
use Rattle.std.proofs.lemmas.Slice.Eq.{bytes_eq-Decides}
use Rattle.clap.specs.Lexer.{usize_max}
use Rattle.clap.specs.Walk.{Rule, arg_by_id, arg_by_index, arg_by_long, arg_by_short}
use Rattle.clap.specs.Simple.{App, Shape, built, new_rule, new_shape}
use Rattle.clap.specs.Faults.{is_simple_and_free}
use Rattle.clap.specs.declared.builder.action.ArgAction.TheVariants.{Set, SetTrue}
use Rattle.clap.specs.declared.builder.range.ValueRange.{ValueRange}
use Rattle.clap.specs.declared.builder.value_parser.ValueParser.TheVariants as vp
use Rattle.fd_words.specs.Lines.{Text, has, options, flags, operands}
use Rattle.fd_words.specs.Rules.{app_for}
use Rattle.fd_words.specs.declared.forms.Form.{Form}
use Rattle.fd_words.specs.declared.forms.Form.TheVariants as form

abbrev exactly : ℕ → ValueRange
exactly n = record { start_inclusive = n; end_inclusive = n }

-- an option, a flag, and the operand at a place, as built
abbrev pub opt : Text → Rule
opt name = record (new_rule name) { long = Some name; action = Some Set; parser = Some vp.String; range = Some (exactly 1) }

abbrev pub flg : Text → Rule
flg name = record (new_rule name) {
  long = Some name;
  action = Some SetTrue;
  defaults = codes "false" ∷ [];
  missing = codes "true" ∷ [];
  parser = Some vp.Bool;
  range = Some (exactly 0);
}

abbrev pub opd : ℕ → Text → Rule
opd i name = record (new_rule name) { index = Some i; action = Some Set; parser = Some vp.String; range = Some (exactly 1); required = true }

abbrev pub opds : Form → List Rule
opds form.Make = opd 1 (codes "seed") ∷ opd 2 (codes "count") ∷ []
opds _ = []

abbrev pub rules_for : Form → List Rule
rules_for f = map opt (options f) ++ (map flg (flags f) ++ opds f)

abbrev pub shape_for : Form → Shape
shape_for f = record (new_shape (codes "frostd")) {
  rules = rules_for f;
  disable_help_flag = true;
  disable_version_flag = true;
  disable_help_subcommand = true;
  is_built = true;
}

pub built_is : (f : Form) → ◌≡◌ {A = App} (built (app_for f)) (record { top = shape_for f; subs = [] })
built_is form.Store = refl
built_is form.Persist = refl
built_is form.Make = refl
built_is form.Serve = refl

pub is_simple_for : (f : Form) → is_simple_and_free (app_for f) ≡ true
is_simple_for form.Store = refl
is_simple_for form.Persist = refl
is_simple_for form.Make = refl
is_simple_for form.Serve = refl

-- ---- by the long name

long_opts : (names : List Text) (rest : List Rule) (name : Text) → arg_by_long (map opt names ++ rest) name ≡ cond (has names name) (Some (opt name)) (arg_by_long rest name)
long_opts [] rest name = refl
long_opts (n ∷ ns) rest name = go (bytes_eq n name) refl (long_opts ns rest name)
  where
    go : (b : Bool) → bytes_eq n name ≡ b → arg_by_long (map opt ns ++ rest) name ≡ cond (has ns name) (Some (opt name)) (arg_by_long rest name)
        → cond (b || false) (Some (opt n)) (arg_by_long (map opt ns ++ rest) name) ≡ cond (b || has ns name) (Some (opt name)) (arg_by_long rest name)
    go true e more = ap (λ (x : Text). Some (opt x)) ((bytes_eq-Decides n name).0 e)
    go false e more = more

long_flgs : (names : List Text) (rest : List Rule) (name : Text) → arg_by_long (map flg names ++ rest) name ≡ cond (has names name) (Some (flg name)) (arg_by_long rest name)
long_flgs [] rest name = refl
long_flgs (n ∷ ns) rest name = go (bytes_eq n name) refl (long_flgs ns rest name)
  where
    go : (b : Bool) → bytes_eq n name ≡ b → arg_by_long (map flg ns ++ rest) name ≡ cond (has ns name) (Some (flg name)) (arg_by_long rest name)
        → cond (b || false) (Some (flg n)) (arg_by_long (map flg ns ++ rest) name) ≡ cond (b || has ns name) (Some (flg name)) (arg_by_long rest name)
    go true e more = ap (λ (x : Text). Some (flg x)) ((bytes_eq-Decides n name).0 e)
    go false e more = more

long_opds : (f : Form) (name : Text) → arg_by_long (opds f) name ≡ None
long_opds form.Store name = refl
long_opds form.Persist name = refl
long_opds form.Make name = refl
long_opds form.Serve name = refl

abbrev pub long_rule : Form → Text → Option Rule
long_rule f name = cond (has (options f) name) (Some (opt name)) (cond (has (flags f) name) (Some (flg name)) None)

pub by_long : (f : Form) (name : Text) → arg_by_long (rules_for f) name ≡ long_rule f name
by_long f name =
    long_opts (options f) (map flg (flags f) ++ opds f) name
    ∙ ap (cond (has (options f) name) (Some (opt name)))
    (long_flgs (flags f) (opds f) name ∙ ap (cond (has (flags f) name) (Some (flg name))) (long_opds f name))

-- ---- by the id, a short name, or the place

id_opts : (names : List Text) (rest : List Rule) (name : Text) → has names name ≡ true → arg_by_id (map opt names ++ rest) name ≡ Some (opt name)
id_opts [] rest name h = absurd (true≢false (sym h))
id_opts (n ∷ ns) rest name h = go (bytes_eq n name) refl (id_opts ns rest name) h
  where
    go : (b : Bool) → bytes_eq n name ≡ b → (has ns name ≡ true → arg_by_id (map opt ns ++ rest) name ≡ Some (opt name)) → (b || has ns name) ≡ true
        → cond b (Some (opt n)) (arg_by_id (map opt ns ++ rest) name) ≡ Some (opt name)
    go true e more h = ap (λ (x : Text). Some (opt x)) ((bytes_eq-Decides n name).0 e)
    go false e more h = more h

pub by_id : (f : Form) (name : Text) → has (options f) name ≡ true → arg_by_id (rules_for f) name ≡ Some (opt name)
by_id f name h = id_opts (options f) (map flg (flags f) ++ opds f) name h

pub by_short : (f : Form) (x : ℕ) → arg_by_short (rules_for f) x ≡ None
by_short form.Store x = refl
by_short form.Persist x = refl
by_short form.Make x = refl
by_short form.Serve x = refl

-- the operands from this place on
abbrev pub Places : Form → ℕ → List Text → Type 0
Places f p [] = arg_by_index (rules_for f) p ≡ None
Places f p (n ∷ ns) =
    (arg_by_index (rules_for f) p ≡ Some (opd p n)) × (arg_by_id (rules_for f) n ≡ Some (opd p n)) × Places f (min (p + 1) usize_max) ns

pub places : (f : Form) → Places f 1 (operands f)
places form.Store = refl
places form.Persist = refl
places form.Make = (refl, refl, (refl, refl, refl))
places form.Serve = refl
