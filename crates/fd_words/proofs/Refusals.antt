-- The faults and the matches of `clap`, by what the words give.
use Rattle.std.proofs.Common.{◌≡◌, suc, true, false, List, [], ◌∷◌, drop, Option, Some, None, option_map, Result, Ok, Err, IfOk, IfErr, All, IsUtf8, inl, inr, arith, refl, sym, ap, ap₂, subst, ◌∙◌}
use Rattle.clap.specs.Matches.{first_value, found_of}
use Rattle.clap.specs.Values.{kind_of}
use Rattle.clap.specs.Walk.{Row, first_of, nothing_held, rows_after, rows_of, walk_from}
use Rattle.clap.specs.Simple.{App, HasMatchesOf, is_simple, matches_of, names_of}
use Rattle.clap.specs.Faults.{built_fault, fault_of, is_simple_and_free, level_fault}
use Rattle.clap.specs.Kinds.{FailsBy, IsAmong, Kinds}
use Rattle.clap.proofs.FaultLemmas.{leaf_fault}
use Rattle.clap.proofs.WalkLemmas.{first_value-rows}
use Rattle.clap.specs.declared.error.Error.{Error}
use Rattle.clap.specs.declared.error.kind.ErrorKind.{ErrorKind}
use Rattle.clap.specs.declared.error.kind.ErrorKind.TheVariants as kind
use Rattle.clap.specs.declared.parser.matches.ArgMatches.{ArgMatches}
use Rattle.fd_words.specs.Lines.{Text, Given, given}
use Rattle.fd_words.specs.Rules.{Gives, app_for, told}
use Rattle.fd_words.specs.declared.forms.Form.{Form}
use Rattle.fd_words.specs.declared.forms.Form.TheVariants as form
use Rattle.fd_words.proofs.Rules.{built_is, is_simple_for, shape_for}
use Rattle.fd_words.proofs.Rows.{after, told_is}
use Rattle.fd_words.proofs.Walks.{if_none, reads_is, read_all}

behind_first : (words : List Text) → All IsUtf8 words → All IsUtf8 (drop 1 words)
behind_first [] utf8 = utf8
behind_first (word ∷ rest) utf8 = λ k d lt. utf8 (suc k) d (omega arith)

fault_is : (f : Form) (words : List Text) → fault_of (app_for f) words ≡ level_fault (shape_for f) [] nothing_held (drop 1 words) false []
fault_is f words =
    ap (λ (a : App). built_fault a nothing_held (drop 1 words)) (built_is f)
    ∙ leaf_fault (record { top = shape_for f; subs = [] }) nothing_held (drop 1 words) refl

matches_are : (f : Form) (words : List Text) → matches_of (app_for f) words ≡ rows_after (shape_for f).rules [] (drop 1 words)
matches_are f words = ap (λ (a : App). rows_after a.top.rules (names_of a) (drop 1 words)) (built_is f)

all_is : (f : Form) (words : List Text) → All IsUtf8 words
    → if_none (fault_of (app_for f) words) (Some (matches_of (app_for f) words)) ≡ option_map (after f) (given f (drop 1 words))
all_is f words utf8 =
    ap₂ (λ (t : Kinds) (rows : List Row). if_none t (Some rows)) (fault_is f words) (matches_are f words)
    ∙ reads_is f (walk_from nothing_held) (drop 1 words)
    ∙ read_all f (drop 1 words) (behind_first words utf8)

-- where nothing is refused the matches are those of what the words give
accepted : (f : Form) (words : List Text) → All IsUtf8 words → fault_of (app_for f) words ≡ []
    → (g : Given) × (given f (drop 1 words) ≡ Some g) × (matches_of (app_for f) words ≡ after f g)
accepted f words utf8 none = go (given f (drop 1 words)) refl
  where
    go : (o : Option Given) → given f (drop 1 words) ≡ o → (g : Given) × (given f (drop 1 words) ≡ Some g) × (matches_of (app_for f) words ≡ after f g)
    go None e =
        let bad : Some (matches_of (app_for f) words) ≡ None =
        ap (λ (t : Kinds). if_none t (Some (matches_of (app_for f) words))) (sym none) ∙ all_is f words utf8 ∙ ap (option_map (after f)) e in
        cc
    go (Some g) e =
        let same : Some (matches_of (app_for f) words) ≡ Some (after f g) =
        ap (λ (t : Kinds). if_none t (Some (matches_of (app_for f) words))) (sym none) ∙ all_is f words utf8 ∙ ap (option_map (after f)) e in
        (g, e, cc)

-- and where something is, the words give nothing
refused : (f : Form) (words : List Text) → All IsUtf8 words → (k : ErrorKind) (ks : Kinds) → fault_of (app_for f) words ≡ k ∷ ks → given f (drop 1 words) ≡ None
refused f words utf8 k ks is = go (given f (drop 1 words)) refl
  where
    go : (o : Option Given) → given f (drop 1 words) ≡ o → given f (drop 1 words) ≡ None
    go None e = e
    go (Some g) e =
        let bad : None ≡ Some (after f g) =
        ap (λ (t : Kinds). if_none t (Some (matches_of (app_for f) words))) (sym is) ∙ all_is f words utf8 ∙ ap (option_map (after f)) e in
        cc

simple_for : (f : Form) → is_simple (app_for f) ≡ true
simple_for form.Store = refl
simple_for form.Persist = refl
simple_for form.Make = refl
simple_for form.Serve = refl

-- ---- what a parse answers

told_by : (f : Form) (m : ArgMatches) (g : Given) → rows_of (found_of m) ≡ after f g → (name : Text) → first_value (found_of m) name ≡ told f g name
told_by f m g rows name = first_value-rows (found_of m) name ∙ ap (first_of name) rows ∙ told_is f g name

pub parsed : (f : Form) (words : List Text) (a : App) (r : Result ArgMatches Error) → a ≡ app_for f → All IsUtf8 words
    → (is_simple_and_free a ≡ true → FailsBy (fault_of a words) r) → IfOk r (HasMatchesOf a words) → IfOk r (Gives f (drop 1 words))
parsed f words a (Err e) is utf8 kinds matches = tt
parsed f words a (Ok m) is utf8 kinds matches =
    let none : fault_of (app_for f) words ≡ [] = ap (λ (x : App). fault_of x words) (sym is) ∙ kinds (ap is_simple_and_free is ∙ is_simple_for f) in
    let rows : rows_of (found_of m) ≡ matches_of (app_for f) words =
    (matches (ap is_simple is ∙ simple_for f)).0 ∙ ap (λ (x : App). matches_of x words) is in
    let all = accepted f words utf8 none in
    (all.0, all.1, told_by f m all.0 (rows ∙ all.2))

among : (f : Form) (words : List Text) → All IsUtf8 words → (k : ErrorKind) (kinds : Kinds) → fault_of (app_for f) words ≡ kinds → IsAmong k kinds → given f (drop 1 words) ≡ None
among f words utf8 k [] is h = absurd h
among f words utf8 k (x ∷ xs) is h = refused f words utf8 x xs is

pub unparsed : (f : Form) (words : List Text) (a : App) (r : Result ArgMatches Error) → a ≡ app_for f → All IsUtf8 words
    → (is_simple_and_free a ≡ true → FailsBy (fault_of a words) r) → IfErr r (λ e. (kind_of e ≡ kind.OutOfMemory → ⊥) → given f (drop 1 words) ≡ None)
unparsed f words a (Ok m) is utf8 kinds = tt
unparsed f words a (Err e) is utf8 kinds = λ other.
    elim (kinds (ap is_simple_and_free is ∙ is_simple_for f)) [
      | inl memory ↦ absurd (other memory)
      | inr any ↦ among f words utf8 (kind_of e) (fault_of (app_for f) words) refl (subst (λ (x : App). IsAmong (kind_of e) (fault_of x words)) is any)
    ]
