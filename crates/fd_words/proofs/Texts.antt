-- Plans, by the texts that matches tell.
use Rattle.std.proofs.Common.{◌≡◌, ◌≢◌, ℕ, Bool, false, cond, List, Option, Some, None, Err, option_map, option_and_then, unwrap_or, codes, bytes_eq, [], refl, sym, ap, ap₂, ◌∙◌}
use Rattle.std.specs.Option.{option_or}
use Rattle.clap.specs.Matches.{first_value, found_of}
use Rattle.clap.specs.declared.parser.matches.ArgMatches.{ArgMatches}
use Rattle.fd_words.specs.Lines.{Text, Given, given, has, flags, value_of}
use Rattle.fd_words.specs.Numbers.{number}
use Rattle.fd_words.specs.Plans.{Meets, dir_of, text_or, persist_of, make_of, serve_of, whole_number}
use Rattle.fd_words.specs.Rules.{Gives, told}
use Rattle.fd_words.specs.declared.faults.WordsFault.{WordsFault}
use Rattle.fd_words.specs.declared.faults.WordsFault.TheVariants as fault
use Rattle.fd_words.specs.declared.forms.Form.{Form}
use Rattle.fd_words.specs.declared.forms.Form.TheVariants as form
use Rattle.fd_words.specs.declared.plan.Plan.{Plan}
use Rattle.fd_words.specs.declared.plan.Plan.TheVariants.{Persist, Make, Serve}

-- the text that matches have under a name, or else another
abbrev pub text_in : ArgMatches → Text → Text → Text
text_in m name other = unwrap_or (first_value (found_of m) name) other

or_nothing : (o : Option Text) (other : Text) → unwrap_or (option_or o None) other ≡ unwrap_or o other
or_nothing None other = refl
or_nothing (Some t) other = refl

or_itself : (o : Option Text) (other : Text) → unwrap_or (option_or o (Some other)) other ≡ unwrap_or o other
or_itself None other = refl
or_itself (Some t) other = refl

text_is : (f : Form) (m : ArgMatches) (g : Given) → ((name : Text) → first_value (found_of m) name ≡ told f g name) → (name other : Text)
    → has (flags f) name ≡ false → text_in m name other ≡ text_or other name g
text_is f m g tells name other plain =
    ap (λ (o : Option Text). unwrap_or o other) (tells name)
    ∙ ap (λ (b : Bool). unwrap_or (option_or (value_of g name) (cond b (Some (codes "false")) None)) other) plain
    ∙ or_nothing (value_of g name) other

pub folder_is : (words : List Text) (m : ArgMatches) (dir : Text) → Gives form.Store words m
    → dir ≡ text_in m (codes "dir") (codes "frostd-data") → option_map dir_of (given form.Store words) ≡ Some dir
folder_is words m dir gives is =
    ap (option_map dir_of) gives.1 ∙ ap (λ (t : Text). Some t) (sym (is ∙ text_is form.Store m gives.0 gives.2 (codes "dir") (codes "frostd-data") refl))

pub persist_is : (words : List Text) (m : ArgMatches) (dir : Text) (rotate : Bool) → Gives form.Persist words m
    → dir ≡ text_in m (codes "dir") (codes "frostd-data") → rotate ≡ bytes_eq (text_in m (codes "rotate") (codes "false")) (codes "true")
    → option_map persist_of (given form.Persist words) ≡ Some (Persist dir rotate)
persist_is words m dir rotate gives is turns =
    ap (option_map persist_of) gives.1
    ∙ ap₂ (λ (t : Text) (b : Bool). Some (Persist t b)) (sym (is ∙ text_is form.Persist m gives.0 gives.2 (codes "dir") (codes "frostd-data") refl))
    (sym (turns
    ∙ ap (λ (t : Text). bytes_eq t (codes "true"))
    (ap (λ (o : Option Text). unwrap_or o (codes "false")) (gives.2 (codes "rotate")) ∙ or_itself (value_of gives.0 (codes "rotate")) (codes "false"))))

-- ---- a seed and a count

abbrev make_from : Text → Option ℕ → Option ℕ → Option Plan
make_from dir seed count = option_and_then (λ s. option_map (Make dir s) count) seed

make_by : (words : List Text) (m : ArgMatches) (dir : Text) (seed count : Option ℕ) → Gives form.Make words m
    → seed ≡ whole_number (text_in m (codes "seed") []) → count ≡ number 1 10_000 (text_in m (codes "count") [])
    → dir ≡ text_in m (codes "dir") (codes "frostd-data") → option_and_then make_of (given form.Make words) ≡ make_from dir seed count
make_by words m dir seed count gives seeds counts is =
    ap (option_and_then make_of) gives.1
    ∙ ap (λ (t : Text). make_from t (whole_number (text_or [] (codes "seed") gives.0)) (number 1 10_000 (text_or [] (codes "count") gives.0)))
    (sym (is ∙ text_is form.Make m gives.0 gives.2 (codes "dir") (codes "frostd-data") refl))
    ∙ ap₂ (make_from dir)
    (sym (seeds ∙ ap whole_number (text_is form.Make m gives.0 gives.2 (codes "seed") [] refl)))
    (sym (counts ∙ ap (number 1 10_000) (text_is form.Make m gives.0 gives.2 (codes "count") [] refl)))

pub make_is : (words : List Text) (m : ArgMatches) (dir : Text) (seed count : ℕ) → Gives form.Make words m
    → Some seed ≡ whole_number (text_in m (codes "seed") []) → Some count ≡ number 1 10_000 (text_in m (codes "count") [])
    → dir ≡ text_in m (codes "dir") (codes "frostd-data") → option_and_then make_of (given form.Make words) ≡ Some (Make dir seed count)
make_is words m dir seed count gives seeds counts is = make_by words m dir (Some seed) (Some count) gives seeds counts is

pub no_seed : (words : List Text) (m : ArgMatches) → Gives form.Make words m → None ≡ whole_number (text_in m (codes "seed") [])
    → option_and_then make_of (given form.Make words) ≡ None
no_seed words m gives seeds =
    make_by words m (text_in m (codes "dir") (codes "frostd-data")) None (number 1 10_000 (text_in m (codes "count") [])) gives seeds refl refl

no_count_in : (dir : Text) (seed : Option ℕ) → make_from dir seed None ≡ None
no_count_in dir None = refl
no_count_in dir (Some s) = refl

pub no_count : (words : List Text) (m : ArgMatches) → Gives form.Make words m → None ≡ number 1 10_000 (text_in m (codes "count") [])
    → option_and_then make_of (given form.Make words) ≡ None
no_count words m gives counts =
    make_by words m (text_in m (codes "dir") (codes "frostd-data")) (whole_number (text_in m (codes "seed") [])) None gives refl counts refl
    ∙ no_count_in (text_in m (codes "dir") (codes "frostd-data")) (whole_number (text_in m (codes "seed") []))

-- ---- an address and two numbers

abbrev serve_from : Text → Text → Option ℕ → Option ℕ → Option Plan
serve_from dir listen workers connections = option_and_then (λ w. option_map (Serve dir listen w) connections) workers

serve_by : (words : List Text) (m : ArgMatches) (dir listen : Text) (workers connections : Option ℕ) → Gives form.Serve words m
    → workers ≡ number 1 32 (text_in m (codes "workers") (codes "4")) → connections ≡ whole_number (text_in m (codes "connections") (codes "0"))
    → dir ≡ text_in m (codes "dir") (codes "frostd-data") → listen ≡ text_in m (codes "listen") (codes "127.0.0.1:7070")
    → option_and_then serve_of (given form.Serve words) ≡ serve_from dir listen workers connections
serve_by words m dir listen workers connections gives works connects is hears =
    ap (option_and_then serve_of) gives.1
    ∙ ap₂ (λ (t u : Text). serve_from t u (number 1 32 (text_or (codes "4") (codes "workers") gives.0)) (whole_number (text_or (codes "0") (codes "connections") gives.0)))
    (sym (is ∙ text_is form.Serve m gives.0 gives.2 (codes "dir") (codes "frostd-data") refl))
    (sym (hears ∙ text_is form.Serve m gives.0 gives.2 (codes "listen") (codes "127.0.0.1:7070") refl))
    ∙ ap₂ (serve_from dir listen)
    (sym (works ∙ ap (number 1 32) (text_is form.Serve m gives.0 gives.2 (codes "workers") (codes "4") refl)))
    (sym (connects ∙ ap whole_number (text_is form.Serve m gives.0 gives.2 (codes "connections") (codes "0") refl)))

pub serve_is : (words : List Text) (m : ArgMatches) (dir listen : Text) (workers connections : ℕ) → Gives form.Serve words m
    → Some workers ≡ number 1 32 (text_in m (codes "workers") (codes "4")) → Some connections ≡ whole_number (text_in m (codes "connections") (codes "0"))
    → dir ≡ text_in m (codes "dir") (codes "frostd-data") → listen ≡ text_in m (codes "listen") (codes "127.0.0.1:7070")
    → option_and_then serve_of (given form.Serve words) ≡ Some (Serve dir listen workers connections)
serve_is words m dir listen workers connections gives works connects is hears =
    serve_by words m dir listen (Some workers) (Some connections) gives works connects is hears

pub no_workers : (words : List Text) (m : ArgMatches) → Gives form.Serve words m → None ≡ number 1 32 (text_in m (codes "workers") (codes "4"))
    → option_and_then serve_of (given form.Serve words) ≡ None
no_workers words m gives works =
    serve_by words m (text_in m (codes "dir") (codes "frostd-data")) (text_in m (codes "listen") (codes "127.0.0.1:7070")) None
    (whole_number (text_in m (codes "connections") (codes "0"))) gives works refl refl refl

no_connections_in : (dir listen : Text) (workers : Option ℕ) → serve_from dir listen workers None ≡ None
no_connections_in dir listen None = refl
no_connections_in dir listen (Some w) = refl

pub no_connections : (words : List Text) (m : ArgMatches) → Gives form.Serve words m → None ≡ whole_number (text_in m (codes "connections") (codes "0"))
    → option_and_then serve_of (given form.Serve words) ≡ None
no_connections words m gives connects =
    serve_by words m (text_in m (codes "dir") (codes "frostd-data")) (text_in m (codes "listen") (codes "127.0.0.1:7070"))
    (number 1 32 (text_in m (codes "workers") (codes "4"))) None gives refl connects refl refl
    ∙ no_connections_in (text_in m (codes "dir") (codes "frostd-data")) (text_in m (codes "listen") (codes "127.0.0.1:7070")) (number 1 32 (text_in m (codes "workers") (codes "4")))

-- ---- refusals

pub refused_map : {A B : Type 0} (f : A → B) (o : Option A) (why : WordsFault) → (why ≢ fault.NoMemory → o ≡ None) → Meets (option_map f o) (Err why)
refused_map f o fault.BadWords none = ap (option_map f) (none (λ e. cc))
refused_map f o fault.NoMemory none = tt

pub refused_then : {A B : Type 0} (f : A → Option B) (o : Option A) (why : WordsFault) → (why ≢ fault.NoMemory → o ≡ None) → Meets (option_and_then f o) (Err why)
refused_then f o fault.BadWords none = ap (option_and_then f) (none (λ e. cc))
refused_then f o fault.NoMemory none = tt

pub ruleset folder_steps = (folder_is, refused_map)

pub ruleset persist_steps = (persist_is, refused_map)

pub ruleset make_steps = (make_is, no_seed, no_count, refused_then)

pub ruleset serve_steps = (serve_is, no_workers, no_connections, refused_then)
