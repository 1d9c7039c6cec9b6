-- The commands of the program and what their words say: the table of its command lines.
use Rattle.std.specs.Prelude.{◌≡◌, ℕ, List, [], ◌∷◌, Option, Some, None, Result, Ok, Err, option_map, option_and_then, unwrap_or, codes, if◌then◌else◌}
use Rattle.std.specs.Str.{bytes_eq}
use Rattle.fd_words.specs.Lines.{Text, Given, given, value_of}
use Rattle.fd_words.specs.Numbers.{number}
use Rattle.fd_words.specs.declared.forms.Form.TheVariants as form
use Rattle.fd_words.specs.declared.faults.WordsFault.{WordsFault}
use Rattle.fd_words.specs.declared.faults.WordsFault.TheVariants.{BadWords, NoMemory}
use Rattle.fd_words.specs.declared.plan.Plan.{Plan}
use Rattle.fd_words.specs.declared.plan.Plan.TheVariants.{Session, Compact, Persist, Dump, Verify, Make, Serve}

abbrev pub whole_number : Text → Option ℕ
whole_number = number 0 18_446_744_073_709_551_615

-- the text that is given under a name, or else another
abbrev pub text_or : Text → Text → Given → Text
text_or other name g = unwrap_or (value_of g name) other

abbrev pub dir_of : Given → Text
dir_of = text_or (codes "frostd-data") (codes "dir")

abbrev pub persist_of : Given → Plan
persist_of g = Persist (dir_of g) (bytes_eq (text_or (codes "false") (codes "rotate") g) (codes "true"))

abbrev pub make_of : Given → Option Plan
make_of g =
    option_and_then (λ seed. option_map (Make (dir_of g) seed) (number 1 10_000 (text_or [] (codes "count") g)))
    (whole_number (text_or [] (codes "seed") g))

abbrev pub serve_of : Given → Option Plan
serve_of g =
    option_and_then (λ workers.
    option_map (Serve (dir_of g) (text_or (codes "127.0.0.1:7070") (codes "listen") g) workers)
    (whole_number (text_or (codes "0") (codes "connections") g)))
    (number 1 32 (text_or (codes "4") (codes "workers") g))

-- the plan of a command and the words behind its name
abbrev pub command_plan : Text → List Text → Option Plan
command_plan name words =
    if bytes_eq name (codes "session") then option_map (λ g. Session (dir_of g)) (given form.Store words)
    else if bytes_eq name (codes "compact") then option_map (λ g. Compact (dir_of g)) (given form.Store words)
    else if bytes_eq name (codes "persist") then option_map persist_of (given form.Persist words)
    else if bytes_eq name (codes "dump") then option_map (λ g. Dump (dir_of g)) (given form.Store words)
    else if bytes_eq name (codes "verify") then option_map (λ g. Verify (dir_of g)) (given form.Store words)
    else if bytes_eq name (codes "make") then option_and_then make_of (given form.Make words)
    else if bytes_eq name (codes "serve") then option_and_then serve_of (given form.Serve words)
    else None

abbrev pub plan_of : List Text → Option Plan
plan_of [] = None
plan_of (name ∷ words) = command_plan name words

-- what reading words answers, unless memory is short
abbrev pub Meets : {A : Type 0} → Option A → Result A WordsFault → Type 0
Meets expected (Ok a) = expected ≡ Some a
Meets expected (Err BadWords) = expected ≡ None
Meets expected (Err NoMemory) = Unit {0}
