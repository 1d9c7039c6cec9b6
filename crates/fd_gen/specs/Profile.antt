-- The profile of a made body: pprof's messages (profile.proto), their fields by rising number.
use Rattle.std.specs.Prelude.{ℕ, ◌+◌, ◌*◌, List, [], ◌∷◌, ◌++◌, flat_map, map, codes, decimal}
use Rattle.std.specs.List.{range_with_len}
use Rattle.fd_gen.specs.declared.draws.Sample.{Sample}
use Rattle.fd_gen.specs.Fields.{item, number, span}

-- the functions 0 to 49, all of which each profile has
unfoldable pub functions : List ℕ
functions = range_with_len 0 50

-- the name of a function
abbrev pub name : ℕ → List ℕ
name f = codes "fn-" ++ decimal f

-- The string table. The name of function f has the index f + 3.
abbrev pub texts : List (List ℕ)
texts = [] ∷ codes "cpu" ∷ codes "nanoseconds" ∷ map name functions

-- ValueType: 1 type, 2 unit
abbrev pub cpu_nanoseconds : List ℕ
cpu_nanoseconds = number 1 1 ++ number 2 2

-- of a Sample: 1 location_id
abbrev pub location_id : ℕ → List ℕ
location_id f = item 1 (f + 1)

-- Sample: 1 location_id of each function of the stack, the leaf first, 2 value
abbrev pub sample : Sample → List ℕ
sample s = flat_map location_id s.functions ++ item 2 s.value

-- Location: 1 id, 4 line, which is a Line: 1 function_id
abbrev pub location : ℕ → List ℕ
location f = number 1 (f + 1) ++ span 4 (number 1 (f + 1))

-- Function: 1 id, 2 name
abbrev pub function : ℕ → List ℕ
function f = number 1 (f + 1) ++ number 2 (f + 3)

-- the fields 2 sample, 4 location, 5 function and 6 string_table of a Profile
abbrev pub sample_field : Sample → List ℕ
sample_field s = span 2 (sample s)

abbrev pub location_field : ℕ → List ℕ
location_field f = span 4 (location f)

abbrev pub function_field : ℕ → List ℕ
function_field f = span 5 (function f)

abbrev pub text_field : List ℕ → List ℕ
text_field text = span 6 text

-- these fields of all samples, functions and texts
abbrev pub lists : List Sample → List ℕ
lists samples =
    flat_map sample_field samples ++ flat_map location_field functions ++ flat_map function_field functions
    ++ flat_map text_field texts

-- the time of the body k, k seconds after 1970 in nanoseconds
abbrev pub time : ℕ → ℕ
time k = k * 1000000000

-- Profile: 1 sample_type, the lists, 9 time_nanos, 11 period_type, 12 period
abbrev pub profile : ℕ → List Sample → List ℕ
profile k samples =
    span 1 cpu_nanoseconds ++ lists samples ++ number 9 (time k) ++ span 11 cpu_nanoseconds ++ number 12 10000000
