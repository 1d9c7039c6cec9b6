-- The parts of a request's target: its path, and its parameters as a web form spells them.
use Rattle.std.specs.Prelude.{ℕ, List, map, reverse, Option, option_map, find, ◌==◌, bytes_eq}
use Rattle.std.specs.List.{before_first, after_first}
use Rattle.std.specs.Str.Lossy.{utf8_lossy}
use Rattle.form_urlencoded.specs.Form.{raw_pairs, decode}
use Rattle.fd_kinds.specs.declared.pair.Pair.{Pair}

-- what stands before the first `?`, or all
abbrev pub path_of : List ℕ → List ℕ
path_of target = before_first (λ b. b == 63) target

-- what stands after it
abbrev pub query_of : List ℕ → List ℕ
query_of target = after_first (λ b. b == 63) target

-- a name and a value as text, where bytes that are no UTF-8 are replaced
abbrev pub decoded : List ℕ × List ℕ → Pair
decoded pair = record { name = utf8_lossy (decode pair.0); value = utf8_lossy (decode pair.1) }

abbrev pub parameters : List ℕ → List Pair
parameters target = map decoded (raw_pairs (query_of target))

-- the value of the last pair of a name
abbrev pub last_value : List ℕ → List Pair → Option (List ℕ)
last_value name pairs = option_map (λ p. p.value) (find (λ p. bytes_eq p.name name) (reverse pairs))
