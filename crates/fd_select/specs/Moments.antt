-- What a text of a time says, in milliseconds since the Unix epoch.
use Rattle.std.specs.Prelude.{ℕ, ℤ, pos, neg_ℤ, ◌+◌, ◌-◌, ◌*◌, ◌^◌, ◌==◌, ◌&&◌, Bool, nat_lt, nat_le, if◌then◌else◌, List, [], ◌∷◌, length, Option, Some, None, Result, Ok, Err}
use Rattle.std.specs.Int.{int_div_euclid}
use Rattle.std.specs.Str.{all_ascii_digits}
use Rattle.jiff.specs.Words.{Error, parse_timestamp}
use Rattle.jiff_core.specs.declared.error.Error.TheVariants.{OutOfMemory}
use Rattle.fd_select.specs.declared.times.MomentFault.{MomentFault}
use Rattle.fd_select.specs.declared.times.MomentFault.TheVariants.{BadTime, NoMemory}

-- what decimal digits behind the number n spell
abbrev pub read_on : ℕ → List ℕ → ℕ
read_on n [] = n
read_on n (c ∷ cs) = read_on (10 * n + (c - 48)) cs

abbrev pub number : List ℕ → ℕ
number digits = read_on 0 digits

-- one or more decimal digits, leading zeros among them, that spell at most so much
abbrev pub is_number_to : ℕ → List ℕ → Bool
is_number_to most digits = (all_ascii_digits digits && nat_lt 0 (length digits)) && nat_le (number digits) most

-- the whole number that an optional `-` and decimal digits spell, in the range of 64 bits
abbrev pub whole_number : List ℕ → Option ℤ
whole_number [] = None
whole_number (c ∷ cs) =
    if c == 45 then (if is_number_to (2 ^ 63) cs then Some (neg_ℤ (pos (number cs))) else None)
    else (if is_number_to (2 ^ 63 - 1) (c ∷ cs) then Some (pos (number (c ∷ cs))) else None)

-- an instant's nanoseconds as whole milliseconds, rounded down on both sides of 0
abbrev pub instant_millis : Result ℤ Error → Result ℤ MomentFault
instant_millis (Ok nanos) = Ok (int_div_euclid nanos (pos 1_000_000))
instant_millis (Err OutOfMemory) = Err NoMemory
instant_millis (Err _) = Err BadTime

-- a whole number is the milliseconds, and any other text is an instant as `jiff` reads it
abbrev pub millis_or_instant : Option ℤ → Result ℤ Error → Result ℤ MomentFault
millis_or_instant (Some millis) instant = Ok millis
millis_or_instant None instant = instant_millis instant

abbrev pub moment_of : List ℕ → Result ℤ MomentFault
moment_of text = millis_or_instant (whole_number text) (parse_timestamp text)
