-- The numbers of command lines.
use Rattle.std.specs.Prelude.{ℕ, ◌&&◌, nat_le, List, Option, Some, None, decimal, if◌then◌else◌}
use Rattle.std.specs.Str.{bytes_eq}
use Rattle.std.specs.Str.Parse.{digits_value}

-- the number in this range that the text spells: its decimal digits, with no sign and no zero in front
abbrev pub number : ℕ → ℕ → List ℕ → Option ℕ
number least most text =
    if bytes_eq text (decimal (digits_value 10 text)) && (nat_le least (digits_value 10 text) && nat_le (digits_value 10 text) most)
    then Some (digits_value 10 text) else None
