-- The fields of a message as they are written (protobuf.dev, "Encoding").
use Rattle.std.specs.Prelude.{ℕ, zero, suc, ◌+◌, ◌-◌, ◌*◌, ◌/◌, ◌%◌, ◌<◌, ◌≤◌, ◌==◌, List, [], ◌∷◌, ◌++◌, length, nat_lt, if◌then◌else◌}
use Rattle.fd_wire.specs.declared.field.Field.{Field}
use Rattle.fd_wire.specs.declared.field.WireValue.TheVariants.{Varint, Span}

-- A number in groups of seven bits, the lowest first, in the least number of bytes. Each byte but the last has its top bit
-- set. At most so many bytes go before the last.
abbrev pub varint_within : ℕ → ℕ → List ℕ
varint_within zero n = n ∷ []
varint_within (suc most) n = if nat_lt n 128 then n ∷ [] else (128 + n % 128) ∷ varint_within most (n / 128)

-- a number below 2 ^ 64 takes at most ten bytes
unfoldable pub varint : ℕ → List ℕ
varint n = varint_within 9 n

-- a field's number and its wire type, 0 for a number and 2 for bytes
abbrev pub key : ℕ → ℕ → List ℕ
key field wire_type = varint (8 * field + wire_type)

-- one number of a repeated field, unpacked
abbrev pub item : ℕ → ℕ → List ℕ
item field n = key field 0 ++ varint n

-- the number of a single field, which is left out where it is 0
abbrev pub number : ℕ → ℕ → List ℕ
number field n = if n == 0 then [] else item field n

-- a message or a text behind its length
abbrev pub span : ℕ → List ℕ → List ℕ
span field bytes = key field 2 ++ varint (length bytes) ++ bytes

-- what a field's number may be
abbrev pub IsFieldNumber : ℕ → Type 0
IsFieldNumber field = (0 < field) × (field ≤ 536870911)

-- what is read of a number
abbrev pub number_read : ℕ → ℕ → Field
number_read field n = record { number = field; value = Varint n }

-- what is read of so many bytes behind their length, which end before the place `end`
abbrev pub span_read : ℕ → ℕ → ℕ → Field
span_read field size end = record { number = field; value = Span (end - size) end }
