-- Which cells a column has, and their bytes in PLAIN (Apache Parquet, Encodings.md, "Plain").
use Rattle.std.specs.Prelude.{◌≡◌, ℕ, ◌<◌, ◌^◌, Bool, false, List, [], ◌++◌, length, FitsSigned}
use Rattle.std.specs.List.{flat_map}
use Rattle.std.specs.Int.{w32, w64, to_le_bytes, cast_unsigned}
use Rattle.fd_pages.specs.declared.cell.CellKind.{CellKind}
use Rattle.fd_pages.specs.declared.cell.CellKind.TheVariants.{Whole as WholeKind, Bytes as BytesKind}
use Rattle.fd_pages.specs.declared.cell.Cell.{Cell}
use Rattle.fd_pages.specs.declared.cell.Cell.TheVariants.{Absent, Whole, Bytes}

-- A cell of a column: of the column's kind, or absent where the column is not required.
abbrev pub IsOfColumn : CellKind → Bool → Cell → Type 0
IsOfColumn kind required Absent = required ≡ false
IsOfColumn WholeKind required (Whole number) = Unit {0}
IsOfColumn WholeKind required (Bytes bytes) = ⊥
IsOfColumn BytesKind required (Whole number) = ⊥
IsOfColumn BytesKind required (Bytes bytes) = Unit {0}

-- a number of 64 bits, or bytes whose length has 32 bits
abbrev pub Fits : Cell → Type 0
Fits Absent = Unit {0}
Fits (Whole number) = FitsSigned w64 number
Fits (Bytes bytes) = length bytes < 2 ^ 32

-- four bytes of length, the lowest first, and so many bytes
abbrev pub sized : List ℕ → List ℕ
sized bytes = to_le_bytes w32 (length bytes) ++ bytes

-- INT64 as eight bytes in two's complement, the lowest first; BYTE_ARRAY with its length before it; nothing for an absent value
abbrev pub plain : Cell → List ℕ
plain Absent = []
plain (Whole number) = to_le_bytes w64 (cast_unsigned w64 number)
plain (Bytes bytes) = sized bytes

-- the values that are there, one after another
abbrev pub plain_values : List Cell → List ℕ
plain_values cells = flat_map plain cells

-- the definition level: 0 where a value is absent, 1 where it is there
abbrev pub level : Cell → ℕ
level Absent = 0
level (Whole number) = 1
level (Bytes bytes) = 1
