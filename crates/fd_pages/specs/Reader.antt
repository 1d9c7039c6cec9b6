-- Reading values one after another from the front of bytes. A reading is a value and the bytes behind it.
use Rattle.std.specs.Prelude.{◌≡◌, ℕ, Bool, List, [], ◌∷◌, ◌++◌, length, take, drop, All, Result, Ok, Err, nat_lt, ◌==◌, if◌then◌else◌}
use Rattle.std.specs.Int.{Width, w32, w64, byte_len, from_le_bytes, cast_signed}
use Rattle.fd_thrift.specs.declared.fault.ThriftFault.{ThriftFault}
use Rattle.fd_thrift.specs.declared.fault.ThriftFault.TheVariants as thrift
use Rattle.fd_pages.specs.declared.cell.CellKind.{CellKind}
use Rattle.fd_pages.specs.declared.cell.CellKind.TheVariants.{Whole as WholeKind, Bytes as BytesKind}
use Rattle.fd_pages.specs.declared.cell.Cell.{Cell}
use Rattle.fd_pages.specs.declared.cell.Cell.TheVariants.{Absent, Whole, Bytes}
use Rattle.fd_pages.specs.Columns.{IsOfColumn, Fits}
use Rattle.fd_pages.specs.declared.fault.PageFault.{PageFault}
use Rattle.fd_pages.specs.declared.fault.PageFault.TheVariants.{BadPage, NoMemory}

infixl 10 ◌>>=◌
abbrev pub ◌>>=◌ : {A B : Type 0} → Result A PageFault → (A → Result B PageFault) → Result B PageFault
(Ok x) >>= f = f x
(Err e) >>= f = Err e

abbrev pub Reading : Type 0 → Type 0
Reading A = Result (A × List ℕ) PageFault

-- a number in so many bytes, the lowest first
abbrev pub fixed_width_at : Width → List ℕ → Reading ℕ
fixed_width_at w bytes = if nat_lt (length bytes) (byte_len w) then Err BadPage else Ok (from_le_bytes w (take (byte_len w) bytes), drop (byte_len w) bytes)

-- a length, and so many bytes
unfoldable pub sized_at : List ℕ → Reading (List ℕ)
sized_at bytes = fixed_width_at w32 bytes >>= λ size. if nat_lt (length size.1) size.0 then Err BadPage else Ok (take size.0 size.1, drop size.0 size.1)

-- a value of this kind
unfoldable pub value_at : CellKind → List ℕ → Reading Cell
value_at WholeKind bytes = fixed_width_at w64 bytes >>= λ number. Ok (Whole (cast_signed w64 number.0), number.1)
value_at BytesKind bytes = sized_at bytes >>= λ text. Ok (Bytes text.0, text.1)

-- a value where its level is not 0
unfoldable pub cell_at : CellKind → ℕ → List ℕ → Reading Cell
cell_at kind level bytes = if level == 0 then Ok (Absent, bytes) else value_at kind bytes

-- a cell for each level
unfoldable pub cells_at : CellKind → List ℕ → List ℕ → Reading (List Cell)
cells_at kind [] bytes = Ok ([], bytes)
cells_at kind (level ∷ levels) bytes =
    cell_at kind level bytes >>= λ first.
    cells_at kind levels first.1 >>= λ others.
    Ok (first.0 ∷ others.0, others.1)

-- all of the bytes
abbrev pub ended : {A : Type 0} → Reading A → Result A PageFault
ended read = read >>= λ x. if length x.1 == 0 then Ok x.0 else Err BadPage

-- what is read behind others
abbrev pub with_front : List Cell → Reading (List Cell) → Reading (List Cell)
with_front front read = read >>= λ x. Ok (front ++ x.0, x.1)

-- what a call that takes no memory answers, seen by `see`, is what reading gives
abbrev pub Decodes : {X Y : Type 0} → (X → Y) → Result X PageFault → Result Y PageFault → Type 0
Decodes see (Ok x) read = read ≡ Ok (see x)
Decodes see (Err e) read = read ≡ Err e

-- the reading is refused by this fault, unless memory ran out
abbrev pub Fails : {Y : Type 0} → PageFault → Result Y PageFault → Type 0
Fails NoMemory read = Unit {0}
Fails BadPage read = read ≡ Err BadPage

-- what a call that takes memory answers, seen by `see`, is what reading gives, unless memory ran out
abbrev pub DecodesOrRunsOut : {X Y : Type 0} → (X → Y) → Result X PageFault → Result Y PageFault → Type 0
DecodesOrRunsOut see (Ok x) read = read ≡ Ok (see x)
DecodesOrRunsOut see (Err e) read = Fails e read

-- so many cells of a column
pub record AreCells (kind : CellKind) (required : Bool) (count : ℕ) (cells : List Cell) : Type 0 where
  pub counted : length cells ≡ count
  pub column : All (IsOfColumn kind required) cells
  pub fit : All Fits cells

-- what a fault of the header's tree is for a page
abbrev pub fault_of : ThriftFault → PageFault
fault_of thrift.NoMemory = NoMemory
fault_of fault = BadPage
