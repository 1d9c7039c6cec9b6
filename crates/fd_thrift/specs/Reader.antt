-- Reading from left to right, with the first fault that is met. A reading is a value and the bytes behind it.
use Rattle.std.specs.Prelude.{◌≡◌, ◌<◌, slice_index, ℕ, zero, suc, ◌+◌, ◌-◌, ◌*◌, ◌/◌, ◌%◌, ◌^◌, Bool, true, false, ◌&&◌, ◌||◌, ℤ, pos, negsuc, List, [], ◌∷◌, ◌++◌, length, take, drop, Result, Ok, Err, nat_lt, nat_le, ◌==◌, if◌then◌else◌}
use Rattle.fd_thrift.specs.declared.fault.ThriftFault.{ThriftFault}
use Rattle.fd_thrift.specs.declared.fault.ThriftFault.TheVariants.{Cut, BadType, BadSize, Deep, NoMemory}
use Rattle.fd_thrift.specs.declared.kind.Kind.{Kind}
use Rattle.fd_thrift.specs.declared.kind.Kind.TheVariants.{Whole32, Whole64, Binary, List as ListKind, Struct}
use Rattle.fd_thrift.specs.Values.{Value, whole32, whole64, binary, list, struct, Items, no_items, item, Fields, no_fields, field}
use Rattle.fd_thrift.specs.Format.{max_levels, Spells}

infixl 10 ◌>>=◌
abbrev pub ◌>>=◌ : {A B : Type 0} → Result A ThriftFault → (A → Result B ThriftFault) → Result B ThriftFault
(Ok x) >>= f = f x
(Err e) >>= f = Err e

abbrev pub Reading : Type 0 → Type 0
Reading A = Result (A × List ℕ) ThriftFault

-- ---- numbers

-- A number below 2 ^ bits, behind lower bytes of it if `later`. It is refused at the byte with which it
-- can no longer be below 2 ^ bits and in its least number of bytes.
abbrev pub varint_from : Bool → ℕ → List ℕ → Reading ℕ
varint_from later bits [] = Err Cut
varint_from later bits (b ∷ bs) =
    if nat_lt b 128 then (if (later && (b == 0)) || nat_le (2 ^ bits) b then Err BadSize else Ok (b, bs))
    else if nat_le bits 7 then Err BadSize
    else (varint_from true (bits - 7) bs >>= λ high. Ok ((b - 128) + 128 * high.0, high.1))

unfoldable pub varint_at : ℕ → List ℕ → Reading ℕ
varint_at bits bytes = varint_from false bits bytes

-- 0, 1, 2, 3, .. as 0, -1, 1, -2, ..
abbrev pub unzigzag : ℕ → ℤ
unzigzag n = if n % 2 == 0 then pos (n / 2) else negsuc (n / 2)

-- a length, and so many bytes
unfoldable pub binary_at : List ℕ → Reading (List ℕ)
binary_at bytes = varint_at 64 bytes >>= λ size. if nat_lt (length size.1) size.0 then Err Cut else Ok (take size.0 size.1, drop size.0 size.1)

-- ---- headers

abbrev pub kind_at : ℕ → Result Kind ThriftFault
kind_at code =
    if code == 5 then Ok Whole32
    else if code == 6 then Ok Whole64
    else if code == 8 then Ok Binary
    else if code == 9 then Ok ListKind
    else if code == 12 then Ok Struct
    else Err BadType

abbrev pub is_struct : Kind → Bool
is_struct Struct = true
is_struct kind = false

-- a size that needs the long form
abbrev pub long_size_at : List ℕ → Reading ℕ
long_size_at bytes = varint_at 64 bytes >>= λ size. if nat_lt size.0 15 then Err BadSize else Ok size

-- The size of a list whose header's upper half is `half`: that, or behind the header where it is 15. Only structs can be
-- none, and items need a level.
abbrev pub size_at : ℕ → ℕ → Kind → List ℕ → Reading ℕ
size_at levels half kind bytes =
    if half == 0 then (if is_struct kind then Ok (0, bytes) else Err BadType)
    else if levels == 0 then Err Deep
    else if half == 15 then long_size_at bytes
    else Ok (half, bytes)

-- a list's size, and the type of its items, which may have so many levels
abbrev pub list_header_at : ℕ → List ℕ → Reading (ℕ × Kind)
list_header_at levels [] = Err Cut
list_header_at levels (h ∷ bs) = kind_at (h % 16) >>= λ kind. size_at levels (h / 16) kind bs >>= λ size. Ok ((size.0, kind), size.1)

-- the id of the next field
abbrev pub next_id : ℕ → ℕ → Result ℕ ThriftFault
next_id last step = if (step == 0) || nat_lt 32767 (last + step) then Err BadType else Ok (last + step)

-- ---- values, where `inner` reads those inside, which may have so many levels

abbrev pub items_at : (List ℕ → Reading Value) → ℕ → List ℕ → Reading Items
items_at inner zero bytes = Ok (no_items, bytes)
items_at inner (suc n) bytes =
    inner bytes >>= λ first.
    items_at inner n first.1 >>= λ others.
    Ok (item first.0 others.0, others.1)

abbrev pub list_at : ℕ → (Kind → List ℕ → Reading Value) → List ℕ → Reading Items
list_at levels inner bytes = list_header_at levels bytes >>= λ header. items_at (inner header.0.1) header.0.0 header.1

-- The fields behind one with the id `last`, and the byte 0 behind them, in at most so many bytes. Each field has a byte at least.
abbrev pub fields_within : (Kind → List ℕ → Reading Value) → ℕ → ℕ → List ℕ → Reading Fields
fields_within inner zero last bytes = Err Cut
fields_within inner (suc most) last [] = Err Cut
fields_within inner (suc most) last (h ∷ bs) =
    if h == 0 then Ok (no_fields, bs)
    else (kind_at (h % 16) >>= λ kind.
    next_id last (h / 16) >>= λ id.
    inner kind bs >>= λ value.
    fields_within inner most id value.1 >>= λ others.
    Ok (field (pos id) value.0 others.0, others.1))

abbrev pub struct_at : (Kind → List ℕ → Reading Value) → List ℕ → Reading Fields
struct_at inner bytes = fields_within inner (length bytes) 0 bytes

abbrev pub value_by : ℕ → (Kind → List ℕ → Reading Value) → Kind → List ℕ → Reading Value
value_by levels inner Whole32 bytes = varint_at 32 bytes >>= λ n. Ok (whole32 (unzigzag n.0), n.1)
value_by levels inner Whole64 bytes = varint_at 64 bytes >>= λ n. Ok (whole64 (unzigzag n.0), n.1)
value_by levels inner Binary bytes = binary_at bytes >>= λ b. Ok (binary b.0, b.1)
value_by levels inner ListKind bytes = list_at levels inner bytes >>= λ vs. Ok (list vs.0, vs.1)
value_by levels inner Struct bytes = struct_at inner bytes >>= λ fs. Ok (struct fs.0, fs.1)

-- A value of this type with at most so many levels. Where none is left, it is refused before its bytes.
abbrev pub value_at : ℕ → Kind → List ℕ → Reading Value
value_at zero kind bytes = Err Deep
value_at (suc levels) kind bytes = value_by levels (value_at levels) kind bytes

-- a struct, which has at most so many levels
unfoldable pub tree_at : List ℕ → Reading Value
tree_at bytes = value_at max_levels Struct bytes

-- the same for bytes that begin at the place `at`: a value, and the place behind it
unfoldable pub read_at : ℕ → List ℕ → Result (Value × ℕ) ThriftFault
read_at at bytes = tree_at bytes >>= λ v. Ok (v.0, at + (length bytes - length v.1))

-- each item is a byte
abbrev pub AreBytes : List ℕ → Type 0
AreBytes bytes = (i : ℕ) → slice_index bytes i < 256

-- ---- what calls answer

-- what a call answers, seen by `see`, is what reading gives
abbrev pub Decodes : {X Y : Type 0} → (X → Y) → Result X ThriftFault → Result Y ThriftFault → Type 0
Decodes see (Ok x) read = read ≡ Ok (see x)
Decodes see (Err e) read = read ≡ Err e

-- the reading is refused by this fault, unless memory ran out
abbrev pub Fails : {Y : Type 0} → ThriftFault → Result Y ThriftFault → Type 0
Fails NoMemory read = Unit {0}
Fails fault read = read ≡ Err fault

-- what a call that takes memory answers, seen by `see`, is what reading gives, unless memory ran out
abbrev pub DecodesOrRunsOut : {X Y : Type 0} → (X → Y) → Result X ThriftFault → Result Y ThriftFault → Type 0
DecodesOrRunsOut see (Ok x) read = read ≡ Ok (see x)
DecodesOrRunsOut see (Err e) read = Fails e read

-- a front of the bytes, which begin at the place `at`, spells the value, and `after` is the place behind it
abbrev pub Begins : ℕ → List ℕ → Value → ℕ → Type 0
Begins at bytes v after = (front : List ℕ) × (rest : List ℕ) × (bytes ≡ front ++ rest) × Spells front v × (after ≡ at + length front)

-- a front of a spelling, and not the whole of it: more bytes complete it
pub record IsCutShort (bytes : List ℕ) : Type 0 where
  pub more : List ℕ
  pub are : AreBytes more
  pub some : 0 < length more
  pub value : Value
  pub spelled : Spells (bytes ++ more) value

-- The first fault from left to right: up to a byte the bytes are the front of a spelling, and with that byte they are
-- refused so.
pub record StopsBy (fault : ThriftFault) (bytes : List ℕ) : Type 0 where
  pub front : List ℕ
  pub byte : ℕ
  pub rest : List ℕ
  pub whole : bytes ≡ front ++ byte ∷ rest
  pub before : IsCutShort front
  pub refused : tree_at (front ++ byte ∷ []) ≡ Err fault
