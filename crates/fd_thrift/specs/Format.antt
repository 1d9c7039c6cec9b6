-- The spelling of a value by the Thrift compact protocol, and which values have one.
use Rattle.std.specs.Prelude.{◌≡◌, ℕ, zero, suc, ◌+◌, ◌-◌, ◌*◌, ◌/◌, ◌%◌, ◌<◌, ◌≤◌, ◌^◌, max, ℤ, pos, negsuc, List, [], ◌∷◌, ◌++◌, length, FitsSigned, nat_lt, if◌then◌else◌}
use Rattle.std.specs.Int.{w32, w64}
use Rattle.fd_thrift.specs.declared.kind.Kind.{Kind}
use Rattle.fd_thrift.specs.declared.kind.Kind.TheVariants.{Whole32, Whole64, Binary, List as ListKind, Struct}
use Rattle.fd_thrift.specs.Values.{Value, whole32, whole64, binary, list, struct, Items, no_items, item, Fields, no_fields, field}

-- ---- numbers

-- 0, -1, 1, -2, .. as 0, 1, 2, 3, ..
abbrev pub zigzag : ℤ → ℕ
zigzag (pos n) = 2 * n
zigzag (negsuc n) = 2 * n + 1

-- A number in groups of seven bits, the lowest first, in the least number of bytes. Each byte but the last has its top bit set.
-- At most so many bytes go before the last.
abbrev pub varint_within : ℕ → ℕ → List ℕ
varint_within zero n = n ∷ []
varint_within (suc most) n = if nat_lt n 128 then n ∷ [] else (128 + n % 128) ∷ varint_within most (n / 128)

-- a number below 2 ^ 64 takes at most ten bytes
unfoldable pub varint : ℕ → List ℕ
varint n = varint_within 9 n

-- ---- types and headers

abbrev pub code_of : Kind → ℕ
code_of Whole32 = 5
code_of Whole64 = 6
code_of Binary = 8
code_of ListKind = 9
code_of Struct = 12

abbrev pub kind_of : Value → Kind
kind_of (whole32 z) = Whole32
kind_of (whole64 z) = Whole64
kind_of (binary bytes) = Binary
kind_of (list vs) = ListKind
kind_of (struct fs) = Struct

-- the type of a list's items; a list without items is one of structs
abbrev pub items_kind : Items → Kind
items_kind no_items = Struct
items_kind (item v vs) = kind_of v

abbrev pub items_len : Items → ℕ
items_len no_items = 0
items_len (item v vs) = suc (items_len vs)

-- a list's size and the type of its items: in one byte where the size is below 15
abbrev pub list_header : ℕ → Kind → List ℕ
list_header size kind = if nat_lt size 15 then (16 * size + code_of kind) ∷ [] else (16 * 15 + code_of kind) ∷ varint size

-- the step from the last field id, and the type of the field's value
abbrev pub field_header : ℕ → Kind → ℕ
field_header step kind = 16 * step + code_of kind

-- a field id as a natural number
abbrev pub id_of : ℤ → ℕ
id_of (pos n) = n
id_of (negsuc n) = 0

-- ---- the spelling

abbrev mutual
  pub spelling : Value → List ℕ
  spelling (whole32 z) = varint (zigzag z)
  spelling (whole64 z) = varint (zigzag z)
  spelling (binary bytes) = varint (length bytes) ++ bytes
  spelling (list vs) = list_header (items_len vs) (items_kind vs) ++ items_spelling vs
  spelling (struct fs) = fields_spelling 0 fs

  pub items_spelling : Items → List ℕ
  items_spelling no_items = []
  items_spelling (item v vs) = spelling v ++ items_spelling vs

  -- the fields behind one with the id `last`, and the byte 0 that ends a struct
  pub fields_spelling : ℕ → Fields → List ℕ
  fields_spelling last no_fields = 0 ∷ []
  fields_spelling last (field id v fs) = field_header (id_of id - last) (kind_of v) ∷ (spelling v ++ fields_spelling (id_of id) fs)

-- ---- which values have one

-- how many levels a value has: a number or a text has one
abbrev mutual
  pub levels : Value → ℕ
  levels (whole32 z) = 1
  levels (whole64 z) = 1
  levels (binary bytes) = 1
  levels (list vs) = suc (items_levels vs)
  levels (struct fs) = suc (fields_levels fs)

  pub items_levels : Items → ℕ
  items_levels no_items = 0
  items_levels (item v vs) = max (levels v) (items_levels vs)

  pub fields_levels : Fields → ℕ
  fields_levels no_fields = 0
  fields_levels (field id v fs) = max (levels v) (fields_levels fs)

abbrev pub AreOfKind : Kind → Items → Type 0
AreOfKind kind no_items = Unit {0}
AreOfKind kind (item v vs) = (kind_of v ≡ kind) × AreOfKind kind vs

-- a field id is positive, at most 32767, and at most 15 above the last one
abbrev pub IsNextId : ℕ → ℤ → Type 0
IsNextId last (pos n) = (last < n) × (n ≤ last + 15) × (n ≤ 32767)
IsNextId last (negsuc n) = ⊥

-- the items of each list are of one type, and the ids of each struct's fields rise by one to 15
abbrev mutual
  pub IsFormed : Value → Type 0
  IsFormed (whole32 z) = Unit {0}
  IsFormed (whole64 z) = Unit {0}
  IsFormed (binary bytes) = Unit {0}
  IsFormed (list vs) = AreOfKind (items_kind vs) vs × AreFormedItems vs
  IsFormed (struct fs) = AreFormedFields 0 fs

  pub AreFormedItems : Items → Type 0
  AreFormedItems no_items = Unit {0}
  AreFormedItems (item v vs) = IsFormed v × AreFormedItems vs

  pub AreFormedFields : ℕ → Fields → Type 0
  AreFormedFields last no_fields = Unit {0}
  AreFormedFields last (field id v fs) = IsNextId last id × IsFormed v × AreFormedFields (id_of id) fs

-- each number fits its width, and each size 64 bits: so it is with each tree in memory
abbrev mutual
  pub Fits : Value → Type 0
  Fits (whole32 z) = FitsSigned w32 z
  Fits (whole64 z) = FitsSigned w64 z
  Fits (binary bytes) = length bytes < 2 ^ 64
  Fits (list vs) = (items_len vs < 2 ^ 64) × FitItems vs
  Fits (struct fs) = FitFields fs

  pub FitItems : Items → Type 0
  FitItems no_items = Unit {0}
  FitItems (item v vs) = Fits v × FitItems vs

  pub FitFields : Fields → Type 0
  FitFields no_fields = Unit {0}
  FitFields (field id v fs) = Fits v × FitFields fs

-- how many levels may be
abbrev pub max_levels : ℕ
max_levels = 8

-- what can be written: a struct, with its levels, field ids and lists in order
pub record IsLegal (v : Value) : Type 0 where
  pub struct : kind_of v ≡ Struct
  pub within : levels v ≤ max_levels
  pub formed : IsFormed v

-- the bytes are the one spelling of the value
pub record Spells (bytes : List ℕ) (v : Value) : Type 0 where
  pub legal : IsLegal v
  pub fits : Fits v
  pub whole : bytes ≡ spelling v
