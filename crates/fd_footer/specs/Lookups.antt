-- What stands in a tree. A lookup is total: where another kind of value stands, the least one of the wanted kind counts.
use Rattle.std.specs.Prelude.{ℕ, ℤ, pos, List, [], ◌∷◌, if◌then◌else◌}
use Rattle.std.specs.Ordering.{int_eq}
use Rattle.fd_thrift.specs.Values.{Value, whole32, whole64, binary, list, struct, Items, no_items, item, Fields, no_fields, field}

abbrev pub field_in : ℤ → Fields → Value
field_in id no_fields = struct no_fields
field_in id (field i v fs) = if int_eq i id then v else field_in id fs

-- the value of the field with this number
abbrev pub field_at : ℤ → Value → Value
field_at id (struct fs) = field_in id fs
field_at id v = struct no_fields

abbrev pub number_of : Value → ℤ
number_of (whole32 z) = z
number_of (whole64 z) = z
number_of v = pos 0

abbrev pub text_of : Value → List ℕ
text_of (binary bytes) = bytes
text_of v = []

abbrev pub values_in : Items → List Value
values_in no_items = []
values_in (item v vs) = v ∷ values_in vs

abbrev pub values_of : Value → List Value
values_of (list vs) = values_in vs
values_of v = []

abbrev pub number_at : ℤ → Value → ℤ
number_at id v = number_of (field_at id v)

abbrev pub text_at : ℤ → Value → List ℕ
text_at id v = text_of (field_at id v)

abbrev pub values_at : ℤ → Value → List Value
values_at id v = values_of (field_at id v)
