-- Looking into trees.
use Rattle.std.specs.Prelude.{ℕ, zero, suc, Option, None, Some}
use Rattle.fd_thrift.specs.Values.{Value, Fields, no_fields, field}

-- the value of the field at a place, from 0
abbrev pub value_in : Fields → ℕ → Option Value
value_in no_fields place = None
value_in (field id value others) zero = Some value
value_in (field id value others) (suc place) = value_in others place
