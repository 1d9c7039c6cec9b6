-- The messages of a profile: what their fields hold, said once, and what follows from it.
use Rattle.std.specs.Prelude.{ℕ, List, [], ◌∷◌, ◌++◌, Option, Some, None, Result, Ok, Err, slice_range, ◌==◌, if◌then◌else◌}
use Rattle.std.specs.List.{flat_map}
use Rattle.std.specs.Option.{option_or}
use Rattle.fd_wire.specs.declared.field.Field.{Field}
use Rattle.fd_wire.specs.declared.fault.WireFault.{WireFault}
use Rattle.fd_wire.specs.declared.fault.WireFault.TheVariants.{Cut, LongVarint, BadKey, NoMemory}
use Rattle.fd_wire.specs.declared.field.WireValue.{WireValue}
use Rattle.fd_wire.specs.declared.field.WireValue.TheVariants.{Span}
use Rattle.fd_wire.specs.Fields.{fields_at, varints_at}
use Rattle.fd_proto.specs.Messages.{whole, wholes, parts, part}

-- What the fields of a message hold, by their numbers. Other fields are unknown, or hold a number or a text that says nothing here.
pub data Shape : Type 0 where
  nothing : Shape
  index : ℕ → Shape → Shape  -- the index of a text
  indexes : ℕ → Shape → Shape  -- indexes of texts
  numbers : ℕ → Shape → Shape  -- whole numbers
  message : ℕ → Shape → Shape → Shape  -- one message of a shape
  messages : ℕ → Shape → Shape → Shape  -- messages of a shape

abbrev pub value_type : Shape
value_type = index 1 (index 2 nothing)

abbrev pub label : Shape
label = index 1 (index 2 (index 4 nothing))

abbrev pub sample : Shape
sample = numbers 1 (numbers 2 (messages 3 label nothing))

abbrev pub mapping : Shape
mapping = index 5 (index 6 nothing)

abbrev pub location : Shape
location = messages 4 nothing nothing

abbrev pub function : Shape
function = index 2 (index 3 (index 4 nothing))

unfoldable pub profile : Shape
profile =
    messages 1 value_type (messages 2 sample (messages 3 mapping (messages 4 location (messages 5 function
    (index 7 (index 8 (message 11 value_type (indexes 13 (index 14 nothing)))))))))

-- the text indexes of a message and of all messages in it
abbrev pub text_indexes : List ℕ → Shape → List Field → List ℕ
text_indexes bytes nothing fs = []
text_indexes bytes (index k others) fs = whole k fs ∷ text_indexes bytes others fs
text_indexes bytes (indexes k others) fs = wholes bytes k fs ++ text_indexes bytes others fs
text_indexes bytes (numbers k others) fs = text_indexes bytes others fs
text_indexes bytes (message k shape others) fs = text_indexes bytes shape (part bytes k fs) ++ text_indexes bytes others fs
text_indexes bytes (messages k shape others) fs = flat_map (text_indexes bytes shape) (parts bytes k fs) ++ text_indexes bytes others fs

abbrev pub place_of : WireFault → ℕ
place_of (Cut at) = at
place_of (LongVarint at) = at
place_of (BadKey at) = at
place_of NoMemory = 0

-- the place where reading fails, or else the flaw in what was read
abbrev pub flaw_of : {A : Type 0} → Result A WireFault → (A → Option ℕ) → Option ℕ
flaw_of (Ok x) inner = inner x
flaw_of (Err e) inner = Some (place_of e)

abbrev pub first_flaw : (Field → Option ℕ) → List Field → Option ℕ
first_flaw inner [] = None
first_flaw inner (f ∷ fs) = option_or (inner f) (first_flaw inner fs)

-- The whole field list of a message first, and then the values of its fields in the order of their places.
abbrev pub message_flaw : List ℕ → (Field → Option ℕ) → WireValue → Option ℕ
message_flaw bytes inner (Span start end) = flaw_of (fields_at start (slice_range bytes start end)) (first_flaw inner)
message_flaw bytes inner value = None

abbrev pub packed_flaw : List ℕ → WireValue → Option ℕ
packed_flaw bytes (Span start end) = flaw_of (varints_at start (slice_range bytes start end)) (λ ns. None)
packed_flaw bytes value = None

-- the first flaw in a field's value, to its full depth
abbrev pub value_flaw : List ℕ → Shape → Field → Option ℕ
value_flaw bytes nothing f = None
value_flaw bytes (index k others) f = value_flaw bytes others f
value_flaw bytes (indexes k others) f = if f.number == k then packed_flaw bytes f.value else value_flaw bytes others f
value_flaw bytes (numbers k others) f = if f.number == k then packed_flaw bytes f.value else value_flaw bytes others f
value_flaw bytes (message k shape others) f = if f.number == k then message_flaw bytes (value_flaw bytes shape) f.value else value_flaw bytes others f
value_flaw bytes (messages k shape others) f = if f.number == k then message_flaw bytes (value_flaw bytes shape) f.value else value_flaw bytes others f

-- the flaw of a message that lies between these places
abbrev pub flaw_between : List ℕ → Shape → ℕ → ℕ → Option ℕ
flaw_between bytes shape start end = message_flaw bytes (value_flaw bytes shape) (Span start end)
