-- What the fields of a message hold. A message is the list of its fields, and `bytes` are those of the whole profile.
use Rattle.std.specs.Prelude.{ℕ, List, [], ◌∷◌, map, slice_range, ◌==◌, if◌then◌else◌}
use Rattle.std.specs.List.{flat_map}
use Rattle.std.specs.Result.{result_unwrap_or}
use Rattle.fd_wire.specs.declared.field.Field.{Field}
use Rattle.fd_wire.specs.declared.field.WireValue.{WireValue}
use Rattle.fd_wire.specs.declared.field.WireValue.TheVariants.{Varint, Span}
use Rattle.fd_wire.specs.Fields.{fields_at, varints_at}
use Rattle.fd_proto.specs.declared.place.Place.{Place}

-- what a field with the number k holds, in order
abbrev pub values : ℕ → List Field → List WireValue
values k [] = []
values k (f ∷ fs) = if f.number == k then f.value ∷ values k fs else values k fs

abbrev pub last_whole : ℕ → List WireValue → ℕ
last_whole n [] = n
last_whole n (Varint m ∷ vs) = last_whole m vs
last_whole n (v ∷ vs) = last_whole n vs

-- a single whole number: the last one, and 0 where there is none
abbrev pub whole : ℕ → List Field → ℕ
whole k fs = last_whole 0 (values k fs)

-- where the texts and messages of a field lie
abbrev pub spans_of : List WireValue → List Place
spans_of [] = []
spans_of (Span start end ∷ vs) = record { start = start; end = end } ∷ spans_of vs
spans_of (v ∷ vs) = spans_of vs

abbrev pub spans : ℕ → List Field → List Place
spans k fs = spans_of (values k fs)

abbrev pub text_in : List ℕ → Place → List ℕ
text_in bytes p = slice_range bytes p.start p.end

-- the fields of the message that lies there
abbrev pub message_in : List ℕ → Place → List Field
message_in bytes p = result_unwrap_or (fields_at p.start (text_in bytes p)) []

-- repeated messages, in order
abbrev pub parts : List ℕ → ℕ → List Field → List (List Field)
parts bytes k fs = map (message_in bytes) (spans k fs)

-- a single message: its fields are read as if they stood one after another
abbrev pub part : List ℕ → ℕ → List Field → List Field
part bytes k fs = flat_map (message_in bytes) (spans k fs)

-- one whole number, or packed ones
abbrev pub wholes_in : List ℕ → WireValue → List ℕ
wholes_in bytes (Varint n) = n ∷ []
wholes_in bytes (Span start end) = result_unwrap_or (varints_at start (slice_range bytes start end)) []
wholes_in bytes value = []

-- repeated whole numbers, packed or one per field, joined in order
abbrev pub wholes : List ℕ → ℕ → List Field → List ℕ
wholes bytes k fs = flat_map (wholes_in bytes) (values k fs)
