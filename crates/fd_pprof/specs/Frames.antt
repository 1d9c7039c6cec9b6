-- The frames of a sample. `texts` is the string table, and `p` the profile with its texts by their indexes.
use Rattle.std.specs.Prelude.{ℕ, zero, suc, ◌+◌, ◌/◌, ◌%◌, List, [], ◌∷◌, ◌++◌, map, length, Option, Some, None, nat_lt, ◌==◌, if◌then◌else◌, slice_get, find, codes}
use Rattle.std.specs.List.{flat_map}
use Rattle.std.specs.Option.{unwrap_or}
use Rattle.fd_proto.specs.declared.raw.Raw.{Raw}
use Rattle.fd_proto.specs.declared.raw.RawSample.{RawSample}
use Rattle.fd_proto.specs.declared.raw.RawLocation.{RawLocation}
use Rattle.fd_proto.specs.declared.raw.RawFunction.{RawFunction}

-- the text of an index
abbrev pub text : List (List ℕ) → ℕ → List ℕ
text texts i = unwrap_or (slice_get texts i) []

unfoldable pub hex_digit : ℕ → ℕ
hex_digit n = if nat_lt n 10 then n + 48 else n + 87

-- the last so many digits of a number, in base 16
unfoldable pub hex_digits : ℕ → ℕ → List ℕ
hex_digits zero n = []
hex_digits (suc k) n = hex_digits k (n / 16) ++ hex_digit (n % 16) ∷ []

-- an address, as the frame of a line without a function
unfoldable pub hex_text : ℕ → List ℕ
hex_text address = codes "0x" ++ hex_digits 16 address

abbrev pub name_of : List (List ℕ) → Option RawFunction → List ℕ
name_of texts (Some f) = text texts f.name
name_of texts None = []

-- the frame of a line: its function's name, or the address for function 0
abbrev pub frame : List (List ℕ) → Raw → ℕ → ℕ → List ℕ
frame texts p address id = if id == 0 then hex_text address else name_of texts (find (λ f. f.id == id) p.functions)

-- one frame for each line, and one for a location without lines
abbrev pub location_frames : List (List ℕ) → Raw → RawLocation → List (List ℕ)
location_frames texts p l = if length l.lines == 0 then hex_text l.address ∷ [] else map (frame texts p l.address) l.lines

abbrev pub frames_at : List (List ℕ) → Raw → Option RawLocation → List (List ℕ)
frames_at texts p None = []
frames_at texts p (Some l) = location_frames texts p l

-- the frames of the location with an id
abbrev pub frames_of : List (List ℕ) → Raw → ℕ → List (List ℕ)
frames_of texts p id = frames_at texts p (find (λ l. l.id == id) p.locations)

-- the frames of a sample, the leaf first
abbrev pub stack : List (List ℕ) → Raw → RawSample → List (List ℕ)
stack texts p s = flat_map (frames_of texts p) s.locations
