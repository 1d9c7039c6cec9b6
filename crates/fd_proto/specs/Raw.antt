-- A profile with its texts by their indexes. The fields of a message stand under their numbers.
use Rattle.std.specs.Prelude.{ℕ, List, map, length, Option}
use Rattle.fd_wire.specs.declared.field.Field.{Field}
use Rattle.fd_proto.specs.declared.raw.Raw.{Raw}
use Rattle.fd_proto.specs.declared.raw.RawType.{RawType}
use Rattle.fd_proto.specs.declared.raw.RawSample.{RawSample}
use Rattle.fd_proto.specs.declared.raw.RawLabel.{RawLabel}
use Rattle.fd_proto.specs.declared.raw.RawLocation.{RawLocation}
use Rattle.fd_proto.specs.declared.raw.RawFunction.{RawFunction}
use Rattle.fd_proto.specs.Messages.{whole, wholes, spans, part, parts, message_in}
use Rattle.fd_proto.specs.Shape.{text_indexes, profile, flaw_between}

abbrev pub raw_type : List Field → RawType
raw_type fs = record { kind = whole 1 fs; unit = whole 2 fs }

abbrev pub raw_label : List Field → RawLabel
raw_label fs = record { key = whole 1 fs; text = whole 2 fs }

abbrev pub raw_sample : List ℕ → List Field → RawSample
raw_sample bytes fs = record { locations = wholes bytes 1 fs; values = wholes bytes 2 fs; labels = map raw_label (parts bytes 3 fs) }

abbrev pub raw_location : List ℕ → List Field → RawLocation
raw_location bytes fs = record { id = whole 1 fs; mapping = whole 2 fs; address = whole 3 fs; lines = map (whole 1) (parts bytes 4 fs) }

abbrev pub raw_function : List Field → RawFunction
raw_function fs = record { id = whole 1 fs; name = whole 2 fs }

abbrev pub raw_profile : List ℕ → List Field → Raw
raw_profile bytes fs = record {
  texts = spans 6 fs;
  indexes = text_indexes bytes profile fs;
  sample_types = map raw_type (parts bytes 1 fs);
  samples = map (raw_sample bytes) (parts bytes 2 fs);
  mappings = map (whole 1) (parts bytes 3 fs);
  locations = map (raw_location bytes) (parts bytes 4 fs);
  functions = map raw_function (parts bytes 5 fs);
  period_type = raw_type (part bytes 11 fs);
  period = whole 12 fs;
  time = whole 9 fs;
  duration = whole 10 fs;
}

-- the profile that all of the bytes are
unfoldable pub raw_of : List ℕ → Raw
raw_of bytes = raw_profile bytes (message_in bytes (record { start = 0; end = length bytes }))

-- The place of the first failure of reading: the whole field list of a message first, and then the values of its known messages and packed numbers in the order of their places, each to its full depth.
unfoldable pub profile_flaw : List ℕ → Option ℕ
profile_flaw bytes = flaw_between bytes profile 0 (length bytes)
