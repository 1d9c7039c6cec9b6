-- The meaning of a profile, and its refusals.
use Rattle.std.specs.Prelude.{ℕ, ℤ, Bool, not, List, [], ◌∷◌, ◌++◌, map, Option, Some, None, nat_eq, if◌then◌else◌}
use Rattle.std.specs.Int.{w64, cast_signed}
use Rattle.std.specs.List.{list_any, starts_with}
use Rattle.std.specs.Str.{is_utf8}
use Rattle.fd_kinds.specs.declared.pair.Pair.{Pair}
use Rattle.fd_kinds.specs.LabelsOf.{labels_of}
use Rattle.fd_proto.specs.declared.raw.Raw.{Raw}
use Rattle.fd_proto.specs.declared.raw.RawType.{RawType}
use Rattle.fd_proto.specs.declared.raw.RawSample.{RawSample}
use Rattle.fd_proto.specs.declared.raw.RawLabel.{RawLabel}
use Rattle.fd_proto.specs.Raw.{profile_flaw, raw_of}
use Rattle.fd_pprof.specs.declared.profile.Profile.{Profile}
use Rattle.fd_pprof.specs.declared.profile.ValueType.{ValueType}
use Rattle.fd_pprof.specs.declared.profile.Sample.{Sample}
use Rattle.fd_pprof.specs.declared.fault.ProfileFault.{ProfileFault}
use Rattle.fd_pprof.specs.declared.fault.ProfileFault.TheVariants.{Compressed, Wire, NotUtf8, TooDeep, LongText}
use Rattle.fd_pprof.specs.Frames.{text, stack}
use Rattle.fd_pprof.specs.Conditions.{texts, plain_conditions, is_too_deep, is_too_long}

-- the refusals of a profile whose messages are read, by rising number, each with its condition
unfoldable pub conditions : List (List ℕ) → Raw → List (Bool × ProfileFault)
conditions ts p =
    plain_conditions ts p
    ++ (list_any (λ t. not (is_utf8 t)) ts, NotUtf8)
    ∷ (list_any (λ s. is_too_deep (stack ts p s)) p.samples, TooDeep)
    ∷ (list_any is_too_long ts, LongText)
    ∷ []

-- the first whose condition holds
abbrev pub first_of : List (Bool × ProfileFault) → Option ProfileFault
first_of [] = None
first_of (c ∷ cs) = if c.0 then Some c.1 else first_of cs

-- the first refusal of a profile whose messages are read
unfoldable pub messages_refusal : List ℕ → Raw → Option ProfileFault
messages_refusal bytes p = first_of (conditions (texts bytes p) p)

abbrev pub wire_refusal : Option ℕ → Option ProfileFault → Option ProfileFault
wire_refusal (Some at) others = Some (Wire at)
wire_refusal None others = others

-- what gzip begins with
abbrev pub is_compressed : List ℕ → Bool
is_compressed bytes = starts_with nat_eq bytes (31 ∷ 139 ∷ [])

-- the refusal with the least number whose condition holds
unfoldable pub profile_refusal : List ℕ → Option ProfileFault
profile_refusal bytes =
    if is_compressed bytes then Some Compressed
    else wire_refusal (profile_flaw bytes) (messages_refusal bytes (raw_of bytes))

-- a whole number in two's complement
abbrev pub signed : ℕ → ℤ
signed n = cast_signed w64 n

abbrev pub value_type_of : List (List ℕ) → RawType → ValueType
value_type_of ts t = record { kind = text ts t.kind; unit = text ts t.unit }

abbrev pub pair_of : List (List ℕ) → RawLabel → Pair
pair_of ts l = record { name = text ts l.key; value = text ts l.text }

-- a label without a key or a text is left out, and the last of a key wins
abbrev pub sample_of : List (List ℕ) → Raw → RawSample → Sample
sample_of ts p s = record { stack = stack ts p s; values = map signed s.values; labels = labels_of (map (pair_of ts) s.labels) }

abbrev pub profile_from : List (List ℕ) → Raw → Profile
profile_from ts p = record {
  sample_types = map (value_type_of ts) p.sample_types;
  samples = map (sample_of ts p) p.samples;
  period_type = value_type_of ts p.period_type;
  period = signed p.period;
  time_nanos = signed p.time;
  duration_nanos = signed p.duration;
}

-- the profile that the bytes mean
unfoldable pub profile_of : List ℕ → Profile
profile_of bytes = profile_from (texts bytes (raw_of bytes)) (raw_of bytes)
