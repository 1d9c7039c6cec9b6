-- The refusals of a profile, each with the condition under which it holds.
use Rattle.std.specs.Prelude.{ℕ, Bool, false, not, ◌||◌, List, [], ◌∷◌, map, length, sum_by, nat_lt, nat_le, ◌==◌}
use Rattle.std.specs.List.{list_any}
use Rattle.fd_kinds.specs.RowSize.{text_size}
use Rattle.fd_proto.specs.declared.raw.Raw.{Raw}
use Rattle.fd_proto.specs.Messages.{text_in}
use Rattle.fd_pprof.specs.declared.fault.ProfileFault.{ProfileFault}
use Rattle.fd_pprof.specs.declared.fault.ProfileFault.TheVariants.{StringZero, StringIndex, ValueCount, UnknownLocation, UnknownMapping, UnknownFunction, RepeatedId}
use Rattle.fd_pprof.specs.declared.limits.TheConstants.{MOST_TEXT_BYTES, MOST_STACK_BYTES}
use Rattle.fd_pprof.specs.Ids.{is_unknown, has_repeats}

abbrev pub location_ids : Raw → List ℕ
location_ids p = map (λ l. l.id) p.locations

abbrev pub function_ids : Raw → List ℕ
function_ids p = map (λ f. f.id) p.functions

-- the string table
abbrev pub texts : List ℕ → Raw → List (List ℕ)
texts bytes p = map (text_in bytes) p.texts

-- the first text is there, and is empty
abbrev pub begins_empty : List (List ℕ) → Bool
begins_empty [] = false
begins_empty (t ∷ ts) = length t == 0

-- the frames of a sample have more bytes than they may, where each counts its bytes and four more
abbrev pub is_too_deep : List (List ℕ) → Bool
is_too_deep frames = nat_lt MOST_STACK_BYTES (sum_by text_size frames)

abbrev pub is_too_long : List ℕ → Bool
is_too_long t = nat_lt MOST_TEXT_BYTES (length t)

-- the conditions of a profile whose texts need not be UTF-8 yet
unfoldable pub plain_conditions : List (List ℕ) → Raw → List (Bool × ProfileFault)
plain_conditions ts p =
    (not (begins_empty ts), StringZero)
    ∷ (list_any (nat_le (length ts)) p.indexes, StringIndex)
    ∷ (list_any (λ s. not (length s.values == length p.sample_types)) p.samples, ValueCount)
    ∷ (list_any (λ s. list_any (λ id. (id == 0) || is_unknown (location_ids p) id) s.locations) p.samples, UnknownLocation)
    ∷ (list_any (λ l. is_unknown p.mappings l.mapping) p.locations, UnknownMapping)
    ∷ (list_any (λ l. list_any (is_unknown (function_ids p)) l.lines) p.locations, UnknownFunction)
    ∷ (has_repeats p.mappings || has_repeats (location_ids p) || has_repeats (function_ids p), RepeatedId)
    ∷ []
