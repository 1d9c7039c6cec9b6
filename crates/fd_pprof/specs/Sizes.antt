-- The bytes of frames as a counter of 64 bits holds them.
use Rattle.std.specs.Prelude.{ℕ, ◌+◌, ◌-◌, ◌^◌, min, List, map, length, sum_by}
use Rattle.fd_kinds.specs.RowSize.{text_size}
use Rattle.fd_proto.specs.declared.raw.Raw.{Raw}
use Rattle.fd_pprof.specs.declared.profile.ValueType.{ValueType}
use Rattle.fd_pprof.specs.Frames.{location_frames}

-- each frame with four bytes more, and the greatest number where that is more
abbrev pub frames_size : List (List ℕ) → ℕ
frames_size frames = min (sum_by text_size frames) (2 ^ 64 - 1)

-- the bytes of the frames of each location
abbrev pub location_sizes : List (List ℕ) → Raw → List ℕ
location_sizes texts p = map (λ l. frames_size (location_frames texts p l)) p.locations

-- the bytes of the texts of a type
abbrev pub type_size : ValueType → ℕ
type_size t = min (length t.kind + length t.unit) (2 ^ 64 - 1)
