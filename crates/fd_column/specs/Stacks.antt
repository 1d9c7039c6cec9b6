-- The bytes of a stack.
use Rattle.std.specs.Prelude.{ℕ, zero, suc, ◌<◌, ◌^◌, List, [], ◌∷◌, ◌++◌, length, take, drop, flat_map, All, nat_lt, if◌then◌else◌}
use Rattle.std.specs.Int.{w32, to_le_bytes, from_le_bytes}

-- a frame: its length in four bytes, little-endian, and its bytes
abbrev pub frame_bytes : List ℕ → List ℕ
frame_bytes frame = to_le_bytes w32 (length frame) ++ frame

abbrev pub stack_bytes : List (List ℕ) → List ℕ
stack_bytes frames = flat_map frame_bytes frames

-- the length of each frame has four bytes
abbrev pub AreShort : List (List ℕ) → Type 0
AreShort frames = All (λ frame. length frame < 2 ^ 32) frames

-- the number that the first four bytes spell
abbrev pub first_length : List ℕ → ℕ
first_length bytes = from_le_bytes w32 bytes

-- the frames that at most so many bytes spell
abbrev pub frames_in : ℕ → List ℕ → List (List ℕ)
frames_in zero bytes = []
frames_in (suc most) bytes =
    if nat_lt (length bytes) 4 then []
    else take (first_length bytes) (drop 4 bytes) ∷ frames_in most (drop (first_length bytes) (drop 4 bytes))

abbrev pub frames_of : List ℕ → List (List ℕ)
frames_of bytes = frames_in (length bytes) bytes
