-- Reading from left to right, with the refusal that is met. Bytes that end inside of a run are read as far as they go.
use Rattle.std.specs.Prelude.{◌≡◌, ℕ, zero, suc, ◌+◌, ◌-◌, ◌*◌, ◌/◌, ◌%◌, ◌^◌, min, Bool, true, false, not, ◌&&◌, ◌||◌, List, [], ◌∷◌, ◌++◌, length, take, drop, replicate, Result, Ok, Err, nat_lt, nat_le, ◌==◌, if◌then◌else◌}
use Rattle.std.specs.List.{list_all}
use Rattle.fd_hybrid.specs.declared.fault.HybridFault.{HybridFault}
use Rattle.fd_hybrid.specs.declared.fault.HybridFault.TheVariants.{Cut, BadRun, OverWidth, NoMemory}
use Rattle.fd_hybrid.specs.declared.runs.Before.{Before}
use Rattle.fd_hybrid.specs.declared.runs.Before.TheVariants.{Nothing, Repeated, Packed}
use Rattle.fd_hybrid.specs.Digits.{number, digits}
use Rattle.fd_hybrid.specs.Runs.{equal_next}
use Rattle.fd_hybrid.specs.Format.{byte_count}

infixl 10 ◌>>=◌
abbrev pub ◌>>=◌ : {A B : Type 0} → Result A HybridFault → (A → Result B HybridFault) → Result B HybridFault
(Ok x) >>= f = f x
(Err e) >>= f = Err e

-- what stands behind a varint's first byte, and the bytes after it; where the bytes end, as if the byte 1 stood there
unfoldable pub tail_at : List ℕ → Result (ℕ × List ℕ) HybridFault
tail_at [] = Ok (1, [])
tail_at (b ∷ bs) =
    if b == 0 then Err BadRun
    else if nat_lt b 128 then Ok (b, bs)
    else (tail_at bs >>= λ high. Ok ((b - 128) + 128 * high.0, high.1))

-- a header, and the bytes after it
unfoldable pub header_at : List ℕ → Result (ℕ × List ℕ) HybridFault
header_at [] = Ok (1, [])
header_at (b ∷ bs) = if nat_lt b 128 then Ok (b, bs) else (tail_at bs >>= λ high. Ok ((b - 128) + 128 * high.0, high.1))

-- the same, but a number above 2 ^ 128 - 1, which no number of values reaches, is taken for that
unfoldable pub capped_at : List ℕ → Result (ℕ × List ℕ) HybridFault
capped_at bytes = header_at bytes >>= λ header. Ok (min header.0 (2 ^ 128 - 1), header.1)

-- values, and what stands before the next run with the bytes after the run
abbrev pub Piece : Type 0
Piece = List ℕ × (Before × List ℕ)

abbrev pub repeats : Before → ℕ → Bool
repeats (Repeated u) v = u == v
repeats Nothing v = false
repeats Packed v = false

unfoldable pub repeated_at : ℕ → ℕ → Before → ℕ → List ℕ → Result Piece HybridFault
repeated_at w left before n bytes =
    let value = number 8 (take (byte_count w) bytes) in
    if nat_le (byte_count w) (length bytes) && nat_le (2 ^ w) value then Err OverWidth
    else if not (nat_le 8 n && nat_le n left) then Err BadRun
    else if nat_lt (length bytes) (byte_count w) then Err Cut
    else if repeats before value then Err BadRun
    else Ok (replicate n value, (Repeated value, drop (byte_count w) bytes))

-- the next group of at most `left` values, and the bytes after it; what of it is missing counts as 0
unfoldable pub group_at : ℕ → ℕ → List ℕ → Result (List ℕ × List ℕ) HybridFault
group_at w left bytes =
    let group = digits w 8 (number 8 (take w bytes)) in
    let taken = min left 8 in
    if not (list_all (λ v. v == 0) (drop taken group)) then Err BadRun
    else if nat_lt (length bytes) w then Err Cut
    else if nat_le 8 (equal_next (take taken group)) then Err BadRun
    else Ok (take taken group, drop w bytes)

-- so many groups: their values, and the bytes after them
unfoldable pub groups_at : ℕ → ℕ → ℕ → List ℕ → Result (List ℕ × List ℕ) HybridFault
groups_at w zero left bytes = Ok ([], bytes)
groups_at w (suc m) left bytes =
    group_at w left bytes >>= λ group.
    groups_at w m (left - 8) group.1 >>= λ others.
    Ok (group.0 ++ others.0, others.1)

-- the next value is there, and is the one that the run before repeats
abbrev pub goes_on : Before → ℕ → List ℕ → Bool
goes_on before w bytes = nat_le (byte_count w) (length bytes) && repeats before (number 8 bytes % 2 ^ w)

abbrev pub is_packed : Before → Bool
is_packed Packed = true
is_packed Nothing = false
is_packed (Repeated u) = false

-- so many groups take all of the values that are left, or leave eight or more
abbrev pub fits_in : ℕ → ℕ → Bool
fits_in m left = (nat_le left (8 * m) && nat_lt (8 * m) (left + 8)) || nat_le (8 * m + 8) left

unfoldable pub packed_at : ℕ → ℕ → Before → ℕ → List ℕ → Result Piece HybridFault
packed_at w left before m bytes =
    if is_packed before || (m == 0) || not (fits_in m left) then Err BadRun
    else if goes_on before w bytes then Err BadRun
    else (groups_at w m left bytes >>= λ groups. Ok (groups.0, (Packed, groups.1)))

-- whether the first byte is even
abbrev pub is_even : List ℕ → Bool
is_even [] = false
is_even (b ∷ bs) = b % 2 == 0

-- the next run, which has at most `left` values
unfoldable pub run_at : ℕ → ℕ → Before → List ℕ → Result Piece HybridFault
run_at w left before bytes =
    capped_at bytes >>= λ header.
    if is_even bytes then repeated_at w left before (header.0 / 2) header.1 else packed_at w left before (header.0 / 2) header.1

-- run after run, at most so many, up to the end of the bytes: the values, and no bytes after them
unfoldable pub runs_at : ℕ → ℕ → ℕ → Before → List ℕ → Result (List ℕ × List ℕ) HybridFault
runs_at most w left before [] = if left == 0 then Ok ([], []) else Err Cut
runs_at zero w left before (b ∷ bs) = Err BadRun
runs_at (suc most) w left before (b ∷ bs) =
    run_at w left before (b ∷ bs) >>= λ run.
    runs_at most w (left - length run.0) run.1.0 run.1.1 >>= λ others.
    Ok (run.0 ++ others.0, others.1)

-- the values read before, and those that are read then
abbrev pub with_front : {Y : Type 0} → List ℕ → Result (List ℕ × Y) HybridFault → Result (List ℕ × Y) HybridFault
with_front front (Ok x) = Ok (front ++ x.0, x.1)
with_front front (Err e) = Err e

-- a call that takes memory refuses so, unless memory ran out
abbrev pub Fails : {A : Type 0} → HybridFault → Result A HybridFault → Type 0
Fails NoMemory read = Unit {0}
Fails e read = read ≡ Err e

-- A call that adds the values to a list answers what reading gives, unless memory ran out.
abbrev pub AppendsOrRunsOut : {X Y : Type 0} → (X → Y) → List ℕ → List ℕ → Result X HybridFault → Result (List ℕ × Y) HybridFault → Type 0
AppendsOrRunsOut view old new (Ok x) read = with_front old read ≡ Ok (new, view x)
AppendsOrRunsOut view old new (Err e) read = Fails e read

-- what a call that takes no memory answers
abbrev pub Decodes : {X Y : Type 0} → (X → Y) → Result X HybridFault → Result Y HybridFault → Type 0
Decodes view (Ok x) read = read ≡ Ok (view x)
Decodes view (Err e) read = read ≡ Err e

-- what a call answers that reads all of the bytes
abbrev pub DecodesAllOrRunsOut : Result (List ℕ) HybridFault → Result (List ℕ × List ℕ) HybridFault → Type 0
DecodesAllOrRunsOut (Ok values) read = read ≡ Ok (values, [])
DecodesAllOrRunsOut (Err e) read = Fails e read
