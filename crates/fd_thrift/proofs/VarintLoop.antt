-- Reading a number byte by byte, as a loop does.
use Rattle.std.proofs.Common.{◌≡◌, ℕ, ◌+◌, ◌-◌, ◌*◌, ◌<◌, ◌≤◌, ◌^◌, Bool, true, false, List, ◌∷◌, Ok, Err, refl, sym, ap, ◌∙◌, arith}
use Rattle.std.proofs.lemmas.Nat.{pow-add}
use Rattle.std.proofs.Math.Pow.{pow_mono}
use Rattle.std.proofs.Math.Nat.{mul-le-mul_left}
use Rattle.std.proofs.lemmas.Bool.Decides.{nat_tests}
use Rattle.std.proofs.Common.{nat_lt, nat_le, ◌||◌, Err, length, drop, get_or}
use Rattle.fd_thrift.specs.Reader.{◌>>=◌}
use Rattle.fd_thrift.specs.Reader.{Reading, varint_from, varint_at}
use Rattle.std.proofs.lemmas.List.{drop_more}

-- the value read before, the weight of what is still read, and that
abbrev pub finish : ℕ → ℕ → Reading ℕ → Reading ℕ
finish value weight (Ok x) = Ok (value + weight * x.0, x.1)
finish value weight (Err e) = Err e

-- seven bits less
pub seven : (bits : ℕ) → 7 ≤ bits → 2 ^ bits ≡ 128 * 2 ^ (bits - 7)
seven bits h = let e : bits ≡ 7 + (bits - 7) = omega arith in ap (λ n. 2 ^ n) e ∙ pow-add 2 7 (bits - 7)

pub seven_or_more : (bits : ℕ) → 7 ≤ bits → 128 ≤ 2 ^ bits
seven_or_more bits h = pow_mono h

pub eight_or_more : (bits : ℕ) → 8 ≤ bits → 256 ≤ 2 ^ bits
eight_or_more bits h = pow_mono h

-- one more group stays below the whole
pub stays_below : (weight value left bits byte : ℕ) → weight * 2 ^ left ≡ 2 ^ bits → value < weight → byte < 2 ^ left → value + weight * byte < 2 ^ bits
stays_below weight value left bits byte whole below small =
    let more : byte + 1 ≤ 2 ^ left = omega arith in
    omega (arith, mul-le-mul_left weight more, whole)

pub within_64 : (bits : ℕ) → bits ≤ 64 → 2 ^ bits ≤ 2 ^ 64
within_64 bits h = pow_mono h

pub goes_on_below : (weight value left bits byte : ℕ) → weight * 2 ^ left ≡ 2 ^ bits → bits ≤ 64 → value < weight → 7 < left → byte < 256
    → (value + weight * (byte - 128) < weight * 128) × (weight * 128 < 2 ^ 64)
goes_on_below weight value left bits byte whole within below more small =
    let top : 256 ≤ 2 ^ left = eight_or_more left (omega arith) in
    let all : 2 ^ bits ≤ 2 ^ 64 = within_64 bits within in
    let high : (byte - 128) + 1 ≤ 128 = omega arith in
    (omega (arith, mul-le-mul_left weight high), omega (arith, mul-le-mul_left weight top, whole, all, below))

pub weight_left : (weight left bits : ℕ) → weight * 2 ^ left ≡ 2 ^ bits → 7 < left → weight * 128 * 2 ^ (left - 7) ≡ 2 ^ bits
weight_left weight left bits whole more = omega (arith, ap (λ n. weight * n) (seven left (omega arith)), whole)

-- a byte that others follow
one_byte : (later : Bool) (left b : ℕ) (bs : List ℕ) → 128 ≤ b → 7 < left
    → varint_from later left (b ∷ bs) ≡ (varint_from true (left - 7) bs >>= λ high. Ok ((b - 128) + 128 * high.0, high.1))
one_byte later left b bs big more =
    let top : nat_lt b 128 ≡ false = grind (arith, nat_tests) in
    let long : nat_le left 7 ≡ false = grind (arith, nat_tests) in
    rw (top, long) refl

regroup : (value weight b : ℕ) (r : Reading ℕ) → finish value weight (r >>= λ high. Ok ((b - 128) + 128 * high.0, high.1)) ≡ finish (value + weight * (b - 128)) (weight * 128) r
regroup value weight b (Ok x) =
    let e : value + weight * ((b - 128) + 128 * x.0) ≡ value + weight * (b - 128) + weight * 128 * x.0 = omega arith in
    ap (λ (n : ℕ). Ok (n, x.1)) e
regroup value weight b (Err e) = refl

-- the invariant of the loop, one byte on
pub goes_on : (later : Bool) (value weight left b k : ℕ) (bytes : List ℕ) (total : Reading ℕ) → k < length bytes → b ≡ get_or bytes k 0 → 128 ≤ b → 7 < left
    → finish value weight (varint_from later left (drop k bytes)) ≡ total
    → finish (value + weight * (b - 128)) (weight * 128) (varint_from (nat_lt 0 (k + 1)) (left - 7) (drop (k + 1) bytes)) ≡ total
goes_on later value weight left b k bytes total within here big more so_far =
    let some : nat_lt 0 (k + 1) ≡ true = grind (arith, nat_tests) in
    let first : drop k bytes ≡ b ∷ drop (k + 1) bytes = drop_more bytes k 0 within ∙ ap (λ x. x ∷ drop (k + 1) bytes) (sym here) in
    rw some (sym (regroup value weight b (varint_from true (left - 7) (drop (k + 1) bytes))) ∙ ap (finish value weight) (sym (one_byte later left b (drop (k + 1) bytes) big more)) ∙ ap (λ bs. finish value weight (varint_from later left bs)) (sym first) ∙ so_far)

pub at_first : (bits : ℕ) (bytes : List ℕ) → finish 0 1 (varint_from false bits bytes) ≡ varint_at bits bytes
unfolding varint_at
at_first bits bytes = whole (varint_from false bits bytes)
  where
    whole : (r : Reading ℕ) → finish 0 1 r ≡ r
    whole (Ok x) = let e : 0 + 1 * x.0 ≡ x.0 = omega arith in ap (λ (n : ℕ). Ok (n, x.1)) e
    whole (Err e) = refl

pub not_refused : (first : Bool) (bits b : ℕ) → first || nat_le (2 ^ bits) b ≡ false → b < 2 ^ bits
not_refused true bits b h = cc
not_refused false bits b h = grind (arith, nat_tests)
