-- Numbers that are capped while they are read.
use Rattle.std.proofs.Common.{◌≡◌, ◌≢◌, ℕ, zero, suc, ◌+◌, ◌-◌, ◌*◌, ◌%◌, ◌^◌, ◌<◌, ◌≤◌, min, List, [], ◌∷◌, length, get_or, take, drop, true, false, Bool, IsTrue, ◌↔◌, Result, Ok, Err, nat_lt, ◌==◌, refl, sym, ap, ◌∙◌, arith, add-one, inl, inr}
use Rattle.std.proofs.Math.Nat.{mul-le-mul_left, one-le-pow, pow-suc}
use Rattle.std.proofs.Math.Seq.{drop-cons}
use Rattle.std.proofs.Math.ListN.{drop_of_length-le}
use Rattle.std.proofs.lemmas.Bool.{cases_lt}
use Rattle.std.proofs.lemmas.Grind.{common_steps}
use Rattle.std.proofs.lemmas.Bool.Decides.{nat_tests}
use Rattle.fd_hybrid.specs.declared.fault.HybridFault.{HybridFault}
use Rattle.fd_hybrid.specs.declared.fault.HybridFault.TheVariants.{BadRun}
use Rattle.fd_hybrid.specs.Unpacker.{◌>>=◌, header_at, tail_at, capped_at}

power_pos : (k : ℕ) → 0 < 128 ^ k
power_pos k = one-le-pow k 128 (omega arith)

-- what is read from the place k on, where the first byte may be 0
abbrev pub part : ℕ → List ℕ → Result (ℕ × List ℕ) HybridFault
part zero bytes = header_at bytes
part (suc k) bytes = tail_at bytes

-- the value read before, the weight of what is still read, and that
abbrev pub finish : ℕ → ℕ → Result (ℕ × List ℕ) HybridFault → Result (ℕ × List ℕ) HybridFault
finish value weight read = read >>= λ x. Ok (value + weight * x.0, x.1)

-- a capped product and sum are the product and the sum, capped
pub capped : (p w d m product sum number weight : ℕ) → 0 < w → number ≡ min p m → weight ≡ min w m
    → product ≡ min (weight * d) m → sum ≡ min (number + product) m → sum ≡ min (p + w * d) m
capped p w zero m product sum number weight some np nw ep es = omega arith
capped p w (suc d) m product sum number weight some np nw ep es =
    elim (cases_lt m w) [
      | inl over ↦
          let full : weight ≡ m = omega arith in
          let product_is : product ≡ min (m * suc d) m = ep ∙ ap (λ k. min (k * suc d) m) full in
          let one : m * 1 ≤ m * suc d = mul-le-mul_left m (omega arith) in
          let more : w * 1 ≤ w * suc d = mul-le-mul_left w (omega arith) in
          omega (arith, product_is, one, more, es, np)
      | inr within ↦
          let exact : weight ≡ w = omega arith in
          let product_is : product ≡ min (w * suc d) m = ep ∙ ap (λ k. min (k * suc d) m) exact in
          omega (arith, product_is, es, np)
    ]

-- the numbers up to 2 ^ 128 - 1
abbrev pub most : ℕ
most = 2 ^ 128 - 1

front : (k : ℕ) (bytes : List ℕ) → k < length bytes → drop k bytes ≡ get_or bytes k 0 ∷ drop (k + 1) bytes
front k bytes lt = drop-cons bytes k 0 lt ∙ ap (λ j. get_or bytes k 0 ∷ drop j bytes) (sym (add-one k))

zero_ends : (k b : ℕ) (rest : List ℕ) → 0 < k → b ≡ 0 → part k (b ∷ rest) ≡ Err BadRun
unfolding tail_at
zero_ends zero b rest lt e = absurd (omega arith)
zero_ends (suc k) b rest lt e = rw e refl

is_zero : (b : ℕ) → b ≢ 0 → (b == 0) ≡ false
is_zero b h = grind (arith, nat_tests)

last : (b : ℕ) → b < 128 → nat_lt b 128 ≡ true
last b h = grind (arith, nat_tests)

not_last : (b : ℕ) → 128 ≤ b → nat_lt b 128 ≡ false
not_last b h = grind (arith, nat_tests)

ends : (k b : ℕ) (rest : List ℕ) → (b ≡ 0 → k ≡ 0) → b < 128 → part k (b ∷ rest) ≡ Ok (b, rest)
unfolding header_at tail_at
ends zero b rest some lt = rw (last b lt) refl
ends (suc k) b rest some lt = let ne : b ≢ 0 = λ e. absurd (omega (arith, some e)) in rw (is_zero b ne, last b lt) refl

-- what a byte that another follows adds
abbrev pub joined : ℕ → Result (ℕ × List ℕ) HybridFault → Result (ℕ × List ℕ) HybridFault
joined b read = read >>= λ high. Ok ((b - 128) + 128 * high.0, high.1)

goes_on : (k b : ℕ) (rest : List ℕ) → 128 ≤ b → part k (b ∷ rest) ≡ joined b (tail_at rest)
unfolding header_at tail_at
goes_on zero b rest le = rw (not_last b le) refl
goes_on (suc k) b rest le = let ne : b ≢ 0 = λ e. absurd (omega (arith, e)) in rw (is_zero b ne, not_last b le) refl

finish_joined : (p w b : ℕ) (read : Result (ℕ × List ℕ) HybridFault) → finish p w (joined b read) ≡ finish (p + w * (b - 128)) (w * 128) read
finish_joined p w b (Ok x) = let e : p + w * ((b - 128) + 128 * x.0) ≡ (p + w * (b - 128)) + w * 128 * x.0 = omega arith in ap (λ n. Ok (n, x.1)) e
finish_joined p w b (Err e) = refl

pub zero_found : (p k : ℕ) (bytes : List ℕ) → k < length bytes → 0 < k → get_or bytes k 0 ≡ 0
    → finish p (128 ^ k) (part k (drop k bytes)) ≡ header_at bytes → capped_at bytes ≡ Err BadRun
unfolding capped_at
zero_found p k bytes lt some e before =
    let read : header_at bytes ≡ Err BadRun = sym before ∙ ap (λ xs. finish p (128 ^ k) (part k xs)) (front k bytes lt) ∙ ap (finish p (128 ^ k)) (zero_ends k (get_or bytes k 0) (drop (k + 1) bytes) some e) in
    ap (λ r. r >>= λ header. Ok (min header.0 (2 ^ 128 - 1), header.1)) read

pub last_found : (p k number weight b product sum : ℕ) (bytes : List ℕ) → k < length bytes → b ≡ get_or bytes k 0 → (b ≡ 0 → k ≡ 0) → b < 128
    → number ≡ min p most → weight ≡ min (128 ^ k) most → product ≡ min (weight * (b % 128)) most → sum ≡ min (number + product) most
    → finish p (128 ^ k) (part k (drop k bytes)) ≡ header_at bytes → capped_at bytes ≡ Ok (sum, drop (k + 1) bytes)
unfolding capped_at
last_found p k number weight b product sum bytes lt is some small np nw ep es before =
    let rest : List ℕ = drop (k + 1) bytes in
    let one : part k (drop k bytes) ≡ Ok (b, rest) = ap (part k) (front k bytes lt) ∙ ap (λ y. part k (y ∷ rest)) (sym is) ∙ ends k b rest some small in
    let read : header_at bytes ≡ Ok (p + 128 ^ k * b, rest) = sym before ∙ ap (finish p (128 ^ k)) one in
    let digit : b % 128 ≡ b = omega arith in
    let total : sum ≡ min (p + 128 ^ k * b) most = capped p (128 ^ k) b most product sum number weight (power_pos k) np nw (ep ∙ ap (λ d. min (weight * d) most) digit) es in
    ap (λ r. r >>= λ header. Ok (min header.0 (2 ^ 128 - 1), header.1)) read ∙ ap (λ n. Ok (n, rest)) (sym total)

pub more_found : (p k number weight b product sum : ℕ) (bytes : List ℕ) → k < length bytes → b ≡ get_or bytes k 0 → 128 ≤ b → b < 256
    → number ≡ min p most → weight ≡ min (128 ^ k) most → product ≡ min (weight * (b % 128)) most → sum ≡ min (number + product) most
    → finish p (128 ^ k) (part k (drop k bytes)) ≡ header_at bytes
    → (exact : ℕ) × (sum ≡ min exact most) × (finish exact (128 ^ (k + 1)) (part (k + 1) (drop (k + 1) bytes)) ≡ header_at bytes)
more_found p k number weight b product sum bytes lt is large byte np nw ep es before =
    let rest : List ℕ = drop (k + 1) bytes in
    let digit : b % 128 ≡ b - 128 = omega arith in
    let total : sum ≡ min (p + 128 ^ k * (b - 128)) most = capped p (128 ^ k) (b - 128) most product sum number weight (power_pos k) np nw (ep ∙ ap (λ d. min (weight * d) most) digit) es in
    let one : part k (drop k bytes) ≡ joined b (tail_at rest) = ap (part k) (front k bytes lt) ∙ ap (λ y. part k (y ∷ rest)) (sym is) ∙ goes_on k b rest large in
    let read : finish p (128 ^ k) (part k (drop k bytes)) ≡ finish (p + 128 ^ k * (b - 128)) (128 ^ k * 128) (tail_at rest) = ap (finish p (128 ^ k)) one ∙ finish_joined p (128 ^ k) b (tail_at rest) in
    let weights : 128 ^ k * 128 ≡ 128 ^ (k + 1) = sym (pow-suc 128 k) ∙ ap (λ j. 128 ^ j) (sym (add-one k)) in
    let parts : tail_at rest ≡ part (k + 1) rest = ap (λ j. part j rest) (sym (add-one k)) in (
      p + 128 ^ k * (b - 128),
      total,
      ap (λ r. finish (p + 128 ^ k * (b - 128)) (128 ^ (k + 1)) r) (sym parts) ∙ ap (λ w. finish (p + 128 ^ k * (b - 128)) w (tail_at rest)) (sym weights) ∙ sym read ∙ before,
    )

pub weight_more : (k weight more : ℕ) → weight ≡ min (128 ^ k) most → more ≡ min (weight * 128) most → more ≡ min (128 ^ (k + 1)) most
weight_more k weight more nw em = let e : 128 ^ (k + 1) ≡ 128 ^ k * 128 = ap (λ j. 128 ^ j) (add-one k) ∙ pow-suc 128 k in omega (arith, e)

ends_early : (k : ℕ) → part k [] ≡ Ok (1, [])
unfolding header_at tail_at
ends_early zero = refl
ends_early (suc k) = refl

pub end_found : (p k number weight sum : ℕ) (bytes : List ℕ) → length bytes ≤ k
    → number ≡ min p most → weight ≡ min (128 ^ k) most → sum ≡ min (number + weight) most
    → finish p (128 ^ k) (part k (drop k bytes)) ≡ header_at bytes → capped_at bytes ≡ Ok (sum, [])
unfolding capped_at
end_found p k number weight sum bytes past np nw es before =
    let none : drop k bytes ≡ [] = drop_of_length-le bytes past in
    let read : header_at bytes ≡ Ok (p + 128 ^ k * 1, []) = sym before ∙ ap (λ xs. finish p (128 ^ k) (part k xs)) none ∙ ap (finish p (128 ^ k)) (ends_early k) in
    let total : sum ≡ min (p + 128 ^ k * 1) most = omega (arith, np, nw, es) in
    ap (λ r. r >>= λ header. Ok (min header.0 (2 ^ 128 - 1), header.1)) read ∙ ap (λ n. Ok (n, [])) (sym total)

pub whole_rest : (k : ℕ) (bytes : List ℕ) → take (length bytes - k) (drop k bytes) ≡ drop k bytes
whole_rest k bytes = grind (arith, common_steps)

pub no_rest : (bytes : List ℕ) → take (length bytes - length bytes) (drop (length bytes) bytes) ≡ []
no_rest bytes = whole_rest (length bytes) bytes ∙ drop_of_length-le bytes (omega arith)

-- a byte that is not needless is not 0, or is the first
pub none_before : (b k : ℕ) (r : Bool) → IsTrue r ↔ ((b ≡ 0) × (0 < k)) → r ≡ false → b ≡ 0 → k ≡ 0
none_before b zero r h other e = refl
none_before b (suc k) r h other e = let both : r ≡ true = h.1 (e, omega arith) in cc
