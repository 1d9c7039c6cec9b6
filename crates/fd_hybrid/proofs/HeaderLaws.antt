-- A header is read exactly where it is spelled, and what begins one is read as if the byte 1 ended it.
use Rattle.std.proofs.Common.{◌≡◌, ◌≢◌, ℕ, suc, ◌+◌, ◌-◌, ◌*◌, ◌%◌, ◌<◌, ◌≤◌, min, false, ◌⊎◌, inl, inr, List, [], ◌∷◌, ◌++◌, Result, Ok, Err, nat_lt, ◌==◌, if◌then◌else◌, refl, sym, ap, ◌∙◌, subst, arith}
use Rattle.std.proofs.lemmas.Bool.{cases_lt}
use Rattle.std.proofs.lemmas.Bool.Decides.{nat_tests}
use Rattle.fd_hybrid.specs.declared.fault.HybridFault.{HybridFault}
use Rattle.fd_hybrid.specs.declared.fault.HybridFault.TheVariants.{BadRun}
use Rattle.fd_hybrid.specs.Format.{IsVarint}
use Rattle.fd_hybrid.specs.Unpacker.{◌>>=◌, header_at, tail_at, capped_at, is_even}
use Rattle.fd_hybrid.proofs.Headers.{most}
use Rattle.fd_hybrid.proofs.Varints.{longer}
use Rattle.fd_hybrid.proofs.GroupLaws.{IsBytes, lt_true, lt_false}
use Rattle.fd_hybrid.proofs.GroupReads.{chosen, not_ok, was_ok, lt_of, ge_of}
use Rattle.fd_hybrid.proofs.GroupEnds.{err_is}
use Rattle.fd_hybrid.proofs.Loops.{ok_is}

-- what a byte that another follows adds
abbrev joined : ℕ → Result (ℕ × List ℕ) HybridFault → Result (ℕ × List ℕ) HybridFault
joined b read = read >>= λ high. Ok ((b - 128) + 128 * high.0, high.1)

not_zero : (b : ℕ) → 0 < b → (b == 0) ≡ false
not_zero b h = grind (arith, nat_tests)

tail-last : (b : ℕ) (rest : List ℕ) → 0 < b → b < 128 → tail_at (b ∷ rest) ≡ Ok (b, rest)
unfolding tail_at
tail-last b rest some lt = rw (not_zero b some, lt_true b 128 lt) refl

tail-more : (b : ℕ) (rest : List ℕ) → 128 ≤ b → tail_at (b ∷ rest) ≡ joined b (tail_at rest)
unfolding tail_at
tail-more b rest le = let some : 0 < b = omega arith in rw (not_zero b some, lt_false b 128 le) refl

tail-none : tail_at [] ≡ Ok (1, [])
unfolding tail_at
tail-none = refl

header-none : header_at [] ≡ Ok (1, [])
unfolding header_at
header-none = refl

header-last : (b : ℕ) (rest : List ℕ) → b < 128 → header_at (b ∷ rest) ≡ Ok (b, rest)
unfolding header_at
header-last b rest lt = rw (lt_true b 128 lt) refl

header-more : (b : ℕ) (rest : List ℕ) → 128 ≤ b → header_at (b ∷ rest) ≡ joined b (tail_at rest)
unfolding header_at
header-more b rest le = rw (lt_false b 128 le) refl

value_is : (b high n : ℕ) → 128 ≤ b → n + 128 ≡ b + 128 * high → (b - 128) + 128 * high ≡ n
value_is b high n le e = omega arith

tail_ok : (tail rest : List ℕ) (n : ℕ) → IsVarint tail n → 0 < n → tail_at (tail ++ rest) ≡ Ok (n, rest)
tail_ok [] rest n h some = absurd h
tail_ok (b ∷ []) rest n h some = tail-last b rest (omega (arith, h.1)) h.0 ∙ ap (λ m. Ok (m, rest)) (sym h.1)
tail_ok (b ∷ c ∷ bs) rest n h some =
    tail-more b (c ∷ bs ++ rest) h.0 ∙ ap (joined b) (tail_ok (c ∷ bs) rest h.2 h.5 h.3) ∙ ap (λ m. Ok (m, rest)) (value_is b h.2 n h.0 h.4)

pub header_ok : (header rest : List ℕ) (n : ℕ) → IsVarint header n → header_at (header ++ rest) ≡ Ok (n, rest)
header_ok [] rest n h = absurd h
header_ok (b ∷ []) rest n h = header-last b rest h.0 ∙ ap (λ m. Ok (m, rest)) (sym h.1)
header_ok (b ∷ c ∷ bs) rest n h =
    header-more b (c ∷ bs ++ rest) h.0 ∙ ap (joined b) (tail_ok (c ∷ bs) rest h.2 h.5 h.3) ∙ ap (λ m. Ok (m, rest)) (value_is b h.2 n h.0 h.4)

-- what begins the rest of a varint is read as a number that is no greater
record TailCut (bytes : List ℕ) (n : ℕ) : Type 0 where
  number : ℕ
  some : 0 < number
  within : number ≤ n
  read : tail_at bytes ≡ Ok (number, [])

tail_cut : (bytes y : List ℕ) (n : ℕ) → IsVarint (bytes ++ y) n → y ≢ [] → 0 < n → TailCut bytes n
tail_cut [] y n h more some = record { number = 1; some = omega arith; within = omega arith; read = tail-none }
tail_cut (b ∷ []) [] n h more some = absurd (more refl)
tail_cut (b ∷ []) (z ∷ y) n h more some =
    let high : ℕ = h.2 in
    let e : (b - 128) + 128 * high ≡ n = value_is b high n h.0 h.4 in
    record {
      number = (b - 128) + 128 * 1;
      some = omega arith;
      within = omega (arith, h.3);
      read = tail-more b [] h.0 ∙ ap (joined b) tail-none;
    }
tail_cut (b ∷ c ∷ bs) y n h more some =
    let high : ℕ = h.2 in
    let e : (b - 128) + 128 * high ≡ n = value_is b high n h.0 h.4 in
    let rest = tail_cut (c ∷ bs) y high h.5 more h.3 in
    record {
      number = (b - 128) + 128 * rest.number;
      some = omega (arith, rest.some);
      within = omega (arith, rest.within);
      read = tail-more b (c ∷ bs) h.0 ∙ ap (joined b) rest.read;
    }

-- what begins a header is read as the same number, or as a smaller one with the same low bits
pub record HeaderCut (bytes : List ℕ) (n : ℕ) : Type 0 where
  pub number : ℕ
  pub least : 128 ≤ number
  pub near : (number ≡ n) ⊎ (number + 128 ≤ n)
  pub read : header_at bytes ≡ Ok (number, [])

cut_from : (b high low n : ℕ) (bytes : List ℕ) → 0 < low → low ≤ high → (b - 128) + 128 * high ≡ n → header_at bytes ≡ Ok ((b - 128) + 128 * low, []) → HeaderCut bytes n
cut_from b high low n bytes some le e read = record { number = (b - 128) + 128 * low; least = omega arith; near = near; read = read }
  where
    near : ((b - 128) + 128 * low ≡ n) ⊎ (((b - 128) + 128 * low) + 128 ≤ n)
    near = elim (cases_lt low high) [ inl lt ↦ inr (omega arith) | inr ge ↦ inl (omega arith) ]

pub header_cut : (bytes y : List ℕ) (n : ℕ) → IsVarint (bytes ++ y) n → bytes ≢ [] → y ≢ [] → HeaderCut bytes n
header_cut [] y n h begun more = absurd (begun refl)
header_cut (b ∷ []) [] n h begun more = absurd (more refl)
header_cut (b ∷ []) (z ∷ y) n h begun more = cut_from b h.2 1 n (b ∷ []) (omega arith) h.3 (value_is b h.2 n h.0 h.4) (header-more b [] h.0 ∙ ap (joined b) tail-none)
header_cut (b ∷ c ∷ bs) y n h begun more =
    let rest = tail_cut (c ∷ bs) y h.2 h.5 more h.3 in
    cut_from b h.2 rest.number n (b ∷ c ∷ bs) rest.some rest.within (value_is b h.2 n h.0 h.4) (header-more b (c ∷ bs) h.0 ∙ ap (joined b) rest.read)

-- the header that was read, whole or ended by the byte 1
pub record HeaderRead (bytes : List ℕ) (n : ℕ) (rest : List ℕ) : Type 0 where
  pub header : List ℕ
  pub is : IsVarint header n
  pub ends : (bytes ≡ header ++ rest) ⊎ ((rest ≡ []) × (bytes ++ 1 ∷ [] ≡ header))

record TailRead (bytes : List ℕ) (n : ℕ) (rest : List ℕ) : Type 0 where
  whole : HeaderRead bytes n rest
  some : 0 < n

more_read : (b high n : ℕ) (bs rest : List ℕ) → 128 ≤ b → b < 256 → (b - 128) + 128 * high ≡ n → TailRead bs high rest → HeaderRead (b ∷ bs) n rest
more_read b high n bs rest big byte e t = record {
  header = b ∷ t.whole.header;
  is = longer b high n t.whole.header big byte t.some (omega arith) t.whole.is;
  ends = ends t.whole.ends;
}
  where
    ends : (bs ≡ t.whole.header ++ rest) ⊎ ((rest ≡ []) × (bs ++ 1 ∷ [] ≡ t.whole.header)) → (b ∷ bs ≡ (b ∷ t.whole.header) ++ rest) ⊎ ((rest ≡ []) × ((b ∷ bs) ++ 1 ∷ [] ≡ b ∷ t.whole.header))
    ends (inl p) = inl (ap (λ xs. b ∷ xs) p)
    ends (inr p) = inr (p.0, ap (λ xs. b ∷ xs) p.1)

after_byte : (b : ℕ) (r : Result (ℕ × List ℕ) HybridFault) (x : ℕ × List ℕ) → joined b r ≡ Ok x → (high : ℕ × List ℕ) × (r ≡ Ok high) × ((b - 128) + 128 * high.0 ≡ x.0) × (high.1 ≡ x.1)
after_byte b (Ok high) x h =
    let e : ((b - 128) + 128 * high.0, high.1) ≡ x = ok_is ((b - 128) + 128 * high.0, high.1) x h in
    (high, refl, ap (λ (p : ℕ × List ℕ). p.0) e, ap (λ (p : ℕ × List ℕ). p.1) e)
after_byte b (Err e) x h = absurd (not_ok e x h)

zero_no : (b : ℕ) → (b == 0) ≡ false → 0 < b
zero_no b h = grind (arith, nat_tests)

tail-by : (b : ℕ) (bs : List ℕ) → tail_at (b ∷ bs) ≡ (if b == 0 then Err BadRun else if nat_lt b 128 then Ok (b, bs) else joined b (tail_at bs))
unfolding tail_at
tail-by b bs = refl

header-by : (b : ℕ) (bs : List ℕ) → header_at (b ∷ bs) ≡ (if nat_lt b 128 then Ok (b, bs) else joined b (tail_at bs))
unfolding header_at
header-by b bs = refl

tail_found : (bytes : List ℕ) (x : ℕ × List ℕ) → IsBytes bytes → tail_at bytes ≡ Ok x → TailRead bytes x.0 x.1
tail_found [] x fit h =
    let e : (1, []) ≡ x = ok_is (1, []) x (sym tail-none ∙ h) in
    let n : 1 ≡ x.0 = ap (λ (p : ℕ × List ℕ). p.0) e in
    record {
      whole = record { header = 1 ∷ []; is = (omega arith, sym n); ends = inr (sym (ap (λ (p : ℕ × List ℕ). p.1) e), refl) };
      some = omega arith;
    }
tail_found (b ∷ bs) x fit h =
    elim (chosen (b == 0) _ _ _ (sym (tail-by b bs) ∙ h)) [
      | inl p ↦ absurd (not_ok BadRun x p.1)
      | inr p ↦ elim (chosen (nat_lt b 128) _ _ _ p.1) [
        | inl q ↦
            let e : (b, bs) ≡ x = ok_is (b, bs) x q.1 in
            let n : b ≡ x.0 = ap (λ (p : ℕ × List ℕ). p.0) e in
            record {
              whole = record { header = b ∷ []; is = (lt_of b 128 q.0, sym n); ends = inl (ap (λ xs. b ∷ xs) (ap (λ (p : ℕ × List ℕ). p.1) e)) };
              some = omega (arith, zero_no b p.0);
            }
        | inr q ↦
            let a = after_byte b (tail_at bs) x q.1 in
            let t = tail_found bs a.0 (λ i. fit (suc i)) a.1 in
            let big = ge_of b 128 q.0 in
            record {
              whole = subst (λ (rest : List ℕ). HeaderRead (b ∷ bs) x.0 rest) a.3 (more_read b a.0.0 x.0 bs a.0.1 big (fit 0) a.2 t);
              some = omega (arith, a.2, t.some);
            }
      ]
    ]

pub header_found : (bytes : List ℕ) (x : ℕ × List ℕ) → IsBytes bytes → bytes ≢ [] → header_at bytes ≡ Ok x → HeaderRead bytes x.0 x.1
header_found [] x fit begun h = absurd (begun refl)
header_found (b ∷ bs) x fit begun h =
    elim (chosen (nat_lt b 128) _ _ _ (sym (header-by b bs) ∙ h)) [
      | inl q ↦
          let e : (b, bs) ≡ x = ok_is (b, bs) x q.1 in
          let n : b ≡ x.0 = ap (λ (p : ℕ × List ℕ). p.0) e in
          record { header = b ∷ []; is = (lt_of b 128 q.0, sym n); ends = inl (ap (λ xs. b ∷ xs) (ap (λ (p : ℕ × List ℕ). p.1) e)) }
      | inr q ↦
          let a = after_byte b (tail_at bs) x q.1 in
          let t = tail_found bs a.0 (λ i. fit (suc i)) a.1 in
          subst (λ (rest : List ℕ). HeaderRead (b ∷ bs) x.0 rest) a.3 (more_read b a.0.0 x.0 bs a.0.1 (ge_of b 128 q.0) (fit 0) a.2 t)
    ]

even_test : (b n : ℕ) → b % 2 ≡ n % 2 → (b % 2 == 0) ≡ (n % 2 == 0)
even_test b n e = ap (λ k. k == 0) e

-- the low bit of a number is that of its first byte
pub parity : (header rest : List ℕ) (n : ℕ) → IsVarint header n → is_even (header ++ rest) ≡ (n % 2 == 0)
parity [] rest n h = absurd h
parity (b ∷ []) rest n h = even_test b n (ap (λ k. k % 2) (sym h.1))
parity (b ∷ c ∷ bs) rest n h = even_test b n (omega (arith, h.0, h.4))

-- the number, capped
pub capped_of : (bytes : List ℕ) (n : ℕ) (rest : List ℕ) → header_at bytes ≡ Ok (n, rest) → capped_at bytes ≡ Ok (min n most, rest)
unfolding capped_at
capped_of bytes n rest h = ap (λ r. r >>= λ header. Ok (min header.0 most, header.1)) h

pub capped_found : (bytes : List ℕ) (x : ℕ × List ℕ) → capped_at bytes ≡ Ok x → (n : ℕ) × (header_at bytes ≡ Ok (n, x.1)) × (x.0 ≡ min n most)
unfolding capped_at
capped_found bytes x h = go (header_at bytes) refl h
  where
    go : (r : Result (ℕ × List ℕ) HybridFault) → header_at bytes ≡ r → (r >>= λ header. Ok (min header.0 most, header.1)) ≡ Ok x → (n : ℕ) × (header_at bytes ≡ Ok (n, x.1)) × (x.0 ≡ min n most)
    go (Err e) read h = absurd (not_ok e x h)
    go (Ok y) read h =
        let e : (min y.0 most, y.1) ≡ x = ok_is (min y.0 most, y.1) x h in
        (y.0, read ∙ ap (λ (rest : List ℕ). Ok (y.0, rest)) (ap (λ (p : ℕ × List ℕ). p.1) e), sym (ap (λ (p : ℕ × List ℕ). p.0) e))

pub capped_refused : (bytes : List ℕ) (e : HybridFault) → capped_at bytes ≡ Err e → header_at bytes ≡ Err e
unfolding capped_at
capped_refused bytes e h = go (header_at bytes) refl h
  where
    go : (r : Result (ℕ × List ℕ) HybridFault) → header_at bytes ≡ r → ◌>>=◌ {B = ℕ × List ℕ} r (λ header. Ok (min header.0 most, header.1)) ≡ Err e → header_at bytes ≡ Err e
    go (Err d) read h = read ∙ h
    go (Ok y) read h = absurd (was_ok e (min y.0 most, y.1) h)

joined_refused : (b : ℕ) (r : Result (ℕ × List ℕ) HybridFault) → (e : HybridFault) → joined b r ≡ Err e → r ≡ Err e
joined_refused b (Ok x) e h = absurd (was_ok e ((b - 128) + 128 * x.0, x.1) h)
joined_refused b (Err d) e h = h

tail_refused : (bytes : List ℕ) (e : HybridFault) → tail_at bytes ≡ Err e → e ≡ BadRun
tail_refused [] e h = absurd (was_ok e (1, []) (sym tail-none ∙ h))
tail_refused (b ∷ bs) e h =
    elim (chosen (b == 0) _ _ _ (sym (tail-by b bs) ∙ h)) [
      | inl p ↦ sym (err_is BadRun e p.1)
      | inr p ↦ elim (chosen (nat_lt b 128) _ _ _ p.1) [
        | inl q ↦ absurd (was_ok e (b, bs) q.1)
        | inr q ↦ tail_refused bs e (joined_refused b (tail_at bs) e q.1)
      ]
    ]

-- a header is refused for its length alone
pub header_refused : (bytes : List ℕ) (e : HybridFault) → header_at bytes ≡ Err e → e ≡ BadRun
header_refused [] e h = absurd (was_ok e (1, []) (sym header-none ∙ h))
header_refused (b ∷ bs) e h =
    elim (chosen (nat_lt b 128) _ _ _ (sym (header-by b bs) ∙ h)) [
      | inl q ↦ absurd (was_ok e (b, bs) q.1)
      | inr q ↦ tail_refused bs e (joined_refused b (tail_at bs) e q.1)
    ]
