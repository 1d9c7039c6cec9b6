-- What is written against the reader's grammar.
use Rattle.std.proofs.Common.{ℕ, zero, suc, ◌≡◌, ◌+◌, ◌*◌, ◌/◌, ◌%◌, ◌<◌, ◌≤◌, ◌^◌, Bool, true, false, List, [], ◌∷◌, ◌++◌, length, refl, sym, ◌∙◌, arith, append_assoc, length-append, nat_lt, if◌then◌else◌}
use Rattle.std.proofs.lemmas.Bool.Decides.{nat_tests}
use Rattle.std.proofs.lemmas.List.{append-nil}
use Rattle.fd_wire.specs.Grammar.{IsVarintFrom, IsVarint, Spells}
use Rattle.fd_gen.specs.Fields.{varint, varint_within, key, item, span, IsFieldNumber, number_read, span_read}

-- a byte before others
longer : (k b high : ℕ) (bytes : List ℕ) (n : ℕ) → 128 ≤ b → k < 9 → n + 128 ≡ b + 128 * high → IsVarintFrom (k + 1) bytes high → IsVarintFrom k (b ∷ bytes) n
longer k b high [] n top within whole rest = absurd rest
longer k b high (c ∷ bytes) n top within whole rest = (top, within, high, whole, rest)

by_size : (most k n : ℕ) → k + suc most ≡ 9 → (b : Bool) → nat_lt n 128 ≡ b → IsVarintFrom (k + 1) (varint_within most (n / 128)) (n / 128)
    → IsVarintFrom k (if b then n ∷ [] else (128 + n % 128) ∷ varint_within most (n / 128)) n
by_size most k n places true e rest = let less : n < 128 = grind (arith, nat_tests) in (less, omega (arith, places), (λ f. omega (arith, places, f)), refl)
by_size most k n places false e rest =
    longer k (128 + n % 128) (n / 128) (varint_within most (n / 128)) n (omega arith) (omega (arith, places)) (omega arith) rest

pub is_varint_within : (most k n : ℕ) → k + most ≡ 9 → n < 2 * 128 ^ most → IsVarintFrom k (varint_within most n) n
is_varint_within zero k n places small = (omega (arith, small), omega (arith, places), (λ e. omega (arith, small)), refl)
is_varint_within (suc most) k n places small =
    by_size most k n places (nat_lt n 128) refl (is_varint_within most (k + 1) (n / 128) (omega (arith, places)) (omega (arith, small)))

pub is_varint : (n : ℕ) → n < 2 ^ 64 → IsVarint (varint n) n
unfolding varint
is_varint n small = is_varint_within 9 0 n refl small

pub is_number : (at field n : ℕ) → IsFieldNumber field → n < 2 ^ 64 → Spells at (item field n) (number_read field n ∷ [])
is_number at field n named small =
    let key_small : 8 * field + 0 < 2 ^ 64 = omega (arith, named.1) in
    (key field 0, varint n, [], sym (append-nil (item field n)), (named.0, named.1, is_varint (8 * field + 0) key_small, is_varint n small), refl)

span_length : (field : ℕ) (bytes : List ℕ) → length (span field bytes) ≡ length (key field 2) + length (varint (length bytes)) + length bytes
span_length field bytes =
    omega (arith, length-append (key field 2 ++ varint (length bytes)) bytes, length-append (key field 2) (varint (length bytes)))

pub is_span : (at field : ℕ) (bytes : List ℕ) → IsFieldNumber field → length bytes < 2 ^ 64
    → Spells at (span field bytes) (span_read field (length bytes) (at + length (span field bytes)) ∷ [])
is_span at field bytes named small =
    let size = varint (length bytes) in
    let key_small : 8 * field + 2 < 2 ^ 64 = omega (arith, named.1) in
    let long = span_length field bytes in (
      key field 2,
      size ++ bytes,
      [],
      append_assoc (key field 2) size bytes ∙ sym (append-nil (key field 2 ++ (size ++ bytes))),
      (named.0, named.1, is_varint (8 * field + 2) key_small, (size, bytes, refl, is_varint (length bytes) small, omega (arith, long), omega (arith, long))),
      refl,
    )
