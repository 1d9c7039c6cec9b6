-- What is spelled is read: each value comes back from its spelling, whatever follows.
use Rattle.std.proofs.Common.{◌≡◌, ℕ, zero, suc, ◌+◌, ◌-◌, ◌*◌, ◌/◌, ◌%◌, ◌<◌, ◌≤◌, ◌^◌, Bool, true, false, ◌⊎◌, inl, inr, ℤ, pos, negsuc, FitsSigned, w32, w64, List, ◌∷◌, ◌++◌, length, Ok, refl, sym, ap, ◌∙◌, arith, nat_lt, nat_le, ◌==◌, append_assoc, length-append}
use Rattle.std.proofs.lemmas.List.{take_at, drop_at}
use Rattle.std.proofs.Math.Pow.{pow_mono}
use Rattle.std.proofs.lemmas.Bool.Decides.{nat_tests}
use Rattle.fd_thrift.specs.declared.kind.Kind.{Kind}
use Rattle.fd_thrift.specs.declared.kind.Kind.TheVariants.{Whole32, Whole64, Binary, List as ListKind, Struct}
use Rattle.fd_thrift.specs.Values.{Value, whole32, whole64, binary, list, struct, Items, no_items, item, Fields, no_fields, field}
use Rattle.fd_thrift.specs.Format.{zigzag, varint_within, varint, code_of, kind_of, items_kind, items_len, list_header, spelling, items_spelling, fields_spelling, levels, items_levels, fields_levels, AreOfKind, IsFormed, AreFormedItems, AreFormedFields, Fits, FitItems, FitFields, Spells}
use Rattle.fd_thrift.specs.Reader.{varint_from, varint_at, unzigzag, binary_at, kind_at, size_at, list_header_at, next_id, items_at, fields_within, value_at, tree_at}
use Rattle.fd_thrift.proofs.VarintLoop.{seven}

last_byte : (later : Bool) (bits n : ℕ) (rest : List ℕ) → n < 128 → n < 2 ^ bits → (later ≡ true → 0 < n) → varint_from later bits (n ∷ rest) ≡ Ok (n, rest)
last_byte true bits n rest small below some =
    let top : nat_lt n 128 ≡ true = grind (arith, nat_tests) in
    let positive : 0 < n = some refl in
    let more : (n == 0) ≡ false = grind (arith, nat_tests) in
    let fits : nat_le (2 ^ bits) n ≡ false = grind (arith, nat_tests) in
    rw (top, more, fits) refl
last_byte false bits n rest small below some =
    let top : nat_lt n 128 ≡ true = grind (arith, nat_tests) in
    let fits : nat_le (2 ^ bits) n ≡ false = grind (arith, nat_tests) in
    rw (top, fits) refl

wide : (bits n : ℕ) → 128 ≤ n → n < 2 ^ bits → (nat_le bits 7 ≡ true) ⊎ (nat_le bits 7 ≡ false) → 7 < bits
wide bits n big below (inl narrow) = let le : bits ≤ 7 = grind (arith, nat_tests) in let p : 2 ^ bits ≤ 2 ^ 7 = pow_mono le in absurd (omega arith)
wide bits n big below (inr long) = grind (arith, nat_tests)

either : (b : Bool) → (b ≡ true) ⊎ (b ≡ false)
either true = inl refl
either false = inr refl

next_byte : (later : Bool) (bits n : ℕ) (rest : List ℕ) (high : List ℕ) → 128 ≤ n → 7 < bits
    → varint_from true (bits - 7) high ≡ Ok (n / 128, rest) → varint_from later bits ((128 + n % 128) ∷ high) ≡ Ok (n, rest)
next_byte later bits n rest high big long next =
    let top : nat_lt (128 + n % 128) 128 ≡ false = grind (arith, nat_tests) in
    let more : nat_le bits 7 ≡ false = grind (arith, nat_tests) in
    let value : (128 + n % 128 - 128) + 128 * (n / 128) ≡ n = omega arith in
    rw (top, more, next) (ap (λ (m : ℕ). Ok (m, rest)) value)

below_high : (bits n : ℕ) → 7 < bits → n < 2 ^ bits → n / 128 < 2 ^ (bits - 7)
below_high bits n long below = let e = seven bits (omega arith) in omega (arith, e)

pub varint_back : (most : ℕ) (later : Bool) (bits n : ℕ) (rest : List ℕ) → n < 2 ^ bits → n < 128 * 128 ^ most → (later ≡ true → 0 < n)
    → varint_from later bits (varint_within most n ++ rest) ≡ Ok (n, rest)
varint_back zero later bits n rest below small some = last_byte later bits n rest (omega arith) below some
varint_back (suc most) later bits n rest below small some =
    elim (either (nat_lt n 128)) [
      | inl last ↦ let le : n < 128 = grind (arith, nat_tests) in rw last (last_byte later bits n rest le below some)
      | inr more ↦
          let big : 128 ≤ n = grind (arith, nat_tests) in
          let long = wide bits n big below (either (nat_le bits 7)) in
          let less : n / 128 < 128 * 128 ^ most = omega arith in
          let positive : 0 < n / 128 = omega arith in
          rw more (next_byte later bits n rest (varint_within most (n / 128) ++ rest) big long
          (varint_back most true (bits - 7) (n / 128) rest (below_high bits n long below) less (λ _. positive)))
    ]

pub varint_again : (bits n : ℕ) (rest : List ℕ) → bits ≤ 64 → n < 2 ^ bits → varint_at bits (varint n ++ rest) ≡ Ok (n, rest)
unfolding varint varint_at
varint_again bits n rest within below =
    let p : 2 ^ bits ≤ 2 ^ 64 = pow_mono within in
    let small : n < 128 * 128 ^ 9 = omega arith in
    let never : false ≡ true → 0 < n = λ e. absurd (cc) in
    varint_back 9 false bits n rest below small never

-- ---- signed numbers

unzigzag_again : (z : ℤ) → unzigzag (zigzag z) ≡ z
unzigzag_again (pos n) =
    let even : (2 * n % 2 == 0) ≡ true = grind (arith, nat_tests) in
    let half : 2 * n / 2 ≡ n = omega arith in
    rw (even, half) refl
unzigzag_again (negsuc n) =
    let odd : ((2 * n + 1) % 2 == 0) ≡ false = grind (arith, nat_tests) in
    let half : (2 * n + 1) / 2 ≡ n = omega arith in
    rw (odd, half) refl

narrow : (z : ℤ) → FitsSigned w32 z → zigzag z < 2 ^ 32
narrow (pos n) fits = omega (arith, fits.sfits)
narrow (negsuc n) fits = omega (arith, fits.sfits)

broad : (z : ℤ) → FitsSigned w64 z → zigzag z < 2 ^ 64
broad (pos n) fits = omega (arith, fits.sfits)
broad (negsuc n) fits = omega (arith, fits.sfits)

-- ---- headers

kind_again : (kind : Kind) → kind_at (code_of kind) ≡ Ok kind
kind_again Whole32 = refl
kind_again Whole64 = refl
kind_again Binary = refl
kind_again ListKind = refl
kind_again Struct = refl

code_some : (kind : Kind) → 0 < code_of kind
code_some Whole32 = omega arith
code_some Whole64 = omega arith
code_some Binary = omega arith
code_some ListKind = omega arith
code_some Struct = omega arith

code_below : (kind : Kind) → code_of kind < 16
code_below Whole32 = omega arith
code_below Whole64 = omega arith
code_below Binary = omega arith
code_below ListKind = omega arith
code_below Struct = omega arith

low_half : (half : ℕ) (kind : Kind) → (16 * half + code_of kind) % 16 ≡ code_of kind
low_half half kind = let h = code_below kind in omega arith

high_half : (half : ℕ) (kind : Kind) → (16 * half + code_of kind) / 16 ≡ half
high_half half kind = let h = code_below kind in omega arith

-- a list without items is one of structs
abbrev pub IsSizeOf : ℕ → Kind → Type 0
IsSizeOf size kind = size ≡ 0 → kind ≡ Struct

size_in_byte : (levels size : ℕ) (kind : Kind) (rest : List ℕ) → size < 15 → IsSizeOf size kind → (0 < size → 0 < levels) → size_at levels size kind rest ≡ Ok (size, rest)
size_in_byte levels zero kind rest small none deep = rw (none refl) refl
size_in_byte levels (suc n) kind rest small none deep =
    let short : (suc n == 15) ≡ false = grind (arith, nat_tests) in
    let some : (suc n == 0) ≡ false = grind (arith, nat_tests) in
    let level : (levels == 0) ≡ false = not_deep levels (deep (omega arith)) in
    rw (short, some, level) refl
  where
    not_deep : (levels : ℕ) → 0 < levels → (levels == 0) ≡ false
    not_deep levels h = grind (arith, nat_tests)

size_behind : (levels size : ℕ) (kind : Kind) (rest : List ℕ) → 15 ≤ size → size < 2 ^ 64 → 0 < levels → size_at levels 15 kind (varint size ++ rest) ≡ Ok (size, rest)
size_behind levels size kind rest large below deep =
    let long : nat_lt size 15 ≡ false = grind (arith, nat_tests) in
    let level : (levels == 0) ≡ false = grind (arith, nat_tests) in
    rw (level, varint_again 64 size rest (omega arith) below, long) refl

header_in_byte : (levels size : ℕ) (kind : Kind) (rest : List ℕ) → size < 15 → IsSizeOf size kind → (0 < size → 0 < levels)
    → list_header_at levels ((16 * size + code_of kind) ∷ rest) ≡ Ok ((size, kind), rest)
header_in_byte levels size kind rest small none deep = rw (low_half size kind, high_half size kind, kind_again kind, size_in_byte levels size kind rest small none deep) refl

header_behind : (levels size : ℕ) (kind : Kind) (rest : List ℕ) → 15 ≤ size → size < 2 ^ 64 → 0 < levels
    → list_header_at levels ((16 * 15 + code_of kind) ∷ (varint size ++ rest)) ≡ Ok ((size, kind), rest)
header_behind levels size kind rest large below deep = rw (low_half 15 kind, high_half 15 kind, kind_again kind, size_behind levels size kind rest large below deep) refl

pub header_again : (levels size : ℕ) (kind : Kind) (rest : List ℕ) → size < 2 ^ 64 → IsSizeOf size kind → (0 < size → 0 < levels)
    → list_header_at levels (list_header size kind ++ rest) ≡ Ok ((size, kind), rest)
header_again levels size kind rest below none deep =
    elim (either (nat_lt size 15)) [
      | inl short ↦ let le : size < 15 = grind (arith, nat_tests) in rw short (header_in_byte levels size kind rest le none deep)
      | inr long ↦ let le : 15 ≤ size = grind (arith, nat_tests) in rw long (header_behind levels size kind rest le below (deep (omega arith)))
    ]

next_again : (last n : ℕ) → last < n → n ≤ 32767 → next_id last (n - last) ≡ Ok n
next_again last n up within =
    let some : (n - last == 0) ≡ false = grind (arith, nat_tests) in
    let sum : last + (n - last) ≡ n = omega arith in
    let below : nat_lt 32767 n ≡ false = grind (arith, nat_tests) in
    rw (some, sum, below) refl

-- ---- binary

binary_again : (content rest : List ℕ) → length content < 2 ^ 64 → binary_at (varint (length content) ++ content ++ rest) ≡ Ok (content, rest)
unfolding binary_at
binary_again content rest below =
    let enough : nat_lt (length (content ++ rest)) (length content) ≡ false = grind (arith, nat_tests, length-append) in
    rw (append_assoc (varint (length content)) content rest, varint_again 64 (length content) (content ++ rest) (omega arith) below, enough, take_at content rest (length content) refl, drop_at content rest (length content) refl) refl

-- ---- values

of_structs : (vs : Items) → IsSizeOf (items_len vs) (items_kind vs)
of_structs no_items none = refl
of_structs (item v vs) none = absurd (omega arith)

has_level : (vs : Items) (n : ℕ) → items_levels vs ≤ n → 0 < items_len vs → 0 < n
has_level no_items n within some = absurd (omega arith)
has_level (item v vs) n within some = let one = a_level v in omega arith
  where
    a_level : (v : Value) → 0 < levels v
    a_level (whole32 z) = omega arith
    a_level (whole64 z) = omega arith
    a_level (binary content) = omega arith
    a_level (list ws) = omega arith
    a_level (struct fs) = omega arith

header_some : (step : ℕ) (kind : Kind) → (16 * step + code_of kind == 0) ≡ false
header_some step kind = let h = code_some kind in let some : 0 < 16 * step + code_of kind = omega arith in grind (arith, nat_tests)

mutual
  value_again : (v : Value) (n : ℕ) (rest : List ℕ) → Fits v → IsFormed v → levels v ≤ n → value_at n (kind_of v) (spelling v ++ rest) ≡ Ok (v, rest)
  value_again (whole32 z) zero rest fits formed within = absurd (omega arith)
  value_again (whole32 z) (suc n) rest fits formed within = rw (varint_again 32 (zigzag z) rest (omega arith) (narrow z fits), unzigzag_again z) refl
  value_again (whole64 z) zero rest fits formed within = absurd (omega arith)
  value_again (whole64 z) (suc n) rest fits formed within = rw (varint_again 64 (zigzag z) rest (omega arith) (broad z fits), unzigzag_again z) refl
  value_again (binary content) zero rest fits formed within = absurd (omega arith)
  value_again (binary content) (suc n) rest fits formed within = rw (binary_again content rest fits) refl
  value_again (list vs) zero rest fits formed within = absurd (omega arith)
  value_again (list vs) (suc n) rest fits formed within =
      rw (
        append_assoc (list_header (items_len vs) (items_kind vs)) (items_spelling vs) rest,
        header_again n (items_len vs) (items_kind vs) (items_spelling vs ++ rest) fits.0 (of_structs vs) (has_level vs n (omega arith)),
        items_again vs n (items_kind vs) rest fits.1 formed.1 formed.0 (omega arith),
      )
      refl
  value_again (struct fs) zero rest fits formed within = absurd (omega arith)
  value_again (struct fs) (suc n) rest fits formed within =
      rw (fields_again fs n (length (fields_spelling 0 fs ++ rest)) 0 rest fits formed (omega arith) (omega arith)) refl

  items_again : (vs : Items) (n : ℕ) (kind : Kind) (rest : List ℕ) → FitItems vs → AreFormedItems vs → AreOfKind kind vs → items_levels vs ≤ n
      → items_at (value_at n kind) (items_len vs) (items_spelling vs ++ rest) ≡ Ok (vs, rest)
  items_again no_items n kind rest fits formed same within = refl
  items_again (item v vs) n kind rest fits formed same within =
      rw (
        append_assoc (spelling v) (items_spelling vs) rest,
        ← same.0,
        value_again v n (items_spelling vs ++ rest) fits.0 formed.0 (omega arith),
        items_again vs n kind rest fits.1 formed.1 same.1 (omega arith),
      )
      refl

  fields_again : (fs : Fields) (n most last : ℕ) (rest : List ℕ) → FitFields fs → AreFormedFields last fs → fields_levels fs ≤ n → length (fields_spelling last fs ++ rest) ≤ most
      → fields_within (value_at n) most last (fields_spelling last fs ++ rest) ≡ Ok (fs, rest)
  fields_again no_fields n zero last rest fits formed within enough = absurd (omega arith)
  fields_again no_fields n (suc most) last rest fits formed within enough = refl
  fields_again (field (negsuc i) v fs) n most last rest fits formed within enough = absurd formed.0
  fields_again (field (pos i) v fs) n zero last rest fits formed within enough = absurd (omega arith)
  fields_again (field (pos i) v fs) n (suc most) last rest fits formed within enough =
      let less : length (fields_spelling i fs ++ rest) ≤ most = omega (arith, ap length (append_assoc (spelling v) (fields_spelling i fs) rest), length-append (spelling v) (fields_spelling i fs ++ rest)) in
      rw (
        header_some (i - last) (kind_of v),
        low_half (i - last) (kind_of v),
        high_half (i - last) (kind_of v),
        kind_again (kind_of v),
        next_again last i formed.0.0 formed.0.2,
        append_assoc (spelling v) (fields_spelling i fs) rest,
        value_again v n (fields_spelling i fs ++ rest) fits.0 formed.1 (omega arith),
        fields_again fs n most i rest fits.1 formed.2 (omega arith) less,
      )
      refl

pub tree_again : (front rest : List ℕ) (v : Value) → Spells front v → tree_at (front ++ rest) ≡ Ok (v, rest)
unfolding tree_at
tree_again front rest v h =
    let read = value_again v 8 rest h.fits h.legal.formed h.legal.within in
    ap (λ bs. value_at 8 Struct (bs ++ rest)) h.whole ∙ ap (λ k. value_at 8 k (spelling v ++ rest)) (sym h.legal.struct) ∙ read
