-- What is cut is the front of a spelling: bytes that go on to one.
use Rattle.std.proofs.Common.{◌≡◌, ℕ, zero, suc, ◌+◌, ◌-◌, ◌*◌, ◌/◌, ◌%◌, ◌<◌, ◌≤◌, ◌^◌, Bool, true, false, cond, ◌&&◌, ◌||◌, ◌⊎◌, inl, inr, pos, List, [], ◌∷◌, ◌++◌, length, take, drop, replicate, Result, Ok, Err, refl, sym, ap, subst, ◌∙◌, arith, nat_lt, nat_le, ◌==◌, append_assoc, append-nil, length-append}
use Rattle.std.proofs.lemmas.Bool.Decides.{nat_tests}
use Rattle.std.proofs.Math.Pow.{pow_mono}
use Rattle.std.proofs.lemmas.List.{take_at, drop_at, length-replicate}
use Rattle.fd_thrift.specs.Format.{varint_within, spelling}
use Rattle.fd_thrift.specs.declared.fault.ThriftFault.{ThriftFault}
use Rattle.fd_thrift.specs.declared.fault.ThriftFault.TheVariants.{Cut, BadType, BadSize, Deep}
use Rattle.fd_thrift.specs.declared.kind.Kind.{Kind}
use Rattle.fd_thrift.specs.declared.kind.Kind.TheVariants.{Whole32, Whole64, Binary, List as ListKind, Struct}
use Rattle.fd_thrift.specs.Values.{Value, whole32, whole64, binary, list, struct, Items, no_items, item, Fields, no_fields, field}
use Rattle.fd_thrift.specs.Reader.{◌>>=◌, Reading, varint_from, varint_at, unzigzag, binary_at, kind_at, is_struct, long_size_at, size_at, list_header_at, next_id, items_at, list_at, fields_within, struct_at, value_by, value_at, tree_at, AreBytes}
use Rattle.fd_thrift.proofs.Extensions.{Keeps, number_keeps, binary_keeps, header_keeps, value_keeps, AllKeep, Inner}
use Rattle.fd_thrift.proofs.Soundness.{number_takes, no_ok, chosen, bind_ok, ok_is, IsTaken, value_takes, header_left}

-- the bytes go on, and then are read whole
pub record Ends {A : Type 0} (f : List ℕ → Reading A) (bytes : List ℕ) : Type 0 where
  pub more : List ℕ
  pub are : AreBytes more
  pub value : A
  pub read : f (bytes ++ more) ≡ Ok (value, [])

not_cut : {A : Type 0} (x : A) (r : Result A ThriftFault) → r ≡ Ok x → r ≡ Err Cut → ⊥
not_cut x r h g = cc

fault_is : (B : Type 0) (e : ThriftFault) → (let s : Reading B = Err e in s ≡ Err Cut) → e ≡ Cut
fault_is B e h = cc

-- where a refused step is `Cut`, it is so by its first part or its second
cut_by : {A B : Type 0} (r : Reading A) (g : A × List ℕ → Reading B) → (r >>= g) ≡ Err Cut → (r ≡ Err Cut) ⊎ ((x : A) × (rest : List ℕ) × (r ≡ Ok (x, rest)) × (g (x, rest) ≡ Err Cut))
cut_by (Ok x) g h = inr (x.0, x.1, refl, h)
cut_by {A} {B} (Err e) g h = inl (ap (λ (k : ThriftFault). Err k) (fault_is B e h))

-- the same for a step that reads no byte
plain_cut : {A B : Type 0} (r : Result A ThriftFault) (g : A → Reading B) → (r >>= g) ≡ Err Cut → (r ≡ Err Cut) ⊎ ((x : A) × (r ≡ Ok x) × (g x ≡ Err Cut))
plain_cut (Ok x) g h = inr (x, refl, h)
plain_cut {A} {B} (Err e) g h = inl (ap (λ (k : ThriftFault). Err k) (fault_is B e h))

join : (a b : List ℕ) → AreBytes a → AreBytes b → AreBytes (a ++ b)
join [] b h g i = g i
join (x ∷ a) b h g zero = h 0
join (x ∷ a) b h g (suc i) = join a b (λ j. h (suc j)) g i

single : (b : ℕ) → b < 256 → AreBytes (b ∷ [])
single b h zero = h
single b h (suc i) = omega arith

abbrev AllStable : {A : Type 0} → (List ℕ → Reading A) → Type 0
AllStable {A} f = (bytes more : List ℕ) → Keeps more (f bytes) (f (bytes ++ more))

kept : {A : Type 0} (f : List ℕ → Reading A) → AllStable f → (bytes more : List ℕ) (x : A) (rest : List ℕ) → f bytes ≡ Ok (x, rest) → f (bytes ++ more) ≡ Ok (x, rest ++ more)
kept {A} f stable bytes more x rest h = subst (λ (r : Reading A). Keeps more r (f (bytes ++ more))) h (stable bytes more)

-- a step and what follows it
then_ends : {A B : Type 0} (f : List ℕ → Reading A) (g : A × List ℕ → Reading B) → AllStable f → (bytes : List ℕ)
    → (f bytes ≡ Err Cut → Ends f bytes)
    → ((x : A) (rest : List ℕ) → f bytes ≡ Ok (x, rest) → g (x, rest) ≡ Err Cut → Ends (λ bs. g (x, bs)) rest)
    → ((x : A) (whole : List ℕ) → f whole ≡ Ok (x, []) → Ends (λ bs. g (x, bs)) [])
    → (f bytes >>= g) ≡ Err Cut → Ends (λ bs. f bs >>= g) bytes
then_ends {A} {B} f g stable bytes first second starts h =
    elim (cut_by (f bytes) g h) [
      | inl cut ↦
          let a = first cut in
          let b = starts a.value (bytes ++ a.more) a.read in
          let all : f (bytes ++ (a.more ++ b.more)) ≡ Ok (a.value, b.more) = ap f (sym (append_assoc bytes a.more b.more)) ∙ kept f stable (bytes ++ a.more) b.more a.value [] a.read in
          let whole : (f (bytes ++ (a.more ++ b.more)) >>= g) ≡ Ok (b.value, []) = rw all b.read in
          record { more = a.more ++ b.more; are = join a.more b.more a.are b.are; value = b.value; read = whole }
      | inr p ↦
          let b = second p.0 p.1 p.2 p.3 in
          let all : f (bytes ++ b.more) ≡ Ok (p.0, p.1 ++ b.more) = kept f stable bytes b.more p.0 p.1 p.2 in
          let whole : (f (bytes ++ b.more) >>= g) ≡ Ok (b.value, []) = rw all b.read in
          record { more = b.more; are = b.are; value = b.value; read = whole }
    ]

none_more : AreBytes []
none_more i = omega arith

-- ---- numbers

one_ends : (later : Bool) (bits : ℕ) → 0 < bits → varint_from later bits (1 ∷ []) ≡ Ok (1, [])
one_ends later bits some =
    let two : 2 ≤ 2 ^ bits = at_least bits some in
    let fits : nat_le (2 ^ bits) 1 ≡ false = grind (arith, nat_tests) in
    by_test later fits
  where
    at_least : (bits : ℕ) → 0 < bits → 2 ≤ 2 ^ bits
    at_least bits some = let le : 1 ≤ bits = omega arith in pow_mono le

    by_test : (later : Bool) → nat_le (2 ^ bits) 1 ≡ false → varint_from later bits (1 ∷ []) ≡ Ok (1, [])
    by_test true fits = rw fits refl
    by_test false fits = rw fits refl

-- the bytes of a number that goes on end with a byte 1
number_on : (bytes : List ℕ) (later : Bool) (bits : ℕ) → 0 < bits → varint_from later bits bytes ≡ Err Cut → (n : ℕ) × (varint_from later bits (bytes ++ 1 ∷ []) ≡ Ok (n, []))
number_on [] later bits some h = (1, one_ends later bits some)
number_on (b ∷ bs) later bits some h =
    elim (chosen (nat_lt b 128) _ _ _ h) [
      | inl p ↦ absurd (never ((later && (b == 0)) || nat_le (2 ^ bits) b) (b, bs) p.1)
      | inr p ↦ elim (chosen (nat_le bits 7) _ _ _ p.1) [
        | inl q ↦ absurd (other q.1)
        | inr q ↦
            let long : 7 < bits = is_long bits q.0 in
            let c = next_cut (varint_from true (bits - 7) bs) q.1 in
            let r = number_on bs true (bits - 7) (omega arith) c in
            let value = (b - 128) + 128 * r.0 in
            (value, rw (p.0, q.0, r.1) refl)
      ]
    ]
  where
    never : (c : Bool) (x : ℕ × List ℕ) → cond c (Err BadSize) (Ok x) ≡ Err Cut → ⊥
    never true x h = cc
    never false x h = cc

    other : (let r : Reading ℕ = Err BadSize in r ≡ Err Cut) → ⊥
    other h = cc

    is_long : (bits : ℕ) → nat_le bits 7 ≡ false → 7 < bits
    is_long bits h = grind (arith, nat_tests)

    next_cut : (r : Reading ℕ) → ◌>>=◌ {B = ℕ × List ℕ} r (λ high. Ok ((b - 128) + 128 * high.0, high.1)) ≡ Err Cut → r ≡ Err Cut
    next_cut (Ok x) h = cc
    next_cut (Err e) h = ap (λ (k : ThriftFault). Err k) (fault_is ℕ e h)

number_ends : (bytes : List ℕ) (bits : ℕ) → 0 < bits → varint_at bits bytes ≡ Err Cut → Ends (varint_at bits) bytes
unfolding varint_at
number_ends bytes bits some h =
    let r = number_on bytes false bits some h in
    record { more = 1 ∷ []; are = single 1 (omega arith); value = r.0; read = r.1 }

-- ---- binary

zeros : (n : ℕ) → AreBytes (replicate n 0)
zeros zero i = omega arith
zeros (suc n) zero = omega arith
zeros (suc n) (suc i) = zeros n i

abbrev content : ℕ × List ℕ → Reading (List ℕ)
content size = cond (nat_lt (length size.1) size.0) (Err Cut) (Ok (take size.0 size.1, drop size.0 size.1))

content_whole : (n : ℕ) (bytes : List ℕ) → length bytes ≡ n → content (n, bytes) ≡ Ok (bytes, [])
content_whole n bytes h =
    let enough : nat_lt (length bytes) n ≡ false = grind (arith, nat_tests) in
    let all : take n bytes ≡ bytes = ap (take n) (sym (append-nil bytes)) ∙ take_at bytes [] n h in
    let none : drop n bytes ≡ [] = ap (drop n) (sym (append-nil bytes)) ∙ drop_at bytes [] n h in
    rw (enough, all, none) refl

content_ends : (n : ℕ) (rest : List ℕ) → length rest ≤ n → Ends (λ bs. content (n, bs)) rest
content_ends n rest le =
    let long : length (rest ++ replicate (n - length rest) 0) ≡ n = omega (arith, length-append rest (replicate (n - length rest) 0), length-replicate {A = ℕ} (n - length rest) 0) in
    record { more = replicate (n - length rest) 0; are = zeros (n - length rest); value = rest ++ replicate (n - length rest) 0; read = content_whole n (rest ++ replicate (n - length rest) 0) long }

content_cut : (n : ℕ) (rest : List ℕ) → content (n, rest) ≡ Err Cut → length rest ≤ n
content_cut n rest h =
    elim (chosen (nat_lt (length rest) n) _ _ _ h) [
      | inl p ↦ less (length rest) p.0
      | inr p ↦ absurd (not_cut (take n rest, drop n rest) (Ok (take n rest, drop n rest)) refl p.1)
    ]
  where
    less : (m : ℕ) → nat_lt m n ≡ true → m ≤ n
    less m k = grind (arith, nat_tests)

binary_ends : (bytes : List ℕ) → binary_at bytes ≡ Err Cut → Ends binary_at bytes
unfolding binary_at
binary_ends bytes h =
    then_ends (varint_at 64) content (λ bs more. number_keeps more bs 64) bytes
    (number_ends bytes 64 (omega arith))
    (λ n rest read cut. content_ends n rest (content_cut n rest cut))
    (λ n whole read. content_ends n [] (omega arith))
    h

-- ---- list headers

long_whole : (n : ℕ) (bytes : List ℕ) → 15 ≤ n → varint_at 64 bytes ≡ Ok (n, []) → long_size_at bytes ≡ Ok (n, [])
long_whole n bytes large h =
    let long : nat_lt n 15 ≡ false = grind (arith, nat_tests) in
    rw (h, long) refl

-- a number of two bytes is 128 at least
two_bytes : (n : ℕ) → 2 ≤ length (varint_within 9 n) → 15 ≤ n
two_bytes n long =
    elim (either (nat_lt n 128)) [
      | inl small ↦ let one : length (varint_within 9 n) ≡ 1 = rw small refl in absurd (omega arith)
      | inr big ↦ is_large n big
    ]
  where
    either : (b : Bool) → (b ≡ true) ⊎ (b ≡ false)
    either true = inl refl
    either false = inr refl

    is_large : (n : ℕ) → nat_lt n 128 ≡ false → 15 ≤ n
    is_large n h = grind (arith, nat_tests)

goes_large : (b : ℕ) (bs : List ℕ) → AreBytes (b ∷ bs) → varint_at 64 (b ∷ bs) ≡ Err Cut → (n : ℕ) × (15 ≤ n) × (varint_at 64 ((b ∷ bs) ++ 1 ∷ []) ≡ Ok (n, []))
unfolding varint_at
goes_large b bs fits h =
    let r = number_on (b ∷ bs) false 64 (omega arith) h in
    let all : AreBytes ((b ∷ bs) ++ 1 ∷ []) = join (b ∷ bs) (1 ∷ []) fits (single 1 (omega arith)) in
    let t = number_takes ((b ∷ bs) ++ 1 ∷ []) false 64 9 r.0 [] all (omega arith) r.1 in
    let long : 2 ≤ length (varint_within 9 r.0) = omega (arith, ap length t.0, length-append (varint_within 9 r.0) [], length-append bs (1 ∷ [])) in
    (r.0, two_bytes r.0 long, r.1)

fifteen : varint_at 64 (15 ∷ []) ≡ Ok (15, [])
unfolding varint_at
fifteen = refl

long_cut : (bytes : List ℕ) → long_size_at bytes ≡ Err Cut → varint_at 64 bytes ≡ Err Cut
long_cut bytes h =
    elim (cut_by (varint_at 64 bytes) (λ size. cond (nat_lt size.0 15) (Err BadSize) (Ok size)) h) [
      | inl c ↦ c
      | inr p ↦ absurd (never (nat_lt p.0 15) (p.0, p.1) p.3)
    ]
  where
    never : (c : Bool) (x : ℕ × List ℕ) → cond c (Err BadSize) (Ok x) ≡ Err Cut → ⊥
    never true x k = cc
    never false x k = cc

long_ends : (bytes : List ℕ) → AreBytes bytes → long_size_at bytes ≡ Err Cut → Ends long_size_at bytes
long_ends [] fits h = record { more = 15 ∷ []; are = single 15 (omega arith); value = 15; read = long_whole 15 (15 ∷ []) (omega arith) fifteen }
long_ends (b ∷ bs) fits h =
    let g = goes_large b bs fits (long_cut (b ∷ bs) h) in
    record { more = 1 ∷ []; are = single 1 (omega arith); value = g.0; read = long_whole g.0 ((b ∷ bs) ++ 1 ∷ []) g.1 g.2 }

size_ends : (levels half : ℕ) (kind : Kind) (bytes : List ℕ) → AreBytes bytes → size_at levels half kind bytes ≡ Err Cut → Ends (size_at levels half kind) bytes
size_ends levels half kind bytes fits h =
    elim (chosen (half == 0) _ _ _ h) [
      | inl p ↦ absurd (never (is_struct kind) p.1)
      | inr p ↦ elim (chosen (levels == 0) _ _ _ p.1) [
        | inl q ↦ absurd (deep q.1)
        | inr q ↦ elim (chosen (half == 15) _ _ _ q.1) [
          | inl r ↦
              let l = long_ends bytes fits r.1 in
              let whole : size_at levels half kind (bytes ++ l.more) ≡ Ok (l.value, []) = rw (p.0, q.0, r.0) l.read in
              record { more = l.more; are = l.are; value = l.value; read = whole }
          | inr r ↦ absurd (not_cut (half, bytes) (Ok (half, bytes)) refl r.1)
        ]
      ]
    ]
  where
    never : (c : Bool) → ◌≡◌ {A = Reading ℕ} (cond c (Ok (0, bytes)) (Err BadType)) (Err Cut) → ⊥
    never true k = cc
    never false k = cc

    deep : (let r : Reading ℕ = Err Deep in r ≡ Err Cut) → ⊥
    deep k = cc

-- the empty list's header
empty_header : (levels : ℕ) → list_header_at levels (12 ∷ []) ≡ Ok ((0, Struct), [])
empty_header levels = refl

kind_not_cut : (code : ℕ) → kind_at code ≡ Err Cut → ⊥
kind_not_cut code h =
    elim (chosen (code == 5) _ _ _ h) [
      | inl p ↦ not_cut Whole32 (Ok Whole32) refl p.1
      | inr p ↦ elim (chosen (code == 6) _ _ _ p.1) [
        | inl q ↦ not_cut Whole64 (Ok Whole64) refl q.1
        | inr q ↦ elim (chosen (code == 8) _ _ _ q.1) [
          | inl r ↦ not_cut Binary (Ok Binary) refl r.1
          | inr r ↦ elim (chosen (code == 9) _ _ _ r.1) [
            | inl s ↦ not_cut ListKind (Ok ListKind) refl s.1
            | inr s ↦ elim (chosen (code == 12) _ _ _ s.1) [
              | inl t ↦ not_cut Struct (Ok Struct) refl t.1
              | inr t ↦ bad t.1
            ]
          ]
        ]
      ]
    ]
  where
    bad : (let r : Result Kind ThriftFault = Err BadType in r ≡ Err Cut) → ⊥
    bad k = cc

header_ends : (levels : ℕ) (bytes : List ℕ) → AreBytes bytes → list_header_at levels bytes ≡ Err Cut → Ends (list_header_at levels) bytes
header_ends levels [] fits h = record { more = 12 ∷ []; are = single 12 (omega arith); value = (0, Struct); read = empty_header levels }
header_ends levels (b ∷ bs) fits h =
    elim (plain_cut (kind_at (b % 16)) (λ kind. size_at levels (b / 16) kind bs >>= λ size. Ok ((size.0, kind), size.1)) h) [
      | inl c ↦ absurd (kind_not_cut (b % 16) c)
      | inr k ↦ elim (cut_by (size_at levels (b / 16) k.0 bs) (λ size. Ok ((size.0, k.0), size.1)) k.2) [
        | inl c ↦
            let s = size_ends levels (b / 16) k.0 bs (λ i. fits (suc i)) c in
            let whole : list_header_at levels (b ∷ (bs ++ s.more)) ≡ Ok ((s.value, k.0), []) = rw (k.1, s.read) refl in
            record { more = s.more; are = s.are; value = (s.value, k.0); read = whole }
        | inr p ↦ absurd (not_cut ((p.0, k.0), p.1) (Ok ((p.0, k.0), p.1)) refl p.3)
      ]
    ]

-- a list with items has a level for them
no_level : (half size : ℕ) (kind : Kind) (bytes rest : List ℕ) → size_at 0 half kind bytes ≡ Ok (size, rest) → size ≡ 0
no_level half size kind bytes rest h =
    elim (chosen (half == 0) _ _ _ h) [
      | inl p ↦ none (is_struct kind) p.1
      | inr p ↦ absurd (no_ok Deep (size, rest) (Err Deep) refl p.1)
    ]
  where
    none : (c : Bool) → ◌≡◌ {A = Reading ℕ} (cond c (Ok (0, bytes)) (Err BadType)) (Ok (size, rest)) → size ≡ 0
    none true k = ap (λ (x : ℕ × List ℕ). x.0) (ok_is (size, rest) (0, bytes) (Ok (0, bytes)) k refl)
    none false k = cc

header_level : (levels : ℕ) (bytes : List ℕ) (size : ℕ) (kind : Kind) (rest : List ℕ) → list_header_at levels bytes ≡ Ok ((size, kind), rest) → 0 < size → 0 < levels
header_level zero [] size kind rest h some = absurd (no_ok Cut ((size, kind), rest) (Err Cut) refl h)
header_level zero (b ∷ bs) size kind rest h some =
    let k = bind_ok (kind_at (b % 16)) (λ k. size_at 0 (b / 16) k bs >>= λ n. Ok ((n.0, k), n.1)) ((size, kind), rest) h in
    let n = bind_ok (size_at 0 (b / 16) k.0 bs) (λ n. Ok ((n.0, k.0), n.1)) ((size, kind), rest) k.2 in
    let e = ok_is ((n.0.0, k.0), n.0.1) ((size, kind), rest) (Ok ((n.0.0, k.0), n.0.1)) refl n.2 in
    let is : n.0.0 ≡ size = ap (λ (x : (ℕ × Kind) × List ℕ). x.0.0) e in
    let none = no_level (b / 16) n.0.0 k.0 bs n.0.1 n.1 in
    absurd (omega (arith, is, none))
header_level (suc n) bytes size kind rest h some = omega arith

-- ---- values

-- what the values inside do, where there is a level for them
abbrev AllEnd : Inner → Type 0
AllEnd inner = (kind : Kind) (bytes : List ℕ) → AreBytes bytes → inner kind bytes ≡ Err Cut → Ends (inner kind) bytes

items_begin : (inner : Inner) (all : (more : List ℕ) → AllKeep more inner) (kind : Kind) → Ends (inner kind) [] → (n : ℕ) → Ends (items_at (inner kind) n) []
items_begin inner all kind one zero = record { more = []; are = none_more; value = no_items; read = refl }
items_begin inner all kind one (suc n) =
    let others = items_begin inner all kind one n in
    let first : inner kind (one.more ++ others.more) ≡ Ok (one.value, others.more) = kept (inner kind) (λ bs more. all more kind bs) one.more others.more one.value [] one.read in
    let whole : items_at (inner kind) (suc n) (one.more ++ others.more) ≡ Ok (item one.value others.value, []) = rw (first, others.read) refl in
    record { more = one.more ++ others.more; are = join one.more others.more one.are others.are; value = item one.value others.value; read = whole }

items_end : (inner : Inner) (all : (more : List ℕ) → AllKeep more inner) (m : ℕ) → IsTaken m inner → (kind : Kind) → AllEnd inner → (n : ℕ) → (0 < n → Ends (inner kind) []) → (bytes : List ℕ) → AreBytes bytes
    → items_at (inner kind) n bytes ≡ Err Cut → Ends (items_at (inner kind) n) bytes
items_end inner all m taken kind ends zero begins bytes fits h = absurd (not_cut (no_items, bytes) (Ok (no_items, bytes)) refl h)
items_end inner all m taken kind ends (suc n) begins bytes fits h =
    let one = begins (omega arith) in
    then_ends (inner kind) (λ first. items_at (inner kind) n first.1 >>= λ others. Ok (item first.0 others.0, others.1)) (λ bs more. all more kind bs) bytes
    (λ cut. ends kind bytes fits cut)
    (λ v rest read cut.
    let left = taken kind bytes v rest fits read in
    let o = items_end inner all m taken kind ends n (λ some. one) rest left.left (others_cut v rest cut) in
    let whole : (items_at (inner kind) n (rest ++ o.more) >>= λ others. Ok (item v others.0, others.1)) ≡ Ok (item v o.value, []) = rw o.read refl in
    record { more = o.more; are = o.are; value = item v o.value; read = whole })
    (λ v whole read.
    let o = items_begin inner all kind one n in
    let all_read : (items_at (inner kind) n o.more >>= λ others. Ok (item v others.0, others.1)) ≡ Ok (item v o.value, []) = rw o.read refl in
    record { more = o.more; are = o.are; value = item v o.value; read = all_read })
    h
  where
    others_cut : (v : Value) (rest : List ℕ) → ◌>>=◌ {B = Items × List ℕ} (items_at (inner kind) n rest) (λ others. Ok (item v others.0, others.1)) ≡ Err Cut → items_at (inner kind) n rest ≡ Err Cut
    others_cut v rest k =
        elim (cut_by (items_at (inner kind) n rest) (λ others. Ok (item v others.0, others.1)) k) [
          | inl c ↦ c
          | inr p ↦ absurd (not_cut (item v p.0, p.1) (Ok (item v p.0, p.1)) refl p.3)
        ]

-- the fields go on, and then are read whole, in any number of bytes that is enough
record FieldsEnd (inner : Inner) (last : ℕ) (bytes : List ℕ) : Type 0 where
  more : List ℕ
  are : AreBytes more
  value : Fields
  read : (also : ℕ) → length (bytes ++ more) ≤ also → fields_within inner also last (bytes ++ more) ≡ Ok (value, [])

stop_read : (inner : Inner) (also last : ℕ) → 0 < also → fields_within inner also last (0 ∷ []) ≡ Ok (no_fields, [])
stop_read inner zero last some = absurd (omega arith)
stop_read inner (suc n) last some = refl

next_not_cut : (last step : ℕ) → next_id last step ≡ Err Cut → ⊥
next_not_cut last step h = never ((step == 0) || nat_lt 32767 (last + step)) (last + step) h
  where
    never : (c : Bool) (x : ℕ) → cond c (Err BadType) (Ok x) ≡ Err Cut → ⊥
    never true x k = cc
    never false x k = cc

-- a field that is read, and fields behind it
field_before : (inner : Inner) (last h id : ℕ) (kind : Kind) (v : Value) (fs : Fields) (bs rest : List ℕ) → (h == 0) ≡ false → kind_at (h % 16) ≡ Ok kind → next_id last (h / 16) ≡ Ok id
    → inner kind bs ≡ Ok (v, rest) → length rest ≤ length bs → ((also : ℕ) → length rest ≤ also → fields_within inner also id rest ≡ Ok (fs, []))
    → (also : ℕ) → length (h ∷ bs) ≤ also → fields_within inner also last (h ∷ bs) ≡ Ok (field (pos id) v fs, [])
field_before inner last h id kind v fs bs rest going kinds ids read shorter others zero enough = absurd (omega arith)
field_before inner last h id kind v fs bs rest going kinds ids read shorter others (suc also) enough =
    rw (going, kinds, ids, read, others also (omega arith)) refl

others_cut : (inner : Inner) (most id : ℕ) (v : Value) (rest : List ℕ)
    → ◌>>=◌ {B = Fields × List ℕ} (fields_within inner most id rest) (λ others. Ok (field (pos id) v others.0, others.1)) ≡ Err Cut → fields_within inner most id rest ≡ Err Cut
others_cut inner most id v rest k =
    elim (cut_by (fields_within inner most id rest) (λ others. Ok (field (pos id) v others.0, others.1)) k) [
      | inl c ↦ c
      | inr p ↦ absurd (not_cut (field (pos id) v p.0, p.1) (Ok (field (pos id) v p.0, p.1)) refl p.3)
    ]

-- the value of a field is cut
value_cut : (inner : Inner) (all : (more : List ℕ) → AllKeep more inner) (last h id : ℕ) (kind : Kind) (bs : List ℕ) → (h == 0) ≡ false → kind_at (h % 16) ≡ Ok kind → next_id last (h / 16) ≡ Ok id
    → Ends (inner kind) bs → FieldsEnd inner last (h ∷ bs)
value_cut inner all last h id kind bs going kinds ids e =
    let first : inner kind ((bs ++ e.more) ++ 0 ∷ []) ≡ Ok (e.value, 0 ∷ []) = kept (inner kind) (λ xs more. all more kind xs) (bs ++ e.more) (0 ∷ []) e.value [] e.read in
    let read : inner kind (bs ++ (e.more ++ 0 ∷ [])) ≡ Ok (e.value, 0 ∷ []) = ap (inner kind) (sym (append_assoc bs e.more (0 ∷ []))) ∙ first in
    let end : List ℕ = 0 ∷ [] in
    let shorter : length end ≤ length (bs ++ (e.more ++ end)) = omega (arith, length-append bs (e.more ++ end), length-append e.more end) in
    record {
      more = e.more ++ 0 ∷ [];
      are = join e.more (0 ∷ []) e.are (single 0 (omega arith));
      value = field (pos id) e.value no_fields;
      read = field_before inner last h id kind e.value no_fields (bs ++ (e.more ++ 0 ∷ [])) (0 ∷ []) going kinds ids read shorter (λ also enough. stop_read inner also id (omega arith));
    }

-- the fields behind a field are cut
behind_cut : (inner : Inner) (all : (more : List ℕ) → AllKeep more inner) (last h id : ℕ) (kind : Kind) (v : Value) (bs rest : List ℕ) → (h == 0) ≡ false → kind_at (h % 16) ≡ Ok kind → next_id last (h / 16) ≡ Ok id
    → inner kind bs ≡ Ok (v, rest) → length rest ≤ length bs → FieldsEnd inner id rest → FieldsEnd inner last (h ∷ bs)
behind_cut inner all last h id kind v bs rest going kinds ids first shorter e =
    let read : inner kind (bs ++ e.more) ≡ Ok (v, rest ++ e.more) = kept (inner kind) (λ xs more. all more kind xs) bs e.more v rest first in
    let less : length (rest ++ e.more) ≤ length (bs ++ e.more) = omega (arith, length-append rest e.more, length-append bs e.more) in
    record {
      more = e.more;
      are = e.are;
      value = field (pos id) v e.value;
      read = field_before inner last h id kind v e.value (bs ++ e.more) (rest ++ e.more) going kinds ids read less e.read;
    }

fields_end : (inner : Inner) (all : (more : List ℕ) → AllKeep more inner) (m : ℕ) → IsTaken m inner → AllEnd inner → (most last : ℕ) (bytes : List ℕ) → AreBytes bytes → length bytes ≤ most
    → fields_within inner most last bytes ≡ Err Cut → FieldsEnd inner last bytes
fields_end inner all m taken ends zero last [] fits enough h =
    record { more = 0 ∷ []; are = single 0 (omega arith); value = no_fields; read = λ also le. stop_read inner also last (omega arith) }
fields_end inner all m taken ends zero last (b ∷ bs) fits enough h = absurd (omega arith)
fields_end inner all m taken ends (suc most) last [] fits enough h =
    record { more = 0 ∷ []; are = single 0 (omega arith); value = no_fields; read = λ also le. stop_read inner also last (omega arith) }
fields_end inner all m taken ends (suc most) last (b ∷ bs) fits enough h =
    elim (chosen (b == 0) _ _ _ h) [
      | inl p ↦ absurd (not_cut (no_fields, bs) (Ok (no_fields, bs)) refl p.1)
      | inr p ↦ elim (plain_cut (kind_at (b % 16)) (λ kind. next_id last (b / 16) >>= λ id. inner kind bs >>= λ value. fields_within inner most id value.1 >>= λ others. Ok (field (pos id) value.0 others.0, others.1)) p.1) [
        | inl c ↦ absurd (kind_not_cut (b % 16) c)
        | inr k ↦ elim (plain_cut (next_id last (b / 16)) (λ id. inner k.0 bs >>= λ value. fields_within inner most id value.1 >>= λ others. Ok (field (pos id) value.0 others.0, others.1)) k.2) [
          | inl c ↦ absurd (next_not_cut last (b / 16) c)
          | inr i ↦ elim (cut_by (inner k.0 bs) (λ value. fields_within inner most i.0 value.1 >>= λ others. Ok (field (pos i.0) value.0 others.0, others.1)) i.2) [
            | inl c ↦ value_cut inner all last b i.0 k.0 bs p.0 k.1 i.1 (ends k.0 bs (λ j. fits (suc j)) c)
            | inr v ↦
                let t = taken k.0 bs v.0 v.1 (λ j. fits (suc j)) v.2 in
                let shorter : length v.1 ≤ length bs = omega (arith, ap length t.whole, length-append (spelling v.0) v.1) in
                let le : length v.1 ≤ most = omega arith in
                behind_cut inner all last b i.0 k.0 v.0 bs v.1 p.0 k.1 i.1 v.2 shorter
                (fields_end inner all m taken ends most i.0 v.1 t.left le (others_cut inner most i.0 v.0 v.1 v.3))
          ]
        ]
      ]
    ]

-- ---- every type

number_value_ends : (bits : ℕ) (make : ℕ → Value) (bytes : List ℕ) → 0 < bits → ◌>>=◌ {B = Value × List ℕ} (varint_at bits bytes) (λ m. Ok (make m.0, m.1)) ≡ Err Cut
    → Ends (λ bs. varint_at bits bs >>= λ m. Ok (make m.0, m.1)) bytes
number_value_ends bits make bytes some h =
    then_ends (varint_at bits) (λ m. Ok (make m.0, m.1)) (λ bs more. number_keeps more bs bits) bytes (number_ends bytes bits some)
    (λ n rest read cut. absurd (not_cut (make n, rest) (Ok (make n, rest)) refl cut))
    (λ n whole read. record { more = []; are = none_more; value = make n; read = refl })
    h

binary_value_ends : (bytes : List ℕ) → ◌>>=◌ {B = Value × List ℕ} (binary_at bytes) (λ b. Ok (binary b.0, b.1)) ≡ Err Cut → Ends (λ bs. binary_at bs >>= λ b. Ok (binary b.0, b.1)) bytes
binary_value_ends bytes h =
    then_ends binary_at (λ b. Ok (binary b.0, b.1)) (λ bs more. binary_keeps more bs) bytes (binary_ends bytes)
    (λ b rest read cut. absurd (not_cut (binary b, rest) (Ok (binary b, rest)) refl cut))
    (λ b whole read. record { more = []; are = none_more; value = binary b; read = refl })
    h

-- the shortest value of each type
least : (n : ℕ) (kind : Kind) → 0 < n → Ends (value_at n kind) []
unfolding varint_at binary_at
least zero kind some = absurd (omega arith)
least (suc n) Whole32 some = record { more = 0 ∷ []; are = single 0 (omega arith); value = whole32 (pos 0); read = refl }
least (suc n) Whole64 some = record { more = 0 ∷ []; are = single 0 (omega arith); value = whole64 (pos 0); read = refl }
least (suc n) Binary some = record { more = 0 ∷ []; are = single 0 (omega arith); value = binary []; read = refl }
least (suc n) ListKind some = record { more = 12 ∷ []; are = single 12 (omega arith); value = list no_items; read = refl }
least (suc n) Struct some = record { more = 0 ∷ []; are = single 0 (omega arith); value = struct no_fields; read = refl }

list_ends : (n : ℕ) → AllEnd (value_at n) → (bytes : List ℕ) → AreBytes bytes → list_at n (value_at n) bytes ≡ Err Cut → Ends (list_at n (value_at n)) bytes
list_ends n ends bytes fits h =
    let inner = value_at n in
    let all = λ (more : List ℕ). value_keeps more n in
    then_ends (list_header_at n) (λ header. items_at (inner header.0.1) header.0.0 header.1) (λ bs more. header_keeps more bs n) bytes (header_ends n bytes fits)
    (λ header rest read cut.
    let left : AreBytes rest = header_left n bytes header.0 header.1 rest fits read in
    items_end inner all n (value_takes n) header.1 ends header.0 (λ some. least n header.1 (header_level n bytes header.0 header.1 rest read some)) rest left cut)
    (λ header whole read. begins header.0 header.1 whole read)
    h
  where
    begins : (size : ℕ) (kind : Kind) (whole : List ℕ) → list_header_at n whole ≡ Ok ((size, kind), []) → Ends (items_at (value_at n kind) size) []
    begins zero kind whole read = record { more = []; are = none_more; value = no_items; read = refl }
    begins (suc m) kind whole read = items_begin (value_at n) (λ more. value_keeps more n) kind (least n kind (header_level n whole (suc m) kind [] read (omega arith))) (suc m)

by_ends : (n : ℕ) → AllEnd (value_at n) → AllEnd (value_by n (value_at n))
by_ends n ends Whole32 bytes fits h = number_value_ends 32 (λ m. whole32 (unzigzag m)) bytes (omega arith) h
by_ends n ends Whole64 bytes fits h = number_value_ends 64 (λ m. whole64 (unzigzag m)) bytes (omega arith) h
by_ends n ends Binary bytes fits h = binary_value_ends bytes h
by_ends n ends ListKind bytes fits h =
    elim (cut_by (list_at n (value_at n) bytes) (λ vs. Ok (list vs.0, vs.1)) h) [
      | inl c ↦
          let e = list_ends n ends bytes fits c in
          let whole : value_by n (value_at n) ListKind (bytes ++ e.more) ≡ Ok (list e.value, []) = rw e.read refl in
          record { more = e.more; are = e.are; value = list e.value; read = whole }
      | inr p ↦ absurd (not_cut (list p.0, p.1) (Ok (list p.0, p.1)) refl p.3)
    ]
by_ends n ends Struct bytes fits h =
    elim (cut_by (struct_at (value_at n) bytes) (λ fs. Ok (struct fs.0, fs.1)) h) [
      | inl c ↦
          let e = fields_end (value_at n) (λ more. value_keeps more n) n (value_takes n) ends (length bytes) 0 bytes fits (omega arith) c in
          let read = e.read (length (bytes ++ e.more)) (omega arith) in
          let whole : value_by n (value_at n) Struct (bytes ++ e.more) ≡ Ok (struct e.value, []) = rw read refl in
          record { more = e.more; are = e.are; value = struct e.value; read = whole }
      | inr p ↦ absurd (not_cut (struct p.0, p.1) (Ok (struct p.0, p.1)) refl p.3)
    ]

value_ends : (n : ℕ) → AllEnd (value_at n)
value_ends zero kind bytes fits h = absurd (deep h)
  where
    deep : (let r : Reading Value = Err Deep in r ≡ Err Cut) → ⊥
    deep k = cc
value_ends (suc n) kind bytes fits h = by_ends n (value_ends n) kind bytes fits h

pub tree_ends : (bytes : List ℕ) → AreBytes bytes → tree_at bytes ≡ Err Cut → Ends tree_at bytes
unfolding tree_at
tree_ends bytes fits h = let e = value_ends 8 Struct bytes fits h in record { more = e.more; are = e.are; value = e.value; read = e.read }
