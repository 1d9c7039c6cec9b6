-- What is read is spelled so.
use Rattle.std.proofs.Common.{◌≡◌, ◌≢◌, ℕ, zero, suc, ◌+◌, ◌-◌, ◌*◌, ◌/◌, ◌%◌, ◌<◌, ◌≤◌, ◌^◌, Bool, true, false, cond, ◌&&◌, ◌||◌, ◌⊎◌, inl, inr, pos, negsuc, FitsSigned, w32, w64, List, [], ◌∷◌, ◌++◌, length, take, drop, Result, Ok, Err, refl, sym, ap, ap₂, subst, ◌∙◌, arith, nat_lt, nat_le, ◌==◌, append_assoc}
use Rattle.std.proofs.lemmas.List.{take-append-drop}
use Rattle.std.proofs.lemmas.Grind.{common_steps}
use Rattle.std.proofs.lemmas.Bool.Decides.{nat_tests}
use Rattle.fd_thrift.specs.declared.fault.ThriftFault.{ThriftFault}
use Rattle.fd_thrift.specs.declared.fault.ThriftFault.TheVariants.{Cut, BadType, BadSize, Deep}
use Rattle.fd_thrift.specs.declared.kind.Kind.{Kind}
use Rattle.fd_thrift.specs.declared.kind.Kind.TheVariants.{Whole32, Whole64, Binary, List as ListKind, Struct}
use Rattle.fd_thrift.specs.Values.{Value, whole32, whole64, binary, list, struct, Items, no_items, item, Fields, no_fields, field}
use Rattle.fd_thrift.specs.Format.{zigzag, varint_within, varint, code_of, kind_of, items_kind, items_len, list_header, spelling, items_spelling, fields_spelling, levels, items_levels, fields_levels, AreOfKind, IsFormed, AreFormedItems, AreFormedFields, Fits, FitItems, FitFields, Spells}
use Rattle.fd_thrift.specs.Reader.{◌>>=◌, Reading, varint_from, varint_at, unzigzag, binary_at, kind_at, is_struct, size_at, list_header_at, next_id, items_at, list_at, fields_within, struct_at, value_by, value_at, tree_at, AreBytes}
use Rattle.fd_thrift.proofs.VarintLoop.{seven}

-- ---- answers

pub bind_ok : {A B : Type 0} (r : Result A ThriftFault) (f : A → Result B ThriftFault) (y : B) → (r >>= f) ≡ Ok y → (x : A) × (r ≡ Ok x) × (f x ≡ Ok y)
bind_ok (Ok x) f y h = (x, refl, h)
bind_ok (Err e) f y h = cc

pub chosen : {A : Type 0} (b : Bool) (x y z : A) → cond b x y ≡ z → ((b ≡ true) × (x ≡ z)) ⊎ ((b ≡ false) × (y ≡ z))
chosen true x y z h = inl (refl, h)
chosen false x y z h = inr (refl, h)

guard : {A : Type 0} (b : Bool) (e : ThriftFault) (r : Result A ThriftFault) (y : A) → cond b (Err e) r ≡ Ok y → (b ≡ false) × (r ≡ Ok y)
guard true e r y h = cc
guard false e r y h = (refl, h)

abbrev value_in : {A : Type 0} → A → Result A ThriftFault → A
value_in d (Ok x) = x
value_in d (Err e) = d

pub ok_is : {A : Type 0} (x y : A) (r : Result A ThriftFault) → r ≡ Ok x → r ≡ Ok y → x ≡ y
ok_is x y r h g = ap (value_in x) (sym h ∙ g)

pub no_ok : {A : Type 0} (e : ThriftFault) (y : A) (r : Result A ThriftFault) → r ≡ Err e → r ≡ Ok y → ⊥
no_ok e y r h g = cc

-- ---- bytes

pub bytes_rest : (front rest : List ℕ) → AreBytes (front ++ rest) → AreBytes rest
bytes_rest [] rest h i = h i
bytes_rest (b ∷ front) rest h i = bytes_rest front rest (λ k. h (suc k)) i

-- ---- numbers

-- a number and the bytes behind it, with its spelling in front
abbrev pub TakesNumber : Bool → ℕ → ℕ → List ℕ → ℕ → List ℕ → Type 0
TakesNumber later bits most bytes n rest = (bytes ≡ varint_within most n ++ rest) × (n < 2 ^ bits) × (later ≡ true → 0 < n)

not_over : (first : Bool) (bits b : ℕ) → first || nat_le (2 ^ bits) b ≡ false → b < 2 ^ bits
not_over true bits b h = cc
not_over false bits b h = grind (arith, nat_tests)

not_none : (later : Bool) (b : ℕ) (second : Bool) → (later && (b == 0)) || second ≡ false → later ≡ true → 0 < b
not_none true zero second h e = cc
not_none true (suc b) second h e = omega arith
not_none false b second h e = cc

at_once : (most b : ℕ) → b < 128 → varint_within most b ≡ b ∷ []
at_once zero b small = refl
at_once (suc most) b small = let last : nat_lt b 128 ≡ true = grind (arith, nat_tests) in rw last refl

last_takes : (later : Bool) (bits most b : ℕ) (bs : List ℕ) → b < 128 → (later && (b == 0)) || nat_le (2 ^ bits) b ≡ false → TakesNumber later bits most (b ∷ bs) b bs
last_takes later bits most b bs small right =
    (ap (λ xs. xs ++ bs) (sym (at_once most b small)), not_over (later && (b == 0)) bits b right, not_none later b (nat_le (2 ^ bits) b) right)

next_takes : (later : Bool) (bits most b high : ℕ) (bs rest : List ℕ) → 128 ≤ b → b < 256 → 7 < bits → TakesNumber true (bits - 7) most bs high rest
    → TakesNumber later bits (suc most) (b ∷ bs) ((b - 128) + 128 * high) rest
next_takes later bits most b high bs rest big byte long t =
    let n = (b - 128) + 128 * high in
    let positive : 0 < high = t.2 refl in
    let more : nat_lt ((b - 128) + 128 * high) 128 ≡ false = grind (arith, nat_tests) in
    let low : 128 + ((b - 128) + 128 * high) % 128 ≡ b = omega arith in
    let top : ((b - 128) + 128 * high) / 128 ≡ high = omega arith in
    let whole = seven bits (omega arith) in
    (rw (more, low, top) (ap (λ xs. b ∷ xs) t.0), omega (arith, t.1, whole), λ e. omega (arith, positive))

pub number_takes : (bytes : List ℕ) (later : Bool) (bits most n : ℕ) (rest : List ℕ) → AreBytes bytes → bits ≤ 7 * most + 7 → varint_from later bits bytes ≡ Ok (n, rest)
    → TakesNumber later bits most bytes n rest
number_takes [] later bits most n rest fits enough h = absurd (no_ok Cut (n, rest) (Err Cut) refl h)
number_takes (b ∷ bs) later bits most n rest fits enough h =
    elim (chosen (nat_lt b 128) _ _ _ h) [
      | inl p ↦
          let small : b < 128 = is_small b p.0 in
          let g = guard ((later && (b == 0)) || nat_le (2 ^ bits) b) BadSize (Ok (b, bs)) (n, rest) p.1 in
          let e = ok_is (b, bs) (n, rest) (Ok (b, bs)) refl g.1 in
          subst (λ (x : ℕ × List ℕ). TakesNumber later bits most (b ∷ bs) x.0 x.1) e (last_takes later bits most b bs small g.0)
      | inr p ↦
          let big : 128 ≤ b = is_big b p.0 in
          let g = guard (nat_le bits 7) BadSize (varint_from true (bits - 7) bs >>= λ high. Ok ((b - 128) + 128 * high.0, high.1)) (n, rest) p.1 in
          let long : 7 < bits = is_long bits g.0 in
          let r = bind_ok (varint_from true (bits - 7) bs) (λ high. Ok ((b - 128) + 128 * high.0, high.1)) (n, rest) g.1 in
          let e = ok_is ((b - 128) + 128 * r.0.0, r.0.1) (n, rest) (Ok ((b - 128) + 128 * r.0.0, r.0.1)) refl r.2 in
          let less : most ≡ suc (most - 1) = omega arith in
          let t = number_takes bs true (bits - 7) (most - 1) r.0.0 r.0.1 (λ i. fits (suc i)) (omega arith) r.1 in
          let whole : TakesNumber later bits (suc (most - 1)) (b ∷ bs) ((b - 128) + 128 * r.0.0) r.0.1 = next_takes later bits (most - 1) b r.0.0 bs r.0.1 big (fits 0) long t in
          subst (λ (x : ℕ × List ℕ). TakesNumber later bits most (b ∷ bs) x.0 x.1) e (subst (λ m. TakesNumber later bits m (b ∷ bs) ((b - 128) + 128 * r.0.0) r.0.1) (sym less) whole)
    ]
  where
    is_small : (b : ℕ) → nat_lt b 128 ≡ true → b < 128
    is_small b h = grind (arith, nat_tests)

    is_big : (b : ℕ) → nat_lt b 128 ≡ false → 128 ≤ b
    is_big b h = grind (arith, nat_tests)

    is_long : (bits : ℕ) → nat_le bits 7 ≡ false → 7 < bits
    is_long bits h = grind (arith, nat_tests)

pub varint_takes : (bits : ℕ) (bytes : List ℕ) (n : ℕ) (rest : List ℕ) → AreBytes bytes → bits ≤ 64 → varint_at bits bytes ≡ Ok (n, rest)
    → (bytes ≡ varint n ++ rest) × (n < 2 ^ bits) × AreBytes rest
unfolding varint varint_at
varint_takes bits bytes n rest fits within h =
    let t = number_takes bytes false bits 9 n rest fits (omega arith) h in
    (t.0, t.1, bytes_rest (varint_within 9 n) rest (λ i. rw (← t.0) (fits i)))

-- ---- signed numbers

zigzag_back : (n : ℕ) → zigzag (unzigzag n) ≡ n
zigzag_back n =
    elim (either (n % 2 == 0)) [
      | inl even ↦ let e : n % 2 ≡ 0 = is_even n even in rw even (omega arith)
      | inr odd ↦ let e : n % 2 ≡ 1 = is_odd n odd in rw odd (omega arith)
    ]
  where
    either : (b : Bool) → (b ≡ true) ⊎ (b ≡ false)
    either true = inl refl
    either false = inr refl

    is_even : (n : ℕ) → (n % 2 == 0) ≡ true → n % 2 ≡ 0
    is_even n h = grind (arith, nat_tests)

    is_odd : (n : ℕ) → (n % 2 == 0) ≡ false → n % 2 ≡ 1
    is_odd n h = grind (arith, nat_tests)

narrow : (n : ℕ) → n < 2 ^ 32 → FitsSigned w32 (unzigzag n)
narrow n below = by_test (n % 2 == 0)
  where
    by_test : (b : Bool) → FitsSigned w32 (cond b (pos (n / 2)) (negsuc (n / 2)))
    by_test true = record { sfits = omega arith }
    by_test false = record { sfits = omega arith }

broad : (n : ℕ) → n < 2 ^ 64 → FitsSigned w64 (unzigzag n)
broad n below = by_test (n % 2 == 0)
  where
    by_test : (b : Bool) → FitsSigned w64 (cond b (pos (n / 2)) (negsuc (n / 2)))
    by_test true = record { sfits = omega arith }
    by_test false = record { sfits = omega arith }

-- ---- binary

is_enough : (m n : ℕ) → nat_lt m n ≡ false → n ≤ m
is_enough m n h = grind (arith, nat_tests)

size_of_take : (n : ℕ) (xs : List ℕ) → n ≤ length xs → length (take n xs) ≡ n
size_of_take n xs h = grind (arith, common_steps)

pub binary_takes : (bytes content rest : List ℕ) → AreBytes bytes → binary_at bytes ≡ Ok (content, rest)
    → (bytes ≡ (varint (length content) ++ content) ++ rest) × (length content < 2 ^ 64) × AreBytes rest
unfolding binary_at
binary_takes bytes content rest fits h =
    let r = bind_ok (varint_at 64 bytes) (λ size. cond (nat_lt (length size.1) size.0) (Err Cut) (Ok (take size.0 size.1, drop size.0 size.1))) (content, rest) h in
    let size = r.0.0 in
    let behind = r.0.1 in
    let t = varint_takes 64 bytes size behind fits (omega arith) r.1 in
    let g = guard (nat_lt (length behind) size) Cut (Ok (take size behind, drop size behind)) (content, rest) r.2 in
    let e = ok_is (take size behind, drop size behind) (content, rest) (Ok (take size behind, drop size behind)) refl g.1 in
    let long : length (take size behind) ≡ size = size_of_take size behind (is_enough (length behind) size g.0) in
    let split : take size behind ++ drop size behind ≡ behind = take-append-drop size behind in
    let whole : bytes ≡ (varint (length (take size behind)) ++ take size behind) ++ drop size behind =
    t.0 ∙ ap (λ xs. varint size ++ xs) (sym split) ∙ sym (append_assoc (varint size) (take size behind) (drop size behind)) ∙ ap (λ n. (varint n ++ take size behind) ++ drop size behind) (sym long) in
    let left : AreBytes (drop size behind) = bytes_rest (take size behind) (drop size behind) (λ i. rw split (t.2 i)) in
    subst (λ (x : List ℕ × List ℕ). (bytes ≡ (varint (length x.0) ++ x.0) ++ x.1) × (length x.0 < 2 ^ 64) × AreBytes x.1) e (whole, omega (arith, long, t.1), left)

-- ---- headers

pub was : (n m : ℕ) → (n == m) ≡ true → n ≡ m
was n m h = grind (arith, nat_tests)

pub was_not : (n m : ℕ) → (n == m) ≡ false → n ≢ m
was_not n m h = grind (arith, nat_tests)

kind_is : (code k : ℕ) (a b : Kind) → code ≡ k → k ≡ code_of a → (let r : Result Kind ThriftFault = Ok a in r ≡ Ok b) → code ≡ code_of b
kind_is code k a b is named h = is ∙ named ∙ ap code_of (ok_is a b (Ok a) refl h)

pub kind_takes : (code : ℕ) (kind : Kind) → kind_at code ≡ Ok kind → code ≡ code_of kind
kind_takes code kind h =
    elim (chosen (code == 5) _ _ _ h) [
      | inl p ↦ kind_is code 5 Whole32 kind (was code 5 p.0) refl p.1
      | inr p ↦ elim (chosen (code == 6) _ _ _ p.1) [
        | inl q ↦ kind_is code 6 Whole64 kind (was code 6 q.0) refl q.1
        | inr q ↦ elim (chosen (code == 8) _ _ _ q.1) [
          | inl r ↦ kind_is code 8 Binary kind (was code 8 r.0) refl r.1
          | inr r ↦ elim (chosen (code == 9) _ _ _ r.1) [
            | inl s ↦ kind_is code 9 ListKind kind (was code 9 s.0) refl s.1
            | inr s ↦ elim (chosen (code == 12) _ _ _ s.1) [
              | inl t ↦ kind_is code 12 Struct kind (was code 12 t.0) refl t.1
              | inr t ↦ absurd (no_ok BadType kind (Err BadType) refl t.1)
            ]
          ]
        ]
      ]
    ]

next_takes_id : (last step id : ℕ) → next_id last step ≡ Ok id → (0 < step) × (id ≡ last + step) × (id ≤ 32767)
next_takes_id last step id h =
    let g = guard ((step == 0) || nat_lt 32767 (last + step)) BadType (Ok (last + step)) id h in
    let e = ok_is (last + step) id (Ok (last + step)) refl g.1 in
    let t = right step (last + step) g.0 in
    (t.0, sym e, omega (arith, t.1, e))
  where
    right : (step id : ℕ) → (step == 0) || nat_lt 32767 id ≡ false → (0 < step) × (id ≤ 32767)
    right zero id h = cc
    right (suc n) id h = (omega arith, grind (arith, nat_tests))

-- a list's header: its bytes, and the size and the type that it tells
record TakesHeader (bytes : List ℕ) (size : ℕ) (kind : Kind) (rest : List ℕ) : Type 0 where
  whole : bytes ≡ list_header size kind ++ rest
  below : size < 2 ^ 64
  none : size ≡ 0 → kind ≡ Struct
  left : AreBytes rest

struct_chosen : {A : Type 0} (kind : Kind) (x y : A) → cond (is_struct kind) (Ok x) (Err BadType) ≡ Ok y → (kind ≡ Struct) × (x ≡ y)
struct_chosen Whole32 x y h = cc
struct_chosen Whole64 x y h = cc
struct_chosen Binary x y h = cc
struct_chosen ListKind x y h = cc
struct_chosen Struct x y h = (refl, ok_is x y (Ok x) refl h)

size_takes : (levels half size : ℕ) (kind : Kind) (bytes rest : List ℕ) → half < 16 → AreBytes bytes → size_at levels half kind bytes ≡ Ok (size, rest)
    → TakesHeader ((16 * half + code_of kind) ∷ bytes) size kind rest
size_takes levels half size kind bytes rest nibble fits h =
    elim (chosen (half == 0) _ _ _ h) [
      | inl p ↦
          let none : half ≡ 0 = was half 0 p.0 in
          let c = struct_chosen kind (0, bytes) (size, rest) p.1 in
          let all : TakesHeader ((16 * 0 + code_of kind) ∷ bytes) 0 kind bytes = record { whole = refl; below = omega arith; none = λ _. c.0; left = fits } in
          subst (λ (x : ℕ × List ℕ). TakesHeader ((16 * half + code_of kind) ∷ bytes) x.0 kind x.1) c.1 (subst (λ n. TakesHeader ((16 * n + code_of kind) ∷ bytes) 0 kind bytes) (sym none) all)
      | inr p ↦
          let some = was_not half 0 p.0 in
          let d = guard (levels == 0) Deep (cond (half == 15) (varint_at 64 bytes >>= λ n. cond (nat_lt n.0 15) (Err BadSize) (Ok n)) (Ok (half, bytes))) (size, rest) p.1 in
          elim (chosen (half == 15) _ _ _ d.1) [
            | inl q ↦
                let top : half ≡ 15 = was half 15 q.0 in
                let r = bind_ok (varint_at 64 bytes) (λ n. cond (nat_lt n.0 15) (Err BadSize) (Ok n)) (size, rest) q.1 in
                let g = guard (nat_lt r.0.0 15) BadSize (Ok r.0) (size, rest) r.2 in
                let e = ok_is r.0 (size, rest) (Ok r.0) refl g.1 in
                let is : r.0.0 ≡ size = ap (λ (x : ℕ × List ℕ). x.0) e in
                let t = varint_takes 64 bytes size rest fits (omega arith) (r.1 ∙ ap (λ (x : ℕ × List ℕ). Ok x) e) in
                let long : nat_lt size 15 ≡ false = ap (λ n. nat_lt n 15) (sym is) ∙ g.0 in
                record {
                  whole = rw (top, long) (ap (λ xs. (16 * 15 + code_of kind) ∷ xs) t.0);
                  below = t.1;
                  none = λ z. absurd (omega (arith, is_enough size 15 long, z));
                  left = t.2;
                }
            | inr q ↦
                let short : half < 15 = omega (arith, was_not half 15 q.0) in
                let e = ok_is (half, bytes) (size, rest) (Ok (half, bytes)) refl q.1 in
                let in_byte : nat_lt half 15 ≡ true = grind (arith, nat_tests) in
                let all : TakesHeader ((16 * half + code_of kind) ∷ bytes) half kind bytes = record {
                  whole = rw in_byte refl;
                  below = omega arith;
                  none = λ z. absurd (some z);
                  left = fits;
                } in
                subst (λ (x : ℕ × List ℕ). TakesHeader ((16 * half + code_of kind) ∷ bytes) x.0 kind x.1) e all
          ]
    ]

header_takes : (levels : ℕ) (bytes : List ℕ) (size : ℕ) (kind : Kind) (rest : List ℕ) → AreBytes bytes → list_header_at levels bytes ≡ Ok ((size, kind), rest) → TakesHeader bytes size kind rest
header_takes levels [] size kind rest fits h = absurd (no_ok Cut ((size, kind), rest) (Err Cut) refl h)
header_takes levels (b ∷ bs) size kind rest fits h =
    let k = bind_ok (kind_at (b % 16)) (λ k. size_at levels (b / 16) k bs >>= λ n. Ok ((n.0, k), n.1)) ((size, kind), rest) h in
    let n = bind_ok (size_at levels (b / 16) k.0 bs) (λ n. Ok ((n.0, k.0), n.1)) ((size, kind), rest) k.2 in
    let code = kind_takes (b % 16) k.0 k.1 in
    let byte : b < 256 = fits 0 in
    let t = size_takes levels (b / 16) n.0.0 k.0 bs n.0.1 (omega arith) (λ i. fits (suc i)) n.1 in
    let first : 16 * (b / 16) + code_of k.0 ≡ b = omega (arith, code) in
    let e = ok_is ((n.0.0, k.0), n.0.1) ((size, kind), rest) (Ok ((n.0.0, k.0), n.0.1)) refl n.2 in
    subst (λ (x : (ℕ × Kind) × List ℕ). TakesHeader (b ∷ bs) x.0.0 x.0.1 x.1) e (subst (λ c. TakesHeader (c ∷ bs) n.0.0 k.0 n.0.1) first t)

pub header_left : (levels : ℕ) (bytes : List ℕ) (size : ℕ) (kind : Kind) (rest : List ℕ) → AreBytes bytes → list_header_at levels bytes ≡ Ok ((size, kind), rest) → AreBytes rest
header_left levels bytes size kind rest fits h = (header_takes levels bytes size kind rest fits h).left

-- ---- values

-- a value of this type and the bytes behind it, with its spelling in front
pub record TakesValue (n : ℕ) (kind : Kind) (bytes : List ℕ) (v : Value) (rest : List ℕ) : Type 0 where
  pub whole : bytes ≡ spelling v ++ rest
  pub of_kind : kind_of v ≡ kind
  pub within : levels v ≤ n
  pub fits : Fits v
  pub formed : IsFormed v
  pub left : AreBytes rest

record TakesItems (n : ℕ) (kind : Kind) (count : ℕ) (bytes : List ℕ) (vs : Items) (rest : List ℕ) : Type 0 where
  whole : bytes ≡ items_spelling vs ++ rest
  size : items_len vs ≡ count
  same : AreOfKind kind vs
  within : items_levels vs ≤ n
  fits : FitItems vs
  formed : AreFormedItems vs
  left : AreBytes rest

record TakesFields (n last : ℕ) (bytes : List ℕ) (fs : Fields) (rest : List ℕ) : Type 0 where
  whole : bytes ≡ fields_spelling last fs ++ rest
  within : fields_levels fs ≤ n
  fits : FitFields fs
  formed : AreFormedFields last fs
  left : AreBytes rest

-- what the values inside do
abbrev pub IsTaken : ℕ → (Kind → List ℕ → Reading Value) → Type 0
IsTaken n inner = (kind : Kind) (bytes : List ℕ) (v : Value) (rest : List ℕ) → AreBytes bytes → inner kind bytes ≡ Ok (v, rest) → TakesValue n kind bytes v rest

items_takes : (n : ℕ) (inner : Kind → List ℕ → Reading Value) (kind : Kind) → IsTaken n inner → (count : ℕ) (bytes : List ℕ) (vs : Items) (rest : List ℕ)
    → AreBytes bytes → items_at (inner kind) count bytes ≡ Ok (vs, rest) → TakesItems n kind count bytes vs rest
items_takes n inner kind taken zero bytes vs rest fits h =
    let none : TakesItems n kind 0 bytes no_items bytes = record { whole = refl; size = refl; same = tt; within = omega arith; fits = tt; formed = tt; left = fits } in
    subst (λ (x : Items × List ℕ). TakesItems n kind 0 bytes x.0 x.1) (ok_is (no_items, bytes) (vs, rest) (Ok (no_items, bytes)) refl h) none
items_takes n inner kind taken (suc count) bytes vs rest fits h =
    let a = bind_ok (inner kind bytes) (λ first. items_at (inner kind) count first.1 >>= λ others. Ok (item first.0 others.0, others.1)) (vs, rest) h in
    let b = bind_ok (items_at (inner kind) count a.0.1) (λ others. Ok (item a.0.0 others.0, others.1)) (vs, rest) a.2 in
    let v = a.0.0 in
    let ws = b.0.0 in
    let one = taken kind bytes v a.0.1 fits a.1 in
    let more = items_takes n inner kind taken count a.0.1 ws b.0.1 one.left b.1 in
    let all : TakesItems n kind (suc count) bytes (item v ws) b.0.1 = record {
      whole = one.whole ∙ ap (λ xs. spelling v ++ xs) more.whole ∙ sym (append_assoc (spelling v) (items_spelling ws) b.0.1);
      size = ap suc more.size;
      same = (one.of_kind, more.same);
      within = omega (arith, one.within, more.within);
      fits = (one.fits, more.fits);
      formed = (one.formed, more.formed);
      left = more.left;
    } in
    subst (λ (x : Items × List ℕ). TakesItems n kind (suc count) bytes x.0 x.1) (ok_is (item v ws, b.0.1) (vs, rest) (Ok (item v ws, b.0.1)) refl b.2) all

-- a field, and those behind it
field_takes : (n last h id : ℕ) (kind : Kind) (v : Value) (fs : Fields) (bs rest end : List ℕ) → h < 256 → kind_at (h % 16) ≡ Ok kind → next_id last (h / 16) ≡ Ok id
    → TakesValue n kind bs v rest → TakesFields n id rest fs end → TakesFields n last (h ∷ bs) (field (pos id) v fs) end
field_takes n last h id kind v fs bs rest end byte kinds ids one more =
    let code = kind_takes (h % 16) kind kinds in
    let next = next_takes_id last (h / 16) id ids in
    let named : code_of (kind_of v) ≡ code_of kind = ap code_of one.of_kind in
    let header : 16 * (id - last) + code_of (kind_of v) ≡ h = omega (arith, code, named, next.1) in
    record {
      whole = ap (λ xs. h ∷ xs) (one.whole ∙ ap (λ xs. spelling v ++ xs) more.whole ∙ sym (append_assoc (spelling v) (fields_spelling id fs) end)) ∙ ap (λ b. b ∷ ((spelling v ++ fields_spelling id fs) ++ end)) (sym header);
      within = omega (arith, one.within, more.within);
      fits = (one.fits, more.fits);
      formed = ((omega (arith, next.0, next.1), omega (arith, next.1), next.2), one.formed, more.formed);
      left = more.left;
    }

fields_takes : (n : ℕ) (inner : Kind → List ℕ → Reading Value) → IsTaken n inner → (most last : ℕ) (bytes : List ℕ) (fs : Fields) (rest : List ℕ)
    → AreBytes bytes → fields_within inner most last bytes ≡ Ok (fs, rest) → TakesFields n last bytes fs rest
fields_takes n inner taken zero last bytes fs rest fits h = absurd (no_ok Cut (fs, rest) (Err Cut) refl h)
fields_takes n inner taken (suc most) last [] fs rest fits h = absurd (no_ok Cut (fs, rest) (Err Cut) refl h)
fields_takes n inner taken (suc most) last (b ∷ bs) fs rest fits h =
    elim (chosen (b == 0) _ _ _ h) [
      | inl p ↦
          let none : TakesFields n last (0 ∷ bs) no_fields bs = record { whole = refl; within = omega arith; fits = tt; formed = tt; left = λ i. fits (suc i) } in
          let e = ok_is (no_fields, bs) (fs, rest) (Ok (no_fields, bs)) refl p.1 in
          subst (λ (x : Fields × List ℕ). TakesFields n last (b ∷ bs) x.0 x.1) e (subst (λ c. TakesFields n last (c ∷ bs) no_fields bs) (sym (was b 0 p.0)) none)
      | inr p ↦
          let k = bind_ok (kind_at (b % 16)) (λ kind. next_id last (b / 16) >>= λ id. inner kind bs >>= λ value. fields_within inner most id value.1 >>= λ others. Ok (field (pos id) value.0 others.0, others.1)) (fs, rest) p.1 in
          let i = bind_ok (next_id last (b / 16)) (λ id. inner k.0 bs >>= λ value. fields_within inner most id value.1 >>= λ others. Ok (field (pos id) value.0 others.0, others.1)) (fs, rest) k.2 in
          let v = bind_ok (inner k.0 bs) (λ value. fields_within inner most i.0 value.1 >>= λ others. Ok (field (pos i.0) value.0 others.0, others.1)) (fs, rest) i.2 in
          let o = bind_ok (fields_within inner most i.0 v.0.1) (λ others. Ok (field (pos i.0) v.0.0 others.0, others.1)) (fs, rest) v.2 in
          let one = taken k.0 bs v.0.0 v.0.1 (λ j. fits (suc j)) v.1 in
          let more = fields_takes n inner taken most i.0 v.0.1 o.0.0 o.0.1 one.left o.1 in
          let all = field_takes n last b i.0 k.0 v.0.0 o.0.0 bs v.0.1 o.0.1 (fits 0) k.1 i.1 one more in
          subst (λ (x : Fields × List ℕ). TakesFields n last (b ∷ bs) x.0 x.1) (ok_is (field (pos i.0) v.0.0 o.0.0, o.0.1) (fs, rest) (Ok (field (pos i.0) v.0.0 o.0.0, o.0.1)) refl o.2) all
    ]

kind_of_items : (vs : Items) (kind : Kind) → AreOfKind kind vs → (items_len vs ≡ 0 → kind ≡ Struct) → items_kind vs ≡ kind
kind_of_items no_items kind same none = sym (none refl)
kind_of_items (item v vs) kind same none = same.0

list_takes : (n : ℕ) (inner : Kind → List ℕ → Reading Value) → IsTaken n inner → (bytes : List ℕ) (vs : Items) (rest : List ℕ) → AreBytes bytes → list_at n inner bytes ≡ Ok (vs, rest)
    → TakesValue (suc n) ListKind bytes (list vs) rest
list_takes n inner taken bytes vs rest fits h =
    let a = bind_ok (list_header_at n bytes) (λ header. items_at (inner header.0.1) header.0.0 header.1) (vs, rest) h in
    let size = a.0.0.0 in
    let kind = a.0.0.1 in
    let head = header_takes n bytes size kind a.0.1 fits a.1 in
    let body = items_takes n inner kind taken size a.0.1 vs rest head.left a.2 in
    let named : items_kind vs ≡ kind = kind_of_items vs kind body.same (λ z. head.none (sym body.size ∙ z)) in
    record {
      whole = head.whole ∙ ap (λ xs. list_header size kind ++ xs) body.whole ∙ sym (append_assoc (list_header size kind) (items_spelling vs) rest)
          ∙ ap₂ (λ m k. (list_header m k ++ items_spelling vs) ++ rest) (sym body.size) (sym named);
      of_kind = refl;
      within = omega (arith, body.within);
      fits = (omega (arith, body.size, head.below), body.fits);
      formed = (subst (λ k. AreOfKind k vs) (sym named) body.same, body.formed);
      left = body.left;
    }

by_takes : (n : ℕ) (inner : Kind → List ℕ → Reading Value) → IsTaken n inner → IsTaken (suc n) (value_by n inner)
by_takes n inner taken Whole32 bytes v rest fits h =
    let r = bind_ok (varint_at 32 bytes) (λ m. Ok (whole32 (unzigzag m.0), m.1)) (v, rest) h in
    let t = varint_takes 32 bytes r.0.0 r.0.1 fits (omega arith) r.1 in
    let all : TakesValue (suc n) Whole32 bytes (whole32 (unzigzag r.0.0)) r.0.1 = record {
      whole = t.0 ∙ ap (λ m. varint m ++ r.0.1) (sym (zigzag_back r.0.0));
      of_kind = refl;
      within = omega arith;
      fits = narrow r.0.0 t.1;
      formed = tt;
      left = t.2;
    } in
    subst (λ (x : Value × List ℕ). TakesValue (suc n) Whole32 bytes x.0 x.1) (ok_is (whole32 (unzigzag r.0.0), r.0.1) (v, rest) (Ok (whole32 (unzigzag r.0.0), r.0.1)) refl r.2) all
by_takes n inner taken Whole64 bytes v rest fits h =
    let r = bind_ok (varint_at 64 bytes) (λ m. Ok (whole64 (unzigzag m.0), m.1)) (v, rest) h in
    let t = varint_takes 64 bytes r.0.0 r.0.1 fits (omega arith) r.1 in
    let all : TakesValue (suc n) Whole64 bytes (whole64 (unzigzag r.0.0)) r.0.1 = record {
      whole = t.0 ∙ ap (λ m. varint m ++ r.0.1) (sym (zigzag_back r.0.0));
      of_kind = refl;
      within = omega arith;
      fits = broad r.0.0 t.1;
      formed = tt;
      left = t.2;
    } in
    subst (λ (x : Value × List ℕ). TakesValue (suc n) Whole64 bytes x.0 x.1) (ok_is (whole64 (unzigzag r.0.0), r.0.1) (v, rest) (Ok (whole64 (unzigzag r.0.0), r.0.1)) refl r.2) all
by_takes n inner taken Binary bytes v rest fits h =
    let r = bind_ok (binary_at bytes) (λ b. Ok (binary b.0, b.1)) (v, rest) h in
    let t = binary_takes bytes r.0.0 r.0.1 fits r.1 in
    let all : TakesValue (suc n) Binary bytes (binary r.0.0) r.0.1 = record {
      whole = t.0;
      of_kind = refl;
      within = omega arith;
      fits = t.1;
      formed = tt;
      left = t.2;
    } in
    subst (λ (x : Value × List ℕ). TakesValue (suc n) Binary bytes x.0 x.1) (ok_is (binary r.0.0, r.0.1) (v, rest) (Ok (binary r.0.0, r.0.1)) refl r.2) all
by_takes n inner taken ListKind bytes v rest fits h =
    let r = bind_ok (list_at n inner bytes) (λ vs. Ok (list vs.0, vs.1)) (v, rest) h in
    subst (λ (x : Value × List ℕ). TakesValue (suc n) ListKind bytes x.0 x.1) (ok_is (list r.0.0, r.0.1) (v, rest) (Ok (list r.0.0, r.0.1)) refl r.2) (list_takes n inner taken bytes r.0.0 r.0.1 fits r.1)
by_takes n inner taken Struct bytes v rest fits h =
    let r = bind_ok (struct_at inner bytes) (λ fs. Ok (struct fs.0, fs.1)) (v, rest) h in
    let t = fields_takes n inner taken (length bytes) 0 bytes r.0.0 r.0.1 fits r.1 in
    let all : TakesValue (suc n) Struct bytes (struct r.0.0) r.0.1 = record {
      whole = t.whole;
      of_kind = refl;
      within = omega (arith, t.within);
      fits = t.fits;
      formed = t.formed;
      left = t.left;
    } in
    subst (λ (x : Value × List ℕ). TakesValue (suc n) Struct bytes x.0 x.1) (ok_is (struct r.0.0, r.0.1) (v, rest) (Ok (struct r.0.0, r.0.1)) refl r.2) all

pub value_takes : (n : ℕ) → IsTaken n (value_at n)
value_takes zero kind bytes v rest fits h = absurd (no_ok Deep (v, rest) (Err Deep) refl h)
value_takes (suc n) kind bytes v rest fits h = by_takes n (value_at n) (value_takes n) kind bytes v rest fits h

pub tree_takes : (bytes rest : List ℕ) (v : Value) → AreBytes bytes → tree_at bytes ≡ Ok (v, rest) → (front : List ℕ) × (bytes ≡ front ++ rest) × Spells front v
unfolding tree_at
tree_takes bytes rest v fits h =
    let t = value_takes 8 Struct bytes v rest fits h in
    (spelling v, t.whole, record { legal = record { struct = t.of_kind; within = t.within; formed = t.formed }; fits = t.fits; whole = refl })
