-- Numbers and texts in bytes: what is read is what was spelled, and what was spelled is read again.
use Rattle.std.proofs.Common.{◌≡◌, ℕ, ◌+◌, ◌^◌, ◌<◌, ◌≤◌, ℤ, Bool, true, false, cond, ltb, List, ◌++◌, length, get_or, take, drop, refl, sym, ap, subst, ◌∙◌, append_assoc, arith, inl, inr}
use Rattle.std.specs.Prelude.{Option, Some, None, IsUtf8}
use Rattle.std.specs.Int.{Width, w32, w64, byte_len, from_le_bytes, to_le_bytes, cast_signed, cast_unsigned}
use Rattle.std.specs.Str.{is_utf8}
use mir.Facts.{sfits_to_z, Fits-of_z}
use Rattle.std.proofs.lemmas.Int.{of_z-to_z, to_z-of_z}
use Rattle.std.proofs.lemmas.Str.{IsUtf8-from_is_utf8, is_utf8-from_IsUtf8}
use Rattle.std.proofs.lemmas.Bool.{cases_lt, ltb-false, le-ltb}
use Rattle.std.proofs.lemmas.Option.{none-some, same_Some}
use Rattle.std.proofs.lemmas.List.{take_at, drop_at, take-append-drop, length-append, length-take, get_or-drop, get_or-take, get_or_past}
use Rattle.std.proofs.lemmas.Nat.{le_bytes_4, le_bytes_8, from_le_bytes-to_le_bytes_4, from_le_bytes-to_le_bytes_8}
use Rattle.fd_kinds.specs.declared.pair.Pair.{Pair}
use Rattle.fd_kinds.specs.RowSpelling.{text_spelling, pair_spelling, whole_spelling}
use Rattle.fd_wal.specs.Frames.{IsWhole}
use Rattle.fd_wal.specs.Reading.{◌>>=◌, number_at, whole_at, text_at, pair_at}

abbrev pub IsBytes : List ℕ → Type 0
IsBytes bytes = (i : ℕ) → get_or bytes i 0 < 256

pub IsBytes-drop : (n : ℕ) (bytes : List ℕ) → IsBytes bytes → IsBytes (drop n bytes)
IsBytes-drop n bytes h i = rw get_or-drop (h (n + i))

pub IsBytes-take : (n : ℕ) (bytes : List ℕ) → IsBytes bytes → IsBytes (take n bytes)
IsBytes-take n bytes h i =
    elim (cases_lt i n) [
      | inl lt ↦ rw (get_or-take n bytes i 0 lt) (h i)
      | inr le ↦ rw (get_or_past (take n bytes) i 0 (omega (arith, length-take n bytes))) (omega arith)
    ]

-- the value of a step that is one
pub bind_some : {A B : Type 0} (r : Option A) (f : A → Option B) (y : B) → (r >>= f) ≡ Some y → (x : A) × (r ≡ Some x) × (f x ≡ Some y)
bind_some (Some x) f y e = (x, refl, e)
bind_some None f y e = absurd (none-some y e)

-- a test that did not fail
pub guard_some : {A : Type 0} (b : Bool) (r : Option A) (y : A) → cond b None r ≡ Some y → (b ≡ false) × (r ≡ Some y)
guard_some true r y e = absurd (none-some y e)
guard_some false r y e = (refl, e)

pub guard_passed : {A : Type 0} (b : Bool) (x y : A) → cond b (Some x) None ≡ Some y → (b ≡ true) × (x ≡ y)
guard_passed true x y e = (refl, same_Some x y e)
guard_passed false x y e = absurd (none-some y e)

-- what a reader took from the front
pub record Takes (bytes text rest : List ℕ) : Type 0 where
  pub parts : bytes ≡ text ++ rest
  pub rest_fits : IsBytes rest

pub Takes-then : {a x b y c : List ℕ} → Takes a x b → Takes b y c → Takes a (x ++ y) c
Takes-then {a} {x} {b} {y} {c} p q = record { parts = p.parts ∙ ap (λ (t : List ℕ). x ++ t) q.parts ∙ sym (append_assoc x y c); rest_fits = q.rest_fits }

pub record IsWide (w : Width) (limit : ℕ) : Type 0 where
  pub len : (n : ℕ) → length (to_le_bytes w n) ≡ byte_len w
  pub back : (bytes : List ℕ) → length bytes ≡ byte_len w → IsBytes bytes → to_le_bytes w (from_le_bytes w bytes) ≡ bytes
  pub again : (n : ℕ) → n < limit → from_le_bytes w (to_le_bytes w n) ≡ n
  pub below : (bytes : List ℕ) → IsBytes bytes → from_le_bytes w bytes < limit

pub wide32 : IsWide w32 (2 ^ 32)
wide32 = record {
  len = λ n. refl;
  back = λ bytes len fits. le_bytes_4 bytes _ len fits refl;
  again = λ n lt. from_le_bytes-to_le_bytes_4 n lt;
  below = λ bytes fits. omega (arith, fits 0, fits 1, fits 2, fits 3);
}

pub wide64 : IsWide w64 (2 ^ 64)
wide64 = record {
  len = λ n. refl;
  back = λ bytes len fits. le_bytes_8 bytes _ len fits refl;
  again = λ n lt. from_le_bytes-to_le_bytes_8 n lt;
  below = λ bytes fits. omega (arith, fits 0, fits 1, fits 2, fits 3, fits 4, fits 5, fits 6, fits 7);
}

pub number_takes : (w : Width) (limit : ℕ) (wide : IsWide w limit) (bytes : List ℕ) (x : ℕ × List ℕ) → IsBytes bytes → number_at w bytes ≡ Some x → Takes bytes (to_le_bytes w x.0) x.1 × (x.0 < limit)
number_takes w limit wide bytes x fits e =
    let made : ℕ × List ℕ = (from_le_bytes w (take (byte_len w) bytes), drop (byte_len w) bytes) in
    let g = guard_some (ltb (length bytes) (byte_len w)) (Some made) x e in
    let long : byte_len w ≤ length bytes = ltb-false _ _ g.0 in
    let front : to_le_bytes w made.0 ≡ take (byte_len w) bytes = wide.back (take (byte_len w) bytes) (omega (arith, length-take (byte_len w) bytes)) (IsBytes-take (byte_len w) bytes fits) in
    subst (λ (y : ℕ × List ℕ). Takes bytes (to_le_bytes w y.0) y.1 × (y.0 < limit)) (same_Some made x g.1)
    (record { parts = rw front (sym (take-append-drop (byte_len w) bytes)); rest_fits = IsBytes-drop (byte_len w) bytes fits }, wide.below (take (byte_len w) bytes) (IsBytes-take (byte_len w) bytes fits))

pub number_again : (w : Width) (limit : ℕ) (wide : IsWide w limit) (n : ℕ) (rest : List ℕ) → n < limit → number_at w (to_le_bytes w n ++ rest) ≡ Some (n, rest)
number_again w limit wide n rest lt =
    let len = wide.len n in
    let long : ltb (length (to_le_bytes w n ++ rest)) (byte_len w) ≡ false = le-ltb _ _ (omega (arith, length-append (to_le_bytes w n) rest)) in
    rw (long, take_at (to_le_bytes w n) rest (byte_len w) len, drop_at (to_le_bytes w n) rest (byte_len w) len, wide.again n lt) refl

-- ---- numbers with a sign

pub whole_takes : (bytes : List ℕ) (x : ℤ × List ℕ) → IsBytes bytes → whole_at bytes ≡ Some x → Takes bytes (whole_spelling x.0) x.1 × IsWhole x.0
unfolding whole_at
whole_takes bytes x fits e =
    let b = bind_some (number_at w64 bytes) (λ n. Some (cast_signed w64 n.0, n.1)) x e in
    let t = number_takes w64 (2 ^ 64) wide64 bytes b.0 fits b.1 in
    let made : ℤ × List ℕ = (cast_signed w64 b.0.0, b.0.1) in
    let same : cast_unsigned w64 (cast_signed w64 b.0.0) ≡ b.0.0 = of_z-to_z w64 b.0.0 t.1 in
    let taken : Takes bytes (whole_spelling (cast_signed w64 b.0.0)) b.0.1 = subst (λ (n : ℕ). Takes bytes (to_le_bytes w64 n) b.0.1) (sym same) t.0 in
    subst (λ (y : ℤ × List ℕ). Takes bytes (whole_spelling y.0) y.1 × IsWhole y.0) (same_Some made x b.2) (taken, sfits_to_z (record { fits = t.1 }))

pub whole_again : (n : ℤ) (rest : List ℕ) → IsWhole n → whole_at (whole_spelling n ++ rest) ≡ Some (n, rest)
unfolding whole_at
whole_again n rest fits = rw (number_again w64 (2 ^ 64) wide64 (cast_unsigned w64 n) rest ((Fits-of_z fits).fits), to_z-of_z w64 n fits) refl

-- ---- texts

-- a text that has a spelling
pub record IsText (text : List ℕ) : Type 0 where
  pub utf8 : IsUtf8 text
  pub short : length text < 2 ^ 32

pub text_takes : (bytes : List ℕ) (x : List ℕ × List ℕ) → IsBytes bytes → text_at bytes ≡ Some x → Takes bytes (text_spelling x.0) x.1 × IsText x.0
unfolding text_at
text_takes bytes x fits e =
    let b = bind_some (number_at w32 bytes) (λ size. cond (ltb (length size.1) size.0) None (cond (is_utf8 (take size.0 size.1)) (Some (take size.0 size.1, drop size.0 size.1)) None)) x e in
    let n = b.0 in
    let t = number_takes w32 (2 ^ 32) wide32 bytes n fits b.1 in
    let made : List ℕ × List ℕ = (take n.0 n.1, drop n.0 n.1) in
    let g = guard_some (ltb (length n.1) n.0) (cond (is_utf8 (take n.0 n.1)) (Some made) None) x b.2 in
    let u = guard_passed (is_utf8 (take n.0 n.1)) made x g.1 in
    let long : n.0 ≤ length n.1 = ltb-false _ _ g.0 in
    let len : length (take n.0 n.1) ≡ n.0 = omega (arith, length-take n.0 n.1) in
    let second : Takes n.1 (take n.0 n.1) (drop n.0 n.1) = record { parts = sym (take-append-drop n.0 n.1); rest_fits = IsBytes-drop n.0 n.1 t.0.rest_fits } in
    let both = Takes-then t.0 second in
    let whole : Takes bytes (text_spelling (take n.0 n.1)) (drop n.0 n.1) = subst (λ (k : ℕ). Takes bytes (to_le_bytes w32 k ++ take n.0 n.1) (drop n.0 n.1)) (sym len) both in
    subst (λ (p : List ℕ × List ℕ). Takes bytes (text_spelling p.0) p.1 × IsText p.0) u.1 (whole, record { utf8 = IsUtf8-from_is_utf8 _ u.0; short = omega (arith, t.1) })

pub text_again : (text rest : List ℕ) → IsText text → text_at (text_spelling text ++ rest) ≡ Some (text, rest)
unfolding text_at
text_again text rest is =
    let long : ltb (length (text ++ rest)) (length text) ≡ false = le-ltb _ _ (omega (arith, length-append text rest)) in
    rw (number_again w32 (2 ^ 32) wide32 (length text) (text ++ rest) is.short, long, take_at text rest (length text) refl, drop_at text rest (length text) refl, is_utf8-from_IsUtf8 text is.utf8) refl

-- ---- pairs

pub record IsPair (pair : Pair) : Type 0 where
  pub name : IsText pair.name
  pub value : IsText pair.value

pub pair_takes : (bytes : List ℕ) (x : Pair × List ℕ) → IsBytes bytes → pair_at bytes ≡ Some x → Takes bytes (pair_spelling x.0) x.1 × IsPair x.0
unfolding pair_at
pair_takes bytes x fits e =
    let a = bind_some (text_at bytes) (λ name. text_at name.1 >>= λ value. Some (record { name = name.0; value = value.0 }, value.1)) x e in
    let b = bind_some (text_at a.0.1) (λ value. Some (record { name = a.0.0; value = value.0 }, value.1)) x a.2 in
    let t = text_takes bytes a.0 fits a.1 in
    let u = text_takes a.0.1 b.0 t.0.rest_fits b.1 in
    let made : Pair × List ℕ = (record { name = a.0.0; value = b.0.0 }, b.0.1) in
    subst (λ (p : Pair × List ℕ). Takes bytes (pair_spelling p.0) p.1 × IsPair p.0) (same_Some made x b.2)
    (Takes-then t.0 u.0, record { name = t.1; value = u.1 })

pub pair_again : (pair : Pair) (rest : List ℕ) → IsPair pair → pair_at (pair_spelling pair ++ rest) ≡ Some (pair, rest)
unfolding pair_at
pair_again pair rest is =
    ap pair_at (append_assoc (text_spelling pair.name) (text_spelling pair.value) rest)
    ∙ rw (text_again pair.name (text_spelling pair.value ++ rest) is.name, text_again pair.value rest is.value) refl
