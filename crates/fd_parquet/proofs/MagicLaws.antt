-- The parts of a file: the magics at both ends, and between them the chunks, the footer and its length.
use Rattle.std.proofs.Common.{◌≡◌, ℕ, ◌+◌, ◌-◌, ◌<◌, ◌≤◌, ◌^◌, List, ◌++◌, length, take, drop, refl, sym, ap, ◌∙◌, append_assoc, arith, length-append, length-drop, take-append-drop}
use Rattle.std.specs.Int.{w32, to_le_bytes, from_le_bytes}
use Rattle.std.proofs.lemmas.Nat.{from_le_bytes-to_le_bytes_4}
use Rattle.std.proofs.lemmas.List.{take_at, take-append-le, append_cancel_left, append_cancel_right}
use Rattle.std.proofs.lemmas.List.Prefix.{end_rest}
use Rattle.fd_table_file.specs.Files.{magic}
use Rattle.fd_parquet.specs.Refusals.{HasMagic, Holds}
use Rattle.fd_parquet.specs.Stages.{HasInner}

-- what stands between two magics
record IsBetween (bytes inner : List ℕ) : Type 0 where
  long : 4 ≤ length inner
  whole : bytes ≡ magic ++ (inner ++ magic)

between : (bytes : List ℕ) → HasMagic bytes → IsBetween bytes (drop 4 (take (length bytes - 4) bytes))
between bytes h =
    let x : List ℕ = take (length bytes - 4) bytes in
    let back : bytes ≡ x ++ magic = sym (take-append-drop (length bytes - 4) bytes) ∙ ap (λ xs. x ++ xs) h.last in
    let len : length bytes ≡ length x + 4 = ap length back ∙ length-append x magic in
    let first : take 4 x ≡ magic = sym (take-append-le 4 x magic (omega (arith, len, h.long))) ∙ ap (λ xs. take 4 xs) (sym back) ∙ h.first in
    let front : x ≡ magic ++ drop 4 x = sym (take-append-drop 4 x) ∙ ap (λ xs. xs ++ drop 4 x) first in
    record {
      long = omega (arith, length-drop 4 x, len, h.long);
      whole = back ∙ ap (λ xs. xs ++ magic) front ∙ append_assoc magic (drop 4 x) magic;
    }

has_magic : (bytes inner : List ℕ) → IsBetween bytes inner → HasMagic bytes
has_magic bytes inner b =
    let len : length bytes ≡ length magic + (length inner + length magic) =
    ap length b.whole ∙ length-append magic (inner ++ magic) ∙ ap (λ n. length magic + n) (length-append inner magic) in
    record {
      long = omega (arith, len, b.long);
      first = ap (λ xs. take 4 xs) b.whole ∙ take_at magic (inner ++ magic) 4 refl;
      last = end_rest bytes magic (magic ++ inner) (b.whole ∙ sym (append_assoc magic inner magic));
    }

-- ---- the magics

pub inner_there : (bytes behind inner : List ℕ) → bytes ≡ magic ++ behind → behind ≡ inner ++ magic → 4 ≤ length inner → HasInner bytes inner
inner_there bytes behind inner first last long =
    let whole : bytes ≡ magic ++ (inner ++ magic) = first ∙ ap (λ xs. magic ++ xs) last in
    record { both = has_magic bytes inner (record { long = long; whole = whole }); long = long; whole = whole }

pub no_first : (bytes : List ℕ) → ((rest : List ℕ) → bytes ≡ magic ++ rest → ⊥) → HasMagic bytes → ⊥
no_first bytes none h =
    let b = between bytes h in
    none (drop 4 (take (length bytes - 4) bytes) ++ magic) b.whole

pub no_last : (bytes behind : List ℕ) → bytes ≡ magic ++ behind → ((front : List ℕ) → behind ≡ front ++ magic → ⊥) → HasMagic bytes → ⊥
no_last bytes behind first none h =
    let b = between bytes h in
    none (drop 4 (take (length bytes - 4) bytes)) (append_cancel_left magic behind (drop 4 (take (length bytes - 4) bytes) ++ magic) (sym first ∙ b.whole))

pub too_short : (bytes behind inner : List ℕ) → bytes ≡ magic ++ behind → behind ≡ inner ++ magic → length inner < 4 → HasMagic bytes → ⊥
too_short bytes behind inner first last few h =
    let len : length bytes ≡ length magic + (length inner + length magic) =
    ap length first ∙ length-append magic behind ∙ ap (λ n. length magic + n) (ap length last ∙ length-append inner magic) in
    omega (arith, len, few, h.long)

-- ---- the chunks and the footer

pub holds_there : (bytes inner rest tail body footer : List ℕ) → HasInner bytes inner → inner ≡ rest ++ tail → rest ≡ body ++ footer
    → to_le_bytes w32 (length footer) ≡ tail → length footer < 2 ^ 32 → Holds bytes body footer
holds_there bytes inner rest tail body footer h split parts le short =
    let back : rest ++ (tail ++ magic) ≡ body ++ (footer ++ (to_le_bytes w32 (length footer) ++ magic)) =
    ap (λ xs. xs ++ (tail ++ magic)) parts ∙ append_assoc body footer (tail ++ magic) ∙ ap (λ xs. body ++ (footer ++ (xs ++ magic))) (sym le) in
    record {
      short = short;
      whole = h.whole ∙ ap (λ xs. magic ++ (xs ++ magic)) split ∙ ap (λ xs. magic ++ xs) (append_assoc rest tail magic ∙ back);
    }

pub holds_magic : (bytes body footer : List ℕ) → Holds bytes body footer → HasMagic bytes
holds_magic bytes body footer h =
    let inner : List ℕ = body ++ (footer ++ to_le_bytes w32 (length footer)) in
    let len : length inner ≡ length body + (length footer + 4) = length-append body (footer ++ to_le_bytes w32 (length footer)) ∙ ap (λ n. length body + n) (length-append footer (to_le_bytes w32 (length footer))) in
    let same : inner ++ magic ≡ body ++ (footer ++ (to_le_bytes w32 (length footer) ++ magic)) =
    append_assoc body (footer ++ to_le_bytes w32 (length footer)) magic ∙ ap (λ xs. body ++ xs) (append_assoc footer (to_le_bytes w32 (length footer)) magic) in
    has_magic bytes inner (record { long = omega (arith, len); whole = h.whole ∙ ap (λ xs. magic ++ xs) (sym same) })

-- the last four bytes spell the length of the footer
pub holds_is : (bytes inner rest tail body footer : List ℕ) → HasInner bytes inner → inner ≡ rest ++ tail → length tail ≡ 4 → Holds bytes body footer
    → (from_le_bytes w32 tail ≡ length footer) × (rest ≡ body ++ footer)
holds_is bytes inner rest tail body footer h split four holds =
    let le : List ℕ = to_le_bytes w32 (length footer) in
    let other : bytes ≡ magic ++ (((body ++ footer) ++ le) ++ magic) =
    holds.whole ∙ ap (λ xs. magic ++ xs) (sym (append_assoc body footer (le ++ magic)) ∙ sym (append_assoc (body ++ footer) le magic)) in
    let within : inner ++ magic ≡ ((body ++ footer) ++ le) ++ magic =
    append_cancel_left magic (inner ++ magic) (((body ++ footer) ++ le) ++ magic) (sym h.whole ∙ other) in
    let same : inner ≡ (body ++ footer) ++ le = append_cancel_right inner ((body ++ footer) ++ le) magic within in
    let t : tail ≡ le = sym (end_rest inner tail rest split) ∙ ap (λ n. drop (length inner - n) inner) four ∙ end_rest inner le (body ++ footer) same in
    let front : rest ≡ body ++ footer =
    append_cancel_right rest (body ++ footer) le (ap (λ xs. rest ++ xs) (sym t) ∙ sym split ∙ same) in
    (ap (λ xs. from_le_bytes w32 xs) t ∙ from_le_bytes-to_le_bytes_4 (length footer) holds.short, front)

-- no footer is longer than what stands before its length
pub no_long_footer : (bytes inner rest tail body footer : List ℕ) → HasInner bytes inner → inner ≡ rest ++ tail → length tail ≡ 4 → length rest < from_le_bytes w32 tail → Holds bytes body footer → ⊥
no_long_footer bytes inner rest tail body footer h split four long holds =
    let i = holds_is bytes inner rest tail body footer h split four holds in
    let told : from_le_bytes w32 tail ≡ length footer = i.0 in
    let len : length rest ≡ length body + length footer = ap length i.1 ∙ length-append body footer in
    omega (arith, long, told, len)

-- the one body and the one footer
pub parts_are : (bytes inner rest tail front back body footer : List ℕ) → HasInner bytes inner → inner ≡ rest ++ tail → length tail ≡ 4
    → rest ≡ front ++ back → length back ≡ from_le_bytes w32 tail → Holds bytes body footer → ◌≡◌ {A = List ℕ × List ℕ} (front, back) (body, footer)
parts_are bytes inner rest tail front back body footer h split four parts told holds =
    let i = holds_is bytes inner rest tail body footer h split four holds in
    let told2 : from_le_bytes w32 tail ≡ length footer = i.0 in
    let b : back ≡ footer = sym (end_rest rest back front parts) ∙ ap (λ n. drop (length rest - n) rest) (told ∙ told2) ∙ end_rest rest footer body i.1 in
    let f : front ≡ body = append_cancel_right front body footer (ap (λ xs. front ++ xs) (sym b) ∙ sym parts ∙ i.1) in
    λ j. (f j, b j)
