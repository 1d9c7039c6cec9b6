-- The frame in front of bytes, and stacks with one frame more or one less.
use Rattle.std.proofs.Common.{◌≡◌, ℕ, ◌+◌, ◌<◌, ◌^◌, List, [], ◌∷◌, ◌++◌, length, get_or, take, drop, refl, sym, ap, ◌∙◌, append_assoc, arith, length-append}
use Rattle.std.specs.Prelude.{All, IsUtf8}
use Rattle.std.specs.Int.{w32, to_le_bytes, from_le_bytes}
use Rattle.std.proofs.lemmas.Nat.{le_bytes_4, from_le_bytes-to_le_bytes_4}
use Rattle.std.proofs.lemmas.List.{take_at, drop_at}
use Rattle.std.proofs.lemmas.List.Elements.{All-nil, All-cons, All-head, All-tail}
use Rattle.fd_column.specs.Stacks.{frame_bytes, stack_bytes, AreShort}
use Rattle.fd_table_file.specs.Columns.{IsStack}

-- the first four bytes spell the length of the frame behind them
pub frame_there : (bytes front behind frame rest : List ℕ) → ((i : ℕ) → get_or front i 0 < 256) → length front ≡ 4
    → bytes ≡ front ++ behind → behind ≡ frame ++ rest → length frame ≡ from_le_bytes w32 front → bytes ≡ frame_bytes frame ++ rest
frame_there bytes front behind frame rest fits four whole more len =
    whole
    ∙ ap (λ (xs : List ℕ). front ++ xs) more
    ∙ ap (λ (xs : List ℕ). xs ++ (frame ++ rest)) (sym (le_bytes_4 front (length frame) four fits len))
    ∙ sym (append_assoc (to_le_bytes w32 (length frame)) frame rest)

-- where a frame stands in front, the first four bytes spell its length, and it stands behind them
pub front_is : (bytes front behind frame rest : List ℕ) → length front ≡ 4 → bytes ≡ front ++ behind → bytes ≡ frame_bytes frame ++ rest
    → length frame < 2 ^ 32 → (from_le_bytes w32 front ≡ length frame) × (behind ≡ frame ++ rest)
front_is bytes front behind frame rest four whole is short =
    let both : front ++ behind ≡ to_le_bytes w32 (length frame) ++ (frame ++ rest) = sym whole ∙ is ∙ append_assoc (to_le_bytes w32 (length frame)) frame rest in
    let first : front ≡ to_le_bytes w32 (length frame) =
    sym (take_at front behind 4 four) ∙ ap (λ (xs : List ℕ). take 4 xs) both ∙ take_at (to_le_bytes w32 (length frame)) (frame ++ rest) 4 refl in
    let second : behind ≡ frame ++ rest =
    sym (drop_at front behind 4 four) ∙ ap (λ (xs : List ℕ). drop 4 xs) both ∙ drop_at (to_le_bytes w32 (length frame)) (frame ++ rest) 4 refl in
    (ap (λ (xs : List ℕ). from_le_bytes w32 xs) first ∙ from_le_bytes-to_le_bytes_4 (length frame) short, second)

-- no front of fewer bytes than four is a frame
pub no_short_frame : (bytes frame rest : List ℕ) → length bytes < 4 → bytes ≡ frame_bytes frame ++ rest → ⊥
no_short_frame bytes frame rest few is = omega (arith, few, ap length is, length-append (frame_bytes frame) rest)

-- nor is one whose length is longer than what stands behind it
pub no_long_frame : (bytes front behind frame rest : List ℕ) → length front ≡ 4 → bytes ≡ front ++ behind → length behind < from_le_bytes w32 front
    → length frame < 2 ^ 32 → bytes ≡ frame_bytes frame ++ rest → ⊥
no_long_frame bytes front behind frame rest four whole long short is =
    let f = front_is bytes front behind frame rest four whole is short in
    let len : length behind ≡ length frame + length rest = ap length f.1 ∙ length-append frame rest in
    let told : from_le_bytes w32 front ≡ length frame = f.0 in
    omega (arith, long, len, told)

pub shorter_behind : (bytes frame rest : List ℕ) → bytes ≡ frame_bytes frame ++ rest → length rest < length bytes
shorter_behind bytes frame rest is =
    let len : length bytes ≡ length (frame_bytes frame) + length rest = ap length is ∙ length-append (frame_bytes frame) rest in
    omega (arith, len)

-- no bytes begin with two frames
one_frame : (a x b y : List ℕ) → length a < 2 ^ 32 → length b < 2 ^ 32 → frame_bytes a ++ x ≡ frame_bytes b ++ y → (a ≡ b) × (x ≡ y)
one_frame a x b y short others e =
    let f = front_is (frame_bytes a ++ x) (to_le_bytes w32 (length a)) (a ++ x) b y refl (append_assoc (to_le_bytes w32 (length a)) a x) e others in
    let len : length b ≡ length a = sym f.0 ∙ from_le_bytes-to_le_bytes_4 (length a) short in (
      sym (take_at a x (length a) refl) ∙ ap (λ (xs : List ℕ). take (length a) xs) f.1 ∙ take_at b y (length a) len,
      sym (drop_at a x (length a) refl) ∙ ap (λ (xs : List ℕ). drop (length a) xs) f.1 ∙ drop_at b y (length a) len,
    )

pub stack_none : (bytes : List ℕ) → length bytes ≡ 0 → IsStack bytes
stack_none [] none = record { frames = []; texts = All-nil IsUtf8; short = All-nil (λ (frame : List ℕ). length frame < 2 ^ 32); spelled = refl }
stack_none (x ∷ xs) none = absurd (omega (arith, none))

pub stack_more : (bytes frame rest : List ℕ) → bytes ≡ frame_bytes frame ++ rest → length frame < 2 ^ 32 → IsUtf8 frame → IsStack rest → IsStack bytes
stack_more bytes frame rest is short utf8 s = record {
  frames = frame ∷ s.frames;
  texts = All-cons IsUtf8 frame s.frames utf8 s.texts;
  short = All-cons (λ (f : List ℕ). length f < 2 ^ 32) frame s.frames short s.short;
  spelled = is ∙ ap (λ (xs : List ℕ). frame_bytes frame ++ xs) s.spelled;
}

less_of : (frames : List (List ℕ)) (frame rest : List ℕ) → All IsUtf8 frames → AreShort frames → length frame < 2 ^ 32
    → frame_bytes frame ++ rest ≡ stack_bytes frames → IsUtf8 frame × IsStack rest
less_of [] frame rest texts shorts short e = absurd (omega (arith, ap length e, length-append (frame_bytes frame) rest))
less_of (first ∷ frames) frame rest texts shorts short e =
    let one = one_frame frame rest first (stack_bytes frames) short (All-head (λ (f : List ℕ). length f < 2 ^ 32) first frames shorts) e in (
      rw one.0 (All-head IsUtf8 first frames texts),
      record { frames = frames; texts = All-tail IsUtf8 first frames texts; short = All-tail (λ (f : List ℕ). length f < 2 ^ 32) first frames shorts; spelled = one.1 },
    )

-- the frame in front of a stack is a text, and what stands behind it is a stack
pub stack_less : (bytes frame rest : List ℕ) → bytes ≡ frame_bytes frame ++ rest → length frame < 2 ^ 32 → IsStack bytes → IsUtf8 frame × IsStack rest
stack_less bytes frame rest is short s = less_of s.frames frame rest s.texts s.short short (sym is ∙ s.spelled)

begun_of : (frames : List (List ℕ)) (bytes : List ℕ) → AreShort frames → bytes ≡ stack_bytes frames → 0 < length bytes
    → ((frame rest : List ℕ) → length frame < 2 ^ 32 → bytes ≡ frame_bytes frame ++ rest → ⊥) → ⊥
begun_of [] bytes shorts e some none = omega (arith, some, ap length e)
begun_of (frame ∷ frames) bytes shorts e some none = none frame (stack_bytes frames) (All-head (λ (f : List ℕ). length f < 2 ^ 32) frame frames shorts) e

-- a stack that is not empty begins with a frame
pub stack_begun : (bytes : List ℕ) → IsStack bytes → 0 < length bytes → ((frame rest : List ℕ) → length frame < 2 ^ 32 → bytes ≡ frame_bytes frame ++ rest → ⊥) → ⊥
stack_begun bytes s some none = begun_of s.frames bytes s.short s.spelled some none
