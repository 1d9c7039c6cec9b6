-- The frames of a stack are read back from its bytes.
use Rattle.std.proofs.Common.{◌≡◌, ℕ, zero, suc, ◌+◌, ◌-◌, ◌<◌, ◌≤◌, ◌^◌, Bool, true, false, cond, nat_lt, List, [], ◌∷◌, ◌++◌, length, take, drop, min, length-drop, refl, sym, ◌∙◌, ap, arith, length-append}
use Rattle.std.specs.Prelude.{All, IsUtf8}
use Rattle.std.proofs.lemmas.Grind.{common_steps}
use Rattle.std.proofs.lemmas.Nat.{from_le_bytes-to_le_bytes_4}
use Rattle.std.proofs.lemmas.List.Elements.{All-head, All-tail}
use Rattle.fd_column.specs.Stacks.{frame_bytes, stack_bytes, first_length, AreShort, frames_in, frames_of}

take_all : (xs ys : List ℕ) (n : ℕ) → length xs ≡ n → take n (xs ++ ys) ≡ xs
take_all xs ys n h = grind (arith, common_steps)

drop_all : (xs ys : List ℕ) (n : ℕ) → length xs ≡ n → drop n (xs ++ ys) ≡ ys
drop_all xs ys n h = grind (arith, common_steps)

not_below : (n m : ℕ) → m ≤ n → nat_lt n m ≡ false
not_below n m h = grind arith

one_frame : (most : ℕ) (frame rest : List ℕ) → length frame < 2 ^ 32 → frames_in (suc most) (frame_bytes frame ++ rest) ≡ frame ∷ frames_in most rest
one_frame most frame rest short =
    ap (λ b. cond b [] (take (first_length (frame_bytes frame ++ rest)) (frame ++ rest) ∷ frames_in most (drop (first_length (frame_bytes frame ++ rest)) (frame ++ rest)))) (not_below (length (frame_bytes frame ++ rest)) 4 (omega arith))
    ∙ ap (λ n. take n (frame ++ rest) ∷ frames_in most (drop n (frame ++ rest))) (from_le_bytes-to_le_bytes_4 (length frame) short)
    ∙ (λ i. take_all frame rest (length frame) refl i ∷ frames_in most (drop_all frame rest (length frame) refl i))

-- a frame has at least four bytes
longer : (frame rest : List ℕ) → length rest + 4 ≤ length (frame_bytes frame ++ rest)
longer frame rest =
    let n : length (frame ++ rest) ≡ length frame + length rest = length-append frame rest in
    omega (arith, n)

pub frames_back : (most : ℕ) (frames : List (List ℕ)) → AreShort frames → length (stack_bytes frames) ≤ most → frames_in most (stack_bytes frames) ≡ frames
frames_back zero [] s h = refl
frames_back (suc most) [] s h = refl
frames_back zero (frame ∷ frames) s h = absurd (omega (arith, longer frame (stack_bytes frames), h))
frames_back (suc most) (frame ∷ frames) s h =
    one_frame most frame (stack_bytes frames) (All-head (λ frame. length frame < 2 ^ 32) frame frames s)
    ∙ ap (λ fs. frame ∷ fs) (frames_back most frames (All-tail (λ frame. length frame < 2 ^ 32) frame frames s) (omega (arith, longer frame (stack_bytes frames), h)))

pub frames_of_stack : (frames : List (List ℕ)) → AreShort frames → frames_of (stack_bytes frames) ≡ frames
frames_of_stack frames s = frames_back (length (stack_bytes frames)) frames s (omega arith)

above_four : (n : ℕ) → nat_lt n 4 ≡ false → 4 ≤ n
above_four n h = grind arith

below_four : (n : ℕ) → n ≤ 0 → nat_lt n 4 ≡ true
below_four n h = grind arith

-- more steps than bytes change nothing
enough : (n m : ℕ) (bytes : List ℕ) → length bytes ≤ n → length bytes ≤ m → frames_in n bytes ≡ frames_in m bytes
enough zero zero bytes h k = refl
enough (suc n) (suc m) bytes h k =
    by (nat_lt (length bytes) 4) refl (λ l. enough n m (drop (first_length bytes) (drop 4 bytes)) (shorter n h l) (shorter m k l))
  where
    shorter : (n : ℕ) → length bytes ≤ suc n → 4 ≤ length bytes → length (drop (first_length bytes) (drop 4 bytes)) ≤ n
    shorter n h l = rw (length-drop (first_length bytes) (drop 4 bytes), length-drop 4 bytes) (omega (arith, h, l))

    by : (b : Bool) → nat_lt (length bytes) 4 ≡ b → (4 ≤ length bytes → frames_in n (drop (first_length bytes) (drop 4 bytes)) ≡ frames_in m (drop (first_length bytes) (drop 4 bytes))) → cond b [] (take (first_length bytes) (drop 4 bytes) ∷ frames_in n (drop (first_length bytes) (drop 4 bytes))) ≡ cond b [] (take (first_length bytes) (drop 4 bytes) ∷ frames_in m (drop (first_length bytes) (drop 4 bytes)))
    by true t ih = refl
    by false t ih = ap (λ fs. take (first_length bytes) (drop 4 bytes) ∷ fs) (ih (above_four (length bytes) t))
enough zero (suc m) bytes h k =
    sym (ap (λ b. cond b [] (take (first_length bytes) (drop 4 bytes) ∷ frames_in m (drop (first_length bytes) (drop 4 bytes)))) (below_four (length bytes) h))
enough (suc n) zero bytes h k =
    ap (λ b. cond b [] (take (first_length bytes) (drop 4 bytes) ∷ frames_in n (drop (first_length bytes) (drop 4 bytes)))) (below_four (length bytes) k)

-- the first frame and the others
first_frame : (bytes : List ℕ) → 4 ≤ length bytes → frames_of bytes ≡ take (first_length bytes) (drop 4 bytes) ∷ frames_of (drop (first_length bytes) (drop 4 bytes))
first_frame bytes h =
    enough (length bytes) (suc (length bytes)) bytes (omega arith) (omega arith)
    ∙ ap (λ b. cond b [] (take (first_length bytes) (drop 4 bytes) ∷ frames_in (length bytes) (drop (first_length bytes) (drop 4 bytes)))) (not_below (length bytes) 4 h)
    ∙ ap (λ fs. take (first_length bytes) (drop 4 bytes) ∷ fs) (enough (length bytes) (length (drop (first_length bytes) (drop 4 bytes))) (drop (first_length bytes) (drop 4 bytes)) (rw (length-drop (first_length bytes) (drop 4 bytes), length-drop 4 bytes) (omega arith)) (omega arith))

clamped_take : (xs : List ℕ) (n : ℕ) → take n xs ≡ take (min n (length xs)) xs
clamped_take xs n = grind (arith, common_steps)

clamped_drop : (xs : List ℕ) (n : ℕ) → drop n xs ≡ drop (min n (length xs)) xs
clamped_drop xs n = grind (arith, common_steps)

-- the same where the frame's end is no further than the bytes
pub next_frame : (bytes : List ℕ) (end : ℕ) → 4 ≤ length bytes → end ≡ min (first_length bytes) (length bytes - 4) → frames_of bytes ≡ take end (drop 4 bytes) ∷ frames_of (drop end (drop 4 bytes))
next_frame bytes end h is =
    first_frame bytes h
    ∙ (λ i. (clamped_take (drop 4 bytes) (first_length bytes) ∙ ap (λ n. take n (drop 4 bytes)) same) i ∷ frames_of ((clamped_drop (drop 4 bytes) (first_length bytes) ∙ ap (λ n. drop n (drop 4 bytes)) same) i))
  where
    same : min (first_length bytes) (length (drop 4 bytes)) ≡ end
    same = ap (min (first_length bytes)) (length-drop 4 bytes) ∙ sym is

pub no_frame : (bytes : List ℕ) → length bytes < 4 → frames_of bytes ≡ []
no_frame bytes h = by (length bytes) refl
  where
    by : (n : ℕ) → length bytes ≡ n → frames_in n bytes ≡ []
    by zero is = refl
    by (suc n) is =
        let low : nat_lt (length bytes) 4 ≡ true = grind arith in
        ap (λ b. cond b [] (take (first_length bytes) (drop 4 bytes) ∷ frames_in n (drop (first_length bytes) (drop 4 bytes)))) low

-- a frame is a text where all are
pub middle_text : (before behind : List (List ℕ)) (frame : List ℕ) → All IsUtf8 (before ++ frame ∷ behind) → IsUtf8 frame
middle_text [] behind frame h = All-head IsUtf8 frame behind h
middle_text (first ∷ before) behind frame h = middle_text before behind frame (All-tail IsUtf8 first (before ++ frame ∷ behind) h)
