-- Addresses in sixteen hexadecimal digits.
use Rattle.std.proofs.Common.{◌≡◌, ℕ, zero, suc, ◌-◌, ◌/◌, ◌%◌, ◌<◌, ◌≤◌, [], ◌∷◌, ◌++◌, length, refl, arith, length-append}
use Rattle.std.specs.Prelude.{codes}
use Rattle.fd_kinds.specs.RowSize.{text_size}
use Rattle.fd_pprof.specs.Frames.{hex_digit, hex_digits, hex_text}

-- one digit more at the end
pub hex_more : (k n : ℕ) → 0 < k → hex_digits (k - 1) (n / 16) ++ hex_digit (n % 16) ∷ [] ≡ hex_digits k n
unfolding hex_digits
hex_more zero n h = absurd (omega arith)
hex_more (suc k) n h = let e : suc k - 1 ≡ k = omega arith in rw e refl

hex_length : (k n : ℕ) → length (hex_digits k n) ≡ k
unfolding hex_digits
hex_length zero n = refl
hex_length (suc k) n = omega (arith, length-append (hex_digits k (n / 16)) (hex_digit (n % 16) ∷ []), hex_length k (n / 16))

pub hex_text_size : (address : ℕ) → text_size (hex_text address) ≡ 22
unfolding hex_text
hex_text_size address = omega (arith, length-append (codes "0x") (hex_digits 16 address), hex_length 16 address)

pub hex_none : (k n : ℕ) → k ≤ 0 → hex_digits k n ≡ []
unfolding hex_digits
hex_none zero n h = refl
hex_none (suc k) n h = absurd (omega arith)

pub hex_text_is : (address : ℕ) → hex_text address ≡ codes "0x" ++ hex_digits 16 address
unfolding hex_text
hex_text_is address = refl
