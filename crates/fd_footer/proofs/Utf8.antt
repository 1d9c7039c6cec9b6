-- The test for UTF-8.
use Rattle.std.proofs.Common.{◌≡◌, ℕ, Bool, true, false, List, refl}
use Rattle.std.specs.Str.{is_utf8, IsUtf8}
use Rattle.std.proofs.lemmas.Str.{IsUtf8-from_is_utf8, is_utf8-from_IsUtf8}

pub yes : (bs : List ℕ) → IsUtf8 bs → is_utf8 bs ≡ true
yes bs h = is_utf8-from_IsUtf8 bs h

no_at : (bs : List ℕ) (b : Bool) → is_utf8 bs ≡ b → ¬ (IsUtf8 bs) → is_utf8 bs ≡ false
no_at bs true e h = absurd (h (IsUtf8-from_is_utf8 bs e))
no_at bs false e h = e

pub no : (bs : List ℕ) → ¬ (IsUtf8 bs) → is_utf8 bs ≡ false
no bs h = no_at bs (is_utf8 bs) refl h

pub ruleset utf8_tests = (yes, no)
