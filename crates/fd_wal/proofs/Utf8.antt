-- The test of UTF-8 by both outcomes.
use Rattle.std.proofs.Common.{◌≡◌, Bool, true, false, refl, List, ℕ}
use Rattle.std.specs.Prelude.{IsUtf8}
use Rattle.std.specs.Str.{is_utf8}
use Rattle.std.proofs.lemmas.Str.{IsUtf8-from_is_utf8, is_utf8-from_IsUtf8}

pub is_text : (bytes : List ℕ) → IsUtf8 bytes → is_utf8 bytes ≡ true
is_text bytes is = is_utf8-from_IsUtf8 bytes is

refuted : (bytes : List ℕ) (b : Bool) → is_utf8 bytes ≡ b → (IsUtf8 bytes → ⊥) → b ≡ false
refuted bytes true e never = absurd (never (IsUtf8-from_is_utf8 bytes e))
refuted bytes false e never = refl

pub no_text : (bytes : List ℕ) → (IsUtf8 bytes → ⊥) → is_utf8 bytes ≡ false
no_text bytes never = refuted bytes (is_utf8 bytes) refl never

pub ruleset utf8_tests = (is_text, no_text)
