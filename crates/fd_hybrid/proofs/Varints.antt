-- A varint that is written byte by byte.
use Rattle.std.proofs.Common.{◌≡◌, ℕ, ◌+◌, ◌*◌, ◌/◌, ◌%◌, ◌<◌, ◌≤◌, List, [], ◌∷◌, ◌++◌, sym, ap, ◌∙◌, append_assoc, arith}
use Rattle.fd_hybrid.specs.Format.{IsVarint, AddsVarint}

pub longer : (b high n : ℕ) (bytes : List ℕ) → 128 ≤ b → b < 256 → 0 < high → n + 128 ≡ b + 128 * high → IsVarint bytes high → IsVarint (b ∷ bytes) n
longer b high n [] big byte some value h = absurd h
longer b high n (c ∷ bs) big byte some value h = (big, byte, high, some, value, h)

-- one more byte is written
pub wrote : (old out out' tail : List ℕ) (rest rest' b n : ℕ)
    → ((tail : List ℕ) → IsVarint tail rest → AddsVarint old (out ++ tail) n)
    → 128 ≤ rest → b ≡ rest % 128 + 128 → rest' ≡ rest / 128 → out' ≡ out ++ b ∷ []
    → IsVarint tail rest' → AddsVarint old (out' ++ tail) n
wrote old out out' tail rest rest' b n before le byte high is h =
    let all : IsVarint (b ∷ tail) rest = longer b rest' rest tail (omega arith) (omega arith) (omega arith) (omega arith) h in
    let whole : AddsVarint old (out ++ b ∷ tail) n = before (b ∷ tail) all in
    (whole.0, whole.1, ap (λ xs. xs ++ tail) is ∙ append_assoc out (b ∷ []) tail ∙ whole.2)

-- the last byte is written
pub wrote_last : (old out out' : List ℕ) (rest b n : ℕ)
    → ((tail : List ℕ) → IsVarint tail rest → AddsVarint old (out ++ tail) n)
    → rest < 128 → b ≡ rest → out' ≡ out ++ b ∷ [] → AddsVarint old out' n
wrote_last old out out' rest b n before lt byte is =
    let whole : AddsVarint old (out ++ b ∷ []) n = before (b ∷ []) (omega arith, sym byte) in
    (whole.0, whole.1, is ∙ whole.2)
