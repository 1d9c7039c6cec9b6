-- Values under the same constructor are the same, and those under two are not.
use Rattle.std.proofs.Common.{◌≡◌, ℕ, pos, Some, None, ap, rules}
use Rattle.std.specs.Prelude.{unwrap_or}
use Rattle.std.specs.Int.Signed.{mag}

pub some_is : {A : Type 0} (x y : A) → Some x ≡ Some y → x ≡ y
some_is x y e = ap (λ o. unwrap_or o x) e

pub not_some : {A : Type 0} (x : A) → None ≡ Some x → ⊥
not_some x e = search (rules, e)

pub number_is : (m n : ℕ) → pos m ≡ pos n → m ≡ n
number_is m n e = ap (λ z. mag z) e
