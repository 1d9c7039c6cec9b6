-- Small facts on tests, options and lists.
use Rattle.std.proofs.Common.{ℕ, ◌≡◌, Bool, true, false, cond, eqb, List, [], ◌∷◌, ◌++◌, Option, Some, None, refl, ap, subst, arith}
use Rattle.std.specs.Option.{IfSome}
use Rattle.std.proofs.lemmas.Bool.Decides.{nat_tests}
use Rattle.std.proofs.lemmas.Option.{same_Some}

pub append-nil : {A : Type 0} (xs : List A) → xs ++ [] ≡ xs
append-nil [] = refl
append-nil (x ∷ xs) = ap (λ l. x ∷ l) (append-nil xs)

-- what holds of the value that a test chooses, where it chooses one
pub by_test : {A : Type 0} (t : Bool) (x y : Option A) (P : A → Type 0) → (t ≡ true → IfSome x P) → (t ≡ false → IfSome y P) → IfSome (cond t x y) P
by_test true x y P f g = f refl
by_test false x y P f g = g refl

pub through : {A : Type 0} (o : Option A) (P : A → Type 0) (x : A) → o ≡ Some x → IfSome o P → P x
through None P x e h = cc
through (Some y) P x e h = subst P (same_Some y x e) h

pub is_byte : (b n : ℕ) → eqb b n ≡ true → n ≡ b
is_byte b n e = grind (arith, nat_tests)
