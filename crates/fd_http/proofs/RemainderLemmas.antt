-- What follows from facts on the rest of the input.
use Rattle.std.proofs.Common.{◌≡◌, List, ℕ, ◌++◌, None, Some, refl}
use Rattle.std.specs.declared.option.Option.{Option}
use Rattle.fd_http.specs.Remainders.{IfTold}

-- what follows from it
pub told_then : (old new : Option (List ℕ)) (a b : List ℕ) (P Q : List ℕ → List ℕ → Type 0) → IfTold old new a b P
    → ((x y : List ℕ) → P (a ++ x) (b ++ y) → Q (a ++ x) (b ++ y)) → IfTold old new a b Q
told_then None new a b P Q told f = tt
told_then (Some x) None a b P Q told f = told
told_then (Some x) (Some y) a b P Q told f = f x y told

-- nothing was read yet
pub told_same : (o : Option (List ℕ)) (a : List ℕ) → IfTold o o a a (λ rest after. rest ≡ after)
told_same None a = tt
told_same (Some x) a = refl
