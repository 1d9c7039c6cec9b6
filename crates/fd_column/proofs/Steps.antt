-- One more item of a list that a loop goes over.
use Rattle.std.proofs.Common.{◌≡◌, ℕ, ◌+◌, ◌<◌, ◌≤◌, List, [], ◌∷◌, ◌++◌, length, get_or, take, drop, sym, ◌∙◌, ap, arith}
use Rattle.std.proofs.lemmas.Grind.{take_at_read, common_steps}
use Rattle.std.proofs.lemmas.List.{drop_more}

pub taken : {X : Type 0} (xs : List X) (at : ℕ) (x : X) → at < length xs → x ≡ get_or xs at x → take (at + 1) xs ≡ take at xs ++ x ∷ []
taken xs at x h is = (take_at_read xs at x h).1 ∙ ap (λ y. take at xs ++ y ∷ []) (sym is)

pub dropped : {X : Type 0} (xs : List X) (at : ℕ) (x : X) → at < length xs → x ≡ get_or xs at x → drop at xs ≡ x ∷ drop (at + 1) xs
dropped xs at x h is = drop_more xs at x h ∙ ap (λ y. y ∷ drop (at + 1) xs) (sym is)

pub whole_taken : {X : Type 0} (xs : List X) (at : ℕ) → length xs ≤ at → take at xs ≡ xs
whole_taken xs at h = grind (arith, common_steps)
