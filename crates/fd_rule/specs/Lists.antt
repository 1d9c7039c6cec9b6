-- Numbers against lists of them.
use Rattle.std.specs.Prelude.{◌≡◌, ◌≢◌, ◌⊎◌, ℕ, ◌<◌, ◌≤◌, List, [], ◌∷◌}
use Rattle.fd_kinds.specs.Stores.{Written}
use Rattle.fd_shelf.specs.Books.{Book, all_parts}
use Rattle.fd_shelf.specs.Books.{Each as AllOf}
use Rattle.fd_shelf.specs.Histories.{batch_at, in_row_order}
use Rattle.fd_shelf.specs.Numbers.{IsIn}

-- each of the numbers is at most m
abbrev pub AllUpto : ℕ → List ℕ → Type 0
AllUpto m [] = Unit {0}
AllUpto m (x ∷ xs) = (x ≤ m) × AllUpto m xs

-- w is one of the numbers
abbrev pub In : ℕ → List ℕ → Type 0
In w [] = ⊥
In w (x ∷ xs) = (x ≡ w) ⊎ In w xs

-- the number is above each that was drawn
abbrev pub Tops : ℕ → List Written → Type 0
Tops number [] = Unit {0}
Tops number (w ∷ ws) = (w.number < number) × Tops number ws

-- each of the batches but the one in flight stands in the book
abbrev pub AllHeld : ℕ → Book → List Written → Type 0
AllHeld flight book own = AllOf (λ o. o.number ≢ flight → IsIn o.number (all_parts book)) own

-- each of the batches that stands in the book has there the rows that it was drawn for
abbrev pub AllAsDrawn : Book → List Written → Type 0
AllAsDrawn book own = AllOf (λ o. IsIn o.number (all_parts book) → batch_at (all_parts book) o.number ≡ in_row_order o.rows) own
