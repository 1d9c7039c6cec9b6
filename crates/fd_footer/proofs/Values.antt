-- The items of a list of values.
use Rattle.std.proofs.Common.{◌≡◌, List, [], ◌∷◌, refl, ap}
use Rattle.fd_thrift.specs.Values.{Value}
use Rattle.fd_thrift.specs.View.{items_of}
use Rattle.fd_footer.specs.Lookups.{values_in}

pub values_back : (vs : List Value) → values_in (items_of vs) ≡ vs
values_back [] = refl
values_back (v ∷ vs) = ap (λ xs. v ∷ xs) (values_back vs)
