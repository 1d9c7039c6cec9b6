-- What a tree is, apart from where it lies in memory.
use Rattle.std.specs.Prelude.{ℕ, ℤ, List}

mutual
  pub data Value : Type 0 where
    whole32 : ℤ → Value
    whole64 : ℤ → Value
    binary : List ℕ → Value
    list : Items → Value
    struct : Fields → Value

  pub data Items : Type 0 where
    no_items : Items
    item : Value → Items → Items

  pub data Fields : Type 0 where
    no_fields : Fields
    field : ℤ → Value → Fields → Fields
