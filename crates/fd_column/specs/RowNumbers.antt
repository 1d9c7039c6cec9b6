-- The order of numbered rows.
use Rattle.std.specs.Prelude.{ℕ, ◌<◌, ◌^◌, List, map, Option, unwrap_or, IfSome}
use Rattle.std.specs.declared.cmp.Ordering.{Ordering}
use Rattle.std.specs.Ordering.{nat_cmp, then_cmp, on}
use Rattle.fd_kinds.specs.declared.row.Numbered.{Numbered}
use Rattle.fd_kinds.specs.RowOrder.{row_cmp}

-- the row order, and then the numbers
abbrev pub numbered_cmp : Numbered → Numbered → Ordering
numbered_cmp = then_cmp (on (λ n. n.row) row_cmp) (on (λ n. n.number) nat_cmp)

-- the number fits 63 bits
abbrev pub IsNumber : Numbered → Type 0
IsNumber n = n.number < 2 ^ 63

-- the row with the number that was given, and with its own where none was
abbrev pub renumber : Option ℕ → Numbered → Numbered
renumber given n = record { number = unwrap_or given n.number; row = n.row }

abbrev pub renumbered : Option ℕ → List Numbered → List Numbered
renumbered given rows = map (renumber given) rows

-- a number that was given fits 63 bits
abbrev pub IsGiven : Option ℕ → Type 0
IsGiven given = IfSome given (λ number. number < 2 ^ 63)
