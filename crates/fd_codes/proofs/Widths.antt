-- How many bits an index has.
use Rattle.std.proofs.Common.{◌≡◌, ℕ, ◌+◌, ◌*◌, ◌^◌, ◌<◌, ◌≤◌, refl, sym, ap, ◌∙◌, arith, inl, inr}
use Rattle.std.proofs.lemmas.Bool.{cases_lt}
use Rattle.std.proofs.lemmas.Grind.{pow_more}
use Rattle.fd_pages.specs.Dictionaries.{IsWidth}

-- a width that is not too large, and the numbers that it has room for
pub record Grows (count width room : ℕ) : Type 0 where
  pub some : 1 ≤ width
  pub most : width ≤ 31
  pub full : room ≡ 2 ^ width
  pub least : (other : ℕ) → 1 ≤ other → count ≤ 2 ^ other → width ≤ other

pub grows_none : (count : ℕ) → Grows count 1 2
grows_none count = record { some = omega arith; most = omega arith; full = refl; least = λ other some holds. some }

above : (count width room other : ℕ) → Grows count width room → room < count → 1 ≤ other → count ≤ 2 ^ other → width + 1 ≤ other
above count width room other g lt some holds =
    elim (cases_lt width other) [
      | inl less ↦ omega (arith, less)
      | inr le ↦
          let e : other ≡ width = omega (arith, le, g.least other some holds) in
          let same : 2 ^ other ≡ 2 ^ width = ap (λ n. 2 ^ n) e in
          absurd (omega (arith, lt, g.full, same, holds))
    ]

pub grows_more : (count width room : ℕ) → count < 2 ^ 31 → Grows count width room → room < count → Grows count (width + 1) (room * 2)
grows_more count width room small g lt = record {
  some = omega arith;
  most = above count width room 31 g lt (omega arith) (omega (arith, small));
  full = ap (λ n. n * 2) g.full ∙ sym (pow_more 2 width);
  least = λ other some holds. above count width room other g lt some holds;
}

pub grows_all : (count width room : ℕ) → Grows count width room → count ≤ room → IsWidth count width
grows_all count width room g le = record { some = g.some; holds = omega (arith, g.full, le); least = g.least }
