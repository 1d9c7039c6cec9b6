-- What calls answer.
use Rattle.std.proofs.Common.{◌≡◌, ℕ, List, Result, Ok, Err, ap}
use Rattle.fd_pages.specs.declared.fault.PageFault.{PageFault}
use Rattle.fd_pages.specs.declared.fault.PageFault.TheVariants.{BadPage, NoMemory}
use Rattle.fd_pages.specs.Pages.{Gives}
use Rattle.fd_codes.proofs.Numbers.{ok_is}

pub not_ok : {A : Type 0} (e : PageFault) (x : A) → Err e ≡ Ok x → ⊥
not_ok e x h = absurd cc

-- an answer that gives an error in place of a value is want of memory
pub gives_other : {A B : Type 0} (e : PageFault) (x : A) (y : B) → Gives (Err e) (Ok x) → Gives (Err e) (Ok y)
gives_other NoMemory x y h = tt
gives_other BadPage x y h = absurd (not_ok BadPage x h)

abbrev split : List ℕ → List ℕ → Result (List ℕ × List ℕ) PageFault
split a b = Ok (a, b)

pub split_is : (a b x y : List ℕ) → split a b ≡ split x y → (a ≡ x) × (b ≡ y)
split_is a b x y e =
    let same : (a, b) ≡ (x, y) = ok_is (a, b) (x, y) e in
    (ap (λ (p : List ℕ × List ℕ). p.0) same, ap (λ (p : List ℕ × List ℕ). p.1) same)

abbrev given : List ℕ → Result (List ℕ) PageFault
given xs = Ok xs

pub levels_same : (a b : List ℕ) → given a ≡ given b → a ≡ b
levels_same a b e = ok_is a b e
