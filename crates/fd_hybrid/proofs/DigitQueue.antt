-- Taking digits in and giving digits on keeps the number that is ahead.
use Rattle.std.proofs.Common.{◌≡◌, ℕ, ◌+◌, ◌-◌, ◌*◌, ◌/◌, ◌%◌, ◌^◌, ◌<◌, ◌≤◌, List, [], ◌∷◌, length, get_or, drop, refl, sym, ap, ◌∙◌, arith, add-one}
use Rattle.std.proofs.Math.Nat.{mul_comm, mul_assoc, add-mul-mod_self_left, add-mul-div_left}
use Rattle.std.proofs.Math.Seq.{drop-cons}
use Rattle.std.proofs.Math.ListN.{drop_of_length-le}
use Rattle.std.proofs.lemmas.Nat.{pow-add, pow_pos}
use Rattle.fd_hybrid.specs.Digits.{number, ahead}

pub number-cons : (w d : ℕ) (ds : List ℕ) → number w (d ∷ ds) ≡ d + 2 ^ w * number w ds
unfolding number
number-cons w d ds = refl

pub number-nil : (w : ℕ) → number w [] ≡ 0
unfolding number
number-nil w = refl

-- one more digit is taken in
pub takes_digit : (w : ℕ) (ds : List ℕ) (at held count : ℕ) → at < length ds
    → ahead w ds (at + 1) (held + 2 ^ count * get_or ds at 0) (count + w) ≡ ahead w ds at held count
takes_digit w ds at held count lt =
    let front : drop at ds ≡ get_or ds at 0 ∷ drop (at + 1) ds = drop-cons ds at 0 lt ∙ ap (λ k. get_or ds at 0 ∷ drop k ds) (sym (add-one at)) in
    let n : ℕ = number w (drop (at + 1) ds) in
    let d : ℕ = get_or ds at 0 in
    let whole : number w (drop at ds) ≡ d + 2 ^ w * n = ap (number w) front ∙ number-cons w d (drop (at + 1) ds) in
    let p : 2 ^ (count + w) * n ≡ 2 ^ count * (2 ^ w * n) = ap (λ k. k * n) (pow-add 2 count w) ∙ mul_assoc (2 ^ count) (2 ^ w) n in
    let q : 2 ^ count * number w (drop at ds) ≡ 2 ^ count * (d + 2 ^ w * n) = ap (λ k. 2 ^ count * k) whole in
    omega (arith, p, q)

-- no digit is there any more
pub takes_none : (w : ℕ) (ds : List ℕ) (at held count : ℕ) → length ds ≤ at
    → ahead w ds at (held + 2 ^ count * 0) (count + w) ≡ ahead w ds at held count
takes_none w ds at held count past =
    let none : number w (drop at ds) ≡ 0 = ap (number w) (drop_of_length-le ds past) ∙ number-nil w in
    rw none (omega arith)

-- what is above `w` bits is a multiple of 2 ^ w
above : (n w rest : ℕ) → 2 ^ (rest + w) * n ≡ 2 ^ w * (2 ^ rest * n)
above n w rest = ap (λ k. k * n) (pow-add 2 rest w) ∙ ap (λ k. k * n) (mul_comm (2 ^ rest) (2 ^ w)) ∙ mul_assoc (2 ^ w) (2 ^ rest) n

-- the lowest bits are given on
pub gives_digit : (n held count width : ℕ) → width ≤ count → held % 2 ^ width ≡ (held + 2 ^ count * n) % 2 ^ width
gives_digit n held count width le =
    let e : count ≡ (count - width) + width = omega arith in
    sym (ap (λ c. (held + 2 ^ c * n) % 2 ^ width) e ∙ ap (λ k. (held + k) % 2 ^ width) (above n width (count - width))
    ∙ add-mul-mod_self_left held (2 ^ width) (2 ^ (count - width) * n))

-- the bits above them are left
pub leaves_bits : (n held count width rest : ℕ) → rest + width ≡ count → held / 2 ^ width + 2 ^ rest * n ≡ (held + 2 ^ count * n) / 2 ^ width
leaves_bits n held count width rest e =
    sym (ap (λ c. (held + 2 ^ c * n) / 2 ^ width) (sym e) ∙ ap (λ k. (held + k) / 2 ^ width) (above n width rest)
    ∙ add-mul-div_left held (2 ^ rest * n) (pow_pos width))

-- no bits are held at the start
pub starts : (w : ℕ) (ds : List ℕ) → ahead w ds 0 0 0 ≡ number w ds
starts w ds = omega arith

-- the same steps, as they stand in a loop
pub took : (w : ℕ) (ds : List ℕ) (at held count at' held' count' d total : ℕ)
    → at < length ds → d ≡ get_or ds at 0 → at' ≡ at + 1 → held' ≡ held + 2 ^ count * d → count' ≡ count + w
    → ahead w ds at held count ≡ total → ahead w ds at' held' count' ≡ total
took w ds at held count at' held' count' d total lt digit place up more before =
    let held_is : held' ≡ held + 2 ^ count * get_or ds at 0 = up ∙ ap (λ k. held + 2 ^ count * k) digit in
    ap (λ k. ahead w ds k held' count') place ∙ ap (λ k. ahead w ds (at + 1) k count') held_is
    ∙ ap (ahead w ds (at + 1) (held + 2 ^ count * get_or ds at 0)) more ∙ takes_digit w ds at held count lt ∙ before

pub took_none : (w : ℕ) (ds : List ℕ) (at held count at' held' count' total : ℕ)
    → length ds ≤ at → at' ≡ at → held' ≡ held + 2 ^ count * 0 → count' ≡ count + w
    → ahead w ds at held count ≡ total → ahead w ds at' held' count' ≡ total
took_none w ds at held count at' held' count' total past place up more before =
    ap (λ k. ahead w ds k held' count') place ∙ ap (λ k. ahead w ds at k count') up
    ∙ ap (ahead w ds at (held + 2 ^ count * 0)) more ∙ takes_none w ds at held count past ∙ before

pub gave : (w : ℕ) (ds : List ℕ) (at held count width value total : ℕ)
    → width ≤ count → value ≡ held % 2 ^ width → ahead w ds at held count ≡ total → value ≡ total % 2 ^ width
gave w ds at held count width value total le is before =
    is ∙ gives_digit (number w (drop at ds)) held count width le ∙ ap (λ k. k % 2 ^ width) before

pub left : (w : ℕ) (ds : List ℕ) (at held count width at' held' count' total : ℕ)
    → at' ≡ at → held' ≡ held / 2 ^ width → count' + width ≡ count → ahead w ds at held count ≡ total
    → ahead w ds at' held' count' ≡ total / 2 ^ width
left w ds at held count width at' held' count' total place down less before =
    ap (λ k. ahead w ds k held' count') place ∙ ap (λ k. ahead w ds at k count') down
    ∙ leaves_bits (number w (drop at ds)) held count width count' less ∙ ap (λ k. k / 2 ^ width) before

pub starts_at : (w : ℕ) (ds : List ℕ) (at held count : ℕ) → at ≡ 0 → held ≡ 0 → count ≡ 0 → ahead w ds at held count ≡ number w ds
starts_at w ds at held count a h c = ap (λ k. ahead w ds k held count) a ∙ ap (λ k. ahead w ds 0 k count) h ∙ ap (ahead w ds 0 0) c ∙ starts w ds
