-- Bits that are put above others, and taken from below them.
use Rattle.std.proofs.Common.{◌≡◌, ℕ, suc, ◌+◌, ◌-◌, ◌*◌, ◌/◌, ◌%◌, ◌^◌, ◌<◌, ◌≤◌, ◌∙◌, subst, arith}
use Rattle.std.proofs.Math.Nat.{pow-le-pow_right, mul-le-mul_left, mul_comm}
use Rattle.std.proofs.lemmas.Nat.{shl_whole, one_shl, pow_pos, pow-add, shr_below}

pub raised : (digit count width : ℕ) → digit < 2 ^ width → width ≤ 32 → count < 32 → (digit * 2 ^ count) % 2 ^ 64 ≡ 2 ^ count * digit
raised digit count width below narrow few =
    let room : width + count ≤ 64 = omega arith in
    shl_whole digit width count 64 below room ∙ mul_comm digit (2 ^ count)

pub joined : (held count digit width : ℕ) → held < 2 ^ count → digit < 2 ^ width → held + 2 ^ count * digit < 2 ^ (count + width)
joined held count digit width small below =
    let whole : suc digit ≤ 2 ^ width = omega arith in
    let product : 2 ^ count * suc digit ≤ 2 ^ count * 2 ^ width = mul-le-mul_left (2 ^ count) whole in
    rw (pow-add 2 count width) (omega (arith, product))

pub in_u64 : (n k : ℕ) → n < 2 ^ k → k ≤ 64 → n < 2 ^ 64
in_u64 n k below le =
    let two : 0 < 2 = omega arith in
    omega (arith, pow-le-pow_right two le)

pub one_raised : (k : ℕ) → k ≤ 32 → (1 * 2 ^ k) % 2 ^ 64 ≡ 2 ^ k
one_raised k le = let lt : k < 64 = omega arith in one_shl k 64 lt

pub divides : (k : ℕ) → k ≤ 32 → 0 < (1 * 2 ^ k) % 2 ^ 64
divides k le = rw (one_raised k le) (pow_pos k)

pub lowered : (n count width : ℕ) → width ≤ count → n < 2 ^ count → n / 2 ^ width < 2 ^ (count - width)
lowered n count width le below =
    let e : count ≡ (count - width) + width = omega arith in
    let P : ℕ → Type 0 = λ c. n < 2 ^ c in
    shr_below n (count - width) width (subst P e below)

pub ruleset shifts = (raised, joined, in_u64, one_raised, divides, lowered)
