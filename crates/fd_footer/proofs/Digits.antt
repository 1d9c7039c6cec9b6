-- Numbers in decimal.
use Rattle.std.proofs.Common.{◌≡◌, ℕ, ◌+◌, ◌*◌, ◌<◌, ◌≤◌, ◌^◌, true, List, length, take, get_or, Option, None, arith}
use Rattle.std.specs.Char.{is_ascii_digit, digit_value}
use Rattle.std.specs.Str.Parse.{digits_value}
use Rattle.std.proofs.lemmas.Grind.{common_steps}
use Rattle.std.proofs.lemmas.Int.Digits.{digits_value_more}
use Rattle.std.proofs.lemmas.Str.Parse.{digits_value-take-le}
use Rattle.fd_footer.specs.Contents.{number_in}

pub digit_is : (d : ℕ) → is_ascii_digit d ≡ true → digit_value d + 48 ≡ d
digit_is d digit = grind (arith, common_steps)

pub one_more : (ds : List ℕ) (i : ℕ) → i < length ds → digits_value 10 (take (i + 1) ds) ≡ digits_value 10 (take i ds) * 10 + digit_value (get_or ds i 0)
one_more ds i some = digits_value_more 10 ds i some

pub none_beyond : (ds : List ℕ) (i : ℕ) → i < length ds → 2 ^ 64 ≤ digits_value 10 (take (i + 1) ds) → ◌≡◌ {A = Option ℕ} None (number_in ds)
none_beyond ds i some beyond =
    let above : 2 ^ 64 ≤ digits_value 10 ds = omega (arith, digits_value-take-le 10 ds (i + 1)) in
    grind (arith, common_steps)
