use Rattle.std.proofs.Common.{get_or, arith}
use Rattle.std.specs.Char.{is_ascii_digit}
use Rattle.std.proofs.lemmas.List.Sums.{AllPass-from_list_all}
use Rattle.fd_footer.proofs.Digits.{digit_is, one_more, none_beyond}
use Rattle.fd_footer.proofs.key_values.decimal_value.Goals as goal

pub returns-then-number-units : goal.returns-then-number-units
returns-then-number-units c =
    let digit = digit_is (get_or c.args.digits.now c.loop-digit.digit-index 0) (AllPass-from_list_all is_ascii_digit c.args.digits.now c.requires c.loop-digit.digit-index 0 c.loop-digit-test.true) in
    none_beyond c.args.digits.now c.loop-digit.digit-index c.loop-digit-test.true (omega (arith, digit, one_more c.args.digits.now c.loop-digit.digit-index c.loop-digit-test.true, c.loop-digit.invariant, c.from-units.ensures, c.if-number-units.true))

pub loop-digit-preserved : goal.loop-digit-preserved
loop-digit-preserved c =
    let digit = digit_is (get_or c.args.digits.now c.loop-digit.digit-index 0) (AllPass-from_list_all is_ascii_digit c.args.digits.now c.requires c.loop-digit.digit-index 0 c.loop-digit-test.true) in
    omega (arith, digit, one_more c.args.digits.now c.loop-digit.digit-index c.loop-digit-test.true, c.loop-digit.invariant, c.from-units.ensures)
