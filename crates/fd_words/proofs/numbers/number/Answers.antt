use Rattle.std.proofs.Common.{◌≡◌, ◌<◌, ◌^◌, Ok, rules, arith, sym, ◌∙◌}
use Rattle.fd_words.proofs.Spelled.{number_high, number_low, number_read, number_unlike, other_text, same_text}
use Rattle.fd_words.proofs.numbers.number.Goals as goal

pub returns-then-ne-clause-value : goal.returns-then-ne-clause-value
returns-then-ne-clause-value c =
    let small : c.args.most < 2 ^ 64 = omega (arith, c.ranges.most.fits) in
    let is : c.parse.result ≡ Ok c.in-Ok.number = search rules in
    sym (number_unlike c.args.least c.args.most c.args.text.now c.parse.result c.in-Ok.number c.parse.ensures.value.0 is small
    (λ same. other_text c.format.result.now c.args.text.now c.ne.result c.ne.ensures c.if-ne.true (c.format.ensures.text ∙ same)))

pub returns-then-number-least-clause-value : goal.returns-then-number-least-clause-value
returns-then-number-least-clause-value c =
    let small : c.args.most < 2 ^ 64 = omega (arith, c.ranges.most.fits) in
    let is : c.parse.result ≡ Ok c.in-Ok.number = search rules in
    let low : c.in-Ok.number < c.args.least = omega (arith, c.if-number-least.true) in
    sym (number_low c.args.least c.args.most c.args.text.now c.parse.result c.in-Ok.number c.parse.ensures.value.0 is small low)

pub returns-then-most-number-clause-value : goal.returns-then-most-number-clause-value
returns-then-most-number-clause-value c =
    let small : c.args.most < 2 ^ 64 = omega (arith, c.ranges.most.fits) in
    let is : c.parse.result ≡ Ok c.in-Ok.number = search rules in
    let high : c.args.most < c.in-Ok.number = omega (arith, c.if-most-number.true) in
    sym (number_high c.args.least c.args.most c.args.text.now c.parse.result c.in-Ok.number c.parse.ensures.value.0 is small high)

pub returns-clause-value : goal.returns-clause-value
returns-clause-value c =
    let small : c.args.most < 2 ^ 64 = omega (arith, c.ranges.most.fits) in
    let same = same_text c.format.result.now c.args.text.now c.ne.result c.ne.ensures c.if-ne.false in
    sym (number_read c.args.least c.args.most c.in-Ok.number c.args.text.now small (sym c.format.ensures.text ∙ same)
    (omega (arith, c.if-number-least.false)) (omega (arith, c.if-most-number.false)))
