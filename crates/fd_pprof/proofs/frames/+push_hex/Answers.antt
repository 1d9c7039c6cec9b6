use Rattle.std.proofs.Common.{◌∙◌, [], ◌∷◌, ◌-◌, ◌/◌, ◌%◌, ◌<◌, ap, arith, append_assoc, ℕ}
use Rattle.std.proofs.lemmas.Grind.{common_steps}
use Rattle.std.specs.String.{string_bytes}
use Rattle.fd_pprof.specs.Frames.{hex_digit, hex_digits}
use Rattle.fd_pprof.proofs.Hex.{hex_more, hex_none}
use Rattle.fd_pprof.proofs.frames.+push_hex.Goals as goal

pub returns-in_ok-push : goal.returns-in_ok-push
returns-in_ok-push t c =
    let n = c.args.n in
    let d = hex_digit (n % 16) in
    let same = c.from.ensures in
    let below : c.from.result < 128 = omega (arith, c.hex_digit.ensures.ascii, same) in
    let digit = c.push.ensures.ascii below ∙ ap (λ (x : ℕ). x ∷ []) (same ∙ c.hex_digit.ensures.value) in
    let bytes = c.in_ok-push.ensures.bytes in
    let before = c.in_ok-push_hex.ensures in
    let assoc = append_assoc (string_bytes c.args.text.now) (hex_digits (c.args.count - 1) (n / 16)) (d ∷ []) in
    let more = hex_more c.args.count n c.if-count-gt0.true in
    cc

pub returns-else-count-gt0 : goal.returns-else-count-gt0
returns-else-count-gt0 t c =
    let e = hex_none c.args.count c.args.n c.if-count-gt0.false in
    grind (arith, common_steps)
