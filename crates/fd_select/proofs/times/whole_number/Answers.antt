use Rattle.std.proofs.Common.{◌≢◌, get_or, sym, arith, ◌∙◌}
use Rattle.std.proofs.lemmas.Str.Pattern.{starts_char}
use Rattle.std.proofs.lemmas.Bool.{false≢true}
use Rattle.fd_select.proofs.Numbers.{whole_number_read}
use Rattle.fd_select.proofs.times.whole_number.Goals as goal

pub returns : goal.returns
returns c =
    let plus : get_or c.args.text.now 0 0 ≢ 43 = λ e. false≢true (sym c.if-starts_with.false ∙ (starts_char 43 c.args.text.now c.starts_with.result c.starts_with.ensures.cases (omega arith) (omega arith)).1 e) in
    c.ok.ensures.value ∙ whole_number_read c.args.text.now c.parse.result c.parse.ensures.value.0 plus
