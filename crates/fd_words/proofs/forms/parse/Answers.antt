use Rattle.std.proofs.Common.{map}
use Rattle.fd_words.proofs.Refusals.{parsed, unparsed}
use Rattle.fd_words.proofs.forms.parse.Goals as goal

pub returns : goal.returns
returns c =
    let words = map (λ w. w.now) c.args.words.now in
    let parse = c.try_get_matches_from in
    record {
      given = parsed c.args._form words _ parse.result c.requires.app c.requires.utf8 parse.ensures.kinds parse.ensures.matches;
      refused = unparsed c.args._form words _ parse.result c.requires.app c.requires.utf8 parse.ensures.kinds;
    }
