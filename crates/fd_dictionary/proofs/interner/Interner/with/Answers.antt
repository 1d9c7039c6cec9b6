use Rattle.std.proofs.Common.{rules, ◌+◌}
use Rattle.fd_dictionary.proofs.DictionaryLaws.{knows_push}
use Rattle.fd_dictionary.proofs.interner.Interner.with.Goals as goal

pub invariant_of-result : goal.invariant_of-result
invariant_of-result c =
    rw c.in_ok-texts.ensures (knows_push c.self.inside.picks c.insert.new.self c.self.inside.texts c.in_ok-key.key c.args.text.now (c.len.result + 1) (search rules) (search rules) (search rules) (search rules) c.self.invariant)
