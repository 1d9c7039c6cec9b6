use Rattle.fd_dictionary.proofs.DictionaryPushes.{absent_more}
use Rattle.fd_dictionary.proofs.builder.DictionaryBuilder.with_absent.Goals as goal

pub invariant_of-result : goal.invariant_of-result
invariant_of-result c =
    rw c.in_ok-push.ensures.ok (absent_more c.self.inside.entries c.self.inside.picks c.self.invariant).fine
