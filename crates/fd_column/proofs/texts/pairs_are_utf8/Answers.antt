use Rattle.std.proofs.Common.{rules, take, subst}
use Rattle.std.specs.Prelude.{All}
use Rattle.std.proofs.lemmas.List.Elements.{All-push}
use Rattle.fd_column.specs.Texts.{IsTextPair}
use Rattle.fd_column.proofs.Steps.{taken, whole_taken}
use Rattle.fd_column.proofs.texts.pairs_are_utf8.Goals as goal

pub loop-pair-preserved : goal.loop-pair-preserved
loop-pair-preserved c =
    rw (taken c.args.pairs.now c.loop-pair.pair-index c.pair-item.result (search rules) (search rules)) (All-push IsTextPair (take c.loop-pair.pair-index c.args.pairs.now) c.pair-item.result c.loop-pair.invariant c.pair_is_utf8.ensures)

pub returns : goal.returns
returns c = subst (All IsTextPair) (whole_taken c.args.pairs.now c.loop-pair.pair-index (search rules)) c.loop-pair.invariant
