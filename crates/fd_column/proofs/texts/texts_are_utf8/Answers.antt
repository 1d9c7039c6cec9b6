use Rattle.std.proofs.Common.{rules, take, subst}
use Rattle.std.specs.Prelude.{All, IsUtf8}
use Rattle.std.proofs.lemmas.List.Elements.{All-push}
use Rattle.fd_column.proofs.Steps.{taken, whole_taken}
use Rattle.fd_column.proofs.texts.texts_are_utf8.Goals as goal

pub loop-text-preserved : goal.loop-text-preserved
loop-text-preserved c =
    rw (taken c.args.texts.now c.loop-text.text-index c.text-item.result (search rules) (search rules)) (All-push IsUtf8 (take c.loop-text.text-index c.args.texts.now) c.text-item.result c.loop-text.invariant c.text_is_utf8.ensures)

pub returns : goal.returns
returns c = subst (All IsUtf8) (whole_taken c.args.texts.now c.loop-text.text-index (search rules)) c.loop-text.invariant
