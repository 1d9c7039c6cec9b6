use Rattle.std.proofs.Common.{◌∙◌, ◌++◌, map}
use Rattle.std.specs.Prelude.{codes}
use Rattle.std.proofs.lemmas.Result.{IfOk-weaker}
use Rattle.fd_column.proofs.names.names_of.Goals as goal

pub returns : goal.returns
returns c =
    IfOk-weaker c.with_names-2.result _ _ (λ more is. is ∙ (λ i. (c.in_ok-names-2.ensures ∙ (λ j. c.in_ok-names.ensures j ++ map (λ column. codes "labels." ++ column.name) (c.as_slice.ensures j))) i ++ map (λ column. codes "pprof_labels." ++ column.name) (c.as_slice-2.ensures i))) c.with_names-2.ensures
