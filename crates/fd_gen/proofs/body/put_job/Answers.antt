use Rattle.std.proofs.Common.{◌++◌, ap, ◌∙◌, codes}
use Rattle.std.proofs.lemmas.Result.{on_ok_weaker}
use Rattle.fd_gen.specs.Body.{label}
use Rattle.fd_gen.proofs.body.put_job.Goals as goal

pub returns : goal.returns
returns c =
    on_ok_weaker c.put_label.result (λ e.
    e ∙ ap (λ value. c.args.out.now ++ label (codes "job") value) (c.as_slice.ensures ∙ c.in_ok-value.ensures))
    c.put_label.ensures
