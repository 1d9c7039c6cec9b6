use Rattle.std.proofs.Common.{codes}
use Rattle.std.proofs.lemmas.Result.{on_ok_weaker}
use Rattle.fd_gen.specs.Body.{label, job_label, environment}
use Rattle.fd_gen.proofs.Pieces.{added_four}
use Rattle.fd_gen.proofs.body.put_labels.Goals as goal

pub returns : goal.returns
returns c =
    on_ok_weaker c.put_environment.result (λ e.
    added_four c.args.out.now (label (codes "__name__") (codes "gen_cpu")) (codes ",") (job_label c.args.choices.now.job) (environment c.args.choices.now.is_production)
    c.put_label.new.out c.extend.new.self c.put_job.new.out c.put_environment.new.out
    c.in_ok-put_label.ensures c.in_ok-extend.ensures.ok c.in_ok-put_job.ensures e)
    c.put_environment.ensures
