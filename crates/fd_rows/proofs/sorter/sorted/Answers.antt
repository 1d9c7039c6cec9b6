use Rattle.std.proofs.lemmas.List.Sorted.{IsPermutation-trans}
use Rattle.std.proofs.lemmas.Result.{IfOk-weaker}
use Rattle.fd_rows.proofs.sorter.sorted.Goals as goal

pub returns : goal.returns
returns c =
    IfOk-weaker c.of.result _ _ (λ batch same. IsPermutation-trans c.args.rows c.in_ok-near.near batch.rows c.in_ok-near.ensures same) c.of.ensures
