use Rattle.std.proofs.Common.{[], ◌∷◌, ◌++◌, ap, ◌∙◌}
use Rattle.std.specs.Int.{w64, to_le_bytes}
use Rattle.std.proofs.lemmas.Result.{on_ok_weaker}
use Rattle.fd_kinds.specs.RowSpelling.{count_bytes}
use Rattle.fd_wal.proofs.Sizes.{joined_three}
use Rattle.fd_wal.proofs.frame_writer.put_head.Goals as goal

pub returns : goal.returns
returns c = on_ok_weaker c.put_count.result (λ e.
    joined_three c.args.out.now (1 ∷ 1 ∷ []) (to_le_bytes w64 c.args.first) (count_bytes c.args.count) c.extend.new.self c.extend-2.new.self c.put_count.new.out c.in_ok-extend.ensures.ok
    (c.in_ok-extend-2.ensures.ok ∙ ap (λ t. c.extend.new.self ++ t) c.to_le_bytes.ensures) e) c.put_count.ensures
