use Rattle.std.proofs.Common.{[], ◌∷◌, ◌++◌, ap, ◌∙◌}
use Rattle.std.specs.Int.{w64, to_le_bytes}
use Rattle.fd_wal.specs.Frames.{framed}
use Rattle.fd_wal.proofs.Sizes.{behind_head}
use Rattle.fd_wal.proofs.frame_writer.rotation.Goals as goal

pub returns : goal.returns
returns c =
    c.finished.ensures ∙ ap framed (behind_head c.in_ok-out.out (1 ∷ 2 ∷ []) (to_le_bytes w64 c.args.hi) c.extend.new.self c.extend-2.new.self c.in_ok-out.ensures c.in_ok-extend.ensures.ok
    (c.in_ok-extend-2.ensures.ok ∙ ap (λ t. c.extend.new.self ++ t) c.to_le_bytes.ensures))
