use Rattle.std.proofs.Common.{◌≡◌, ◌∙◌, ap, sym, arith, length, ◌-◌, min, take, drop, ◌∷◌, length-drop}
use Rattle.fd_column.specs.Stacks.{first_length, frames_of}
use Rattle.fd_column.proofs.StackLaws.{next_frame}
use Rattle.fd_column.proofs.stacks.first_frame.Goals as goal

pub returns-clause-frames : goal.returns-clause-frames
returns-clause-frames c =
    let body : c.split_at.result.1.now ≡ drop 4 c.args.bytes.now = c.split_at.ensures.back in
    let end : c.min.result ≡ min (first_length c.args.bytes.now) (length c.args.bytes.now - 4) = c.min.ensures ∙ (λ i. min (c.from_le_bytes-length.ensures i) ((ap length body ∙ length-drop 4 c.args.bytes.now) i)) in
    next_frame c.args.bytes.now c.min.result c.requires end
    ∙ (λ i. ((ap (take c.min.result) (sym body) ∙ sym c.split_at-2.ensures.front) i) ∷ frames_of ((ap (drop c.min.result) (sym body) ∙ sym c.split_at-2.ensures.back) i))

pub returns-clause-shorter : goal.returns-clause-shorter
returns-clause-shorter c =
    omega (arith, c.split_at.ensures.back_len, c.split_at-2.ensures.back_len, c.requires)

pub returns-clause-short : goal.returns-clause-short
returns-clause-short c =
    omega (arith, c.split_at-2.ensures.front_len, c.min.ensures)
