use Rattle.std.proofs.Common.{rules, ◌≡◌, subst}
use Rattle.std.specs.Prelude.{All, IsUtf8}
use Rattle.fd_column.specs.Stacks.{frames_of}
use Rattle.fd_column.specs.Tables.{text_at}
use Rattle.fd_column.proofs.rows.cell_stack.Goals as goal

pub frames_in-requires : goal.frames_in-requires
frames_in-requires c =
    let there : text_at c.args.cells.now c.args.at ≡ c.in-Some.bytes.now = search rules in
    subst (λ bytes. All IsUtf8 (frames_of bytes)) there c.requires
