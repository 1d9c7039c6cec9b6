use Rattle.std.proofs.Common.{rules, ◌≡◌, subst}
use Rattle.std.specs.Prelude.{All, IsUtf8}
use Rattle.fd_column.specs.Stacks.{frames_of}
use Rattle.fd_parquet.specs.Rows.{text_in}
use Rattle.fd_parquet.proofs.rows.stack_at.Goals as goal

pub stack_of-requires : goal.stack_of-requires
stack_of-requires c =
    let there : text_in c.args.cells.now c.args.column c.args.at ≡ c.in-Some.bytes.now = search rules in
    subst (λ bytes. All IsUtf8 (frames_of bytes)) there c.requires
