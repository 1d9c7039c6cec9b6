use Rattle.std.proofs.Common.{◌∙◌, ap, sym}
use Rattle.std.specs.Prelude.{Some, option_map}
use Rattle.std.proofs.lemmas.Result.{IfOk-weaker}
use Rattle.fd_kinds.specs.declared.row.Numbered.{Numbered}
use Rattle.fd_column.proofs.TableLaws.{row_there}
use Rattle.fd_column.proofs.TextLaws.{texts_there}
use Rattle.fd_column.proofs.rows.stack_of_table.Goals as goal

pub cell_stack-requires : goal.cell_stack-requires
cell_stack-requires c = (texts_there c.args.table.now c.args.at c.requires.inside c.requires.growing).stack

pub returns : goal.returns
returns c =
    IfOk-weaker c.cell_stack.result _ _ (λ stack is. ap (option_map (λ (row : Numbered). row.row.stack)) (row_there c.args.table.now c.args.at c.requires.inside) ∙ ap Some (sym is)) c.cell_stack.ensures
