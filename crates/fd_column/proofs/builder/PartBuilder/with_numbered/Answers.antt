use Rattle.std.proofs.Common.{◌++◌, ◌∷◌, [], ◌∙◌, ap}
use Rattle.fd_kinds.specs.declared.row.Numbered.{Numbered}
use Rattle.fd_column.specs.Tables.{IsTableOf, AreHeld, rows_of_table}
use Rattle.fd_column.proofs.TableLaws.{table_grows, held_more, growing_from, rows_back}
use Rattle.fd_column.proofs.builder.PartBuilder.with_numbered.Goals as goal

abbrev added : (c : goal.In_ok-push_row) → Numbered
added c = record { number = c.args.number; row = c.args.row.now }

table : (c : goal.In_ok-push_row) → IsTableOf c.push_row.new.table (rows_of_table c.self.inside.table ++ added c ∷ [])
table c = table_grows c.self.inside.table c.push_row.new.table (rows_of_table c.self.inside.table) (added c) c.self.invariant.table c.in_ok-push_row.ensures

held : (c : goal.In_ok-push_row) → AreHeld (rows_of_table c.self.inside.table ++ added c ∷ [])
held c = held_more (rows_of_table c.self.inside.table) (added c) c.self.invariant.held c.requires.number c.requires.short c.row_is_utf8.ensures

pub invariant_of-result : goal.invariant_of-result
invariant_of-result c = growing_from c.push_row.new.table _ (table c) (held c)

pub returns : goal.returns
returns c =
    rows_back c.push_row.new.table _ (table c) (held c) ∙ ap (λ rows. rows ++ added c ∷ []) c.self.view_is
