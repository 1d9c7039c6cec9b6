use Rattle.std.proofs.Common.{[]}
use Rattle.fd_column.proofs.TableLaws.{growing_from, rows_back, nothing_held}
use Rattle.fd_column.proofs.builder.PartBuilder.new.Goals as goal

pub invariant_of-result : goal.invariant_of-result
invariant_of-result c = growing_from c.new_table.result [] c.new_table.ensures nothing_held

pub returns : goal.returns
returns c = rows_back c.new_table.result [] c.new_table.ensures nothing_held
