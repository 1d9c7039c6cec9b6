use Rattle.std.proofs.Common.{◌≡◌, length, arith}
use Rattle.std.proofs.lemmas.Result.{on_ok_weaker}
use Rattle.fd_table_file.specs.Columns.{column_at}
use Rattle.fd_file_writer.proofs.PageCells.{part_length, part_column, part_small, part_adds}
use Rattle.fd_file_writer.proofs.chunks.add_page.Goals as goal

pub write_page-requires-clause-within : goal.write_page-requires-clause-within
write_page-requires-clause-within c =
    let len : length c.in_ok-cells.cells ≡ c.args.count =
    part_length c.args.table.now (column_at c.args.table.now c.args.column) c.args.from c.args.count c.in_ok-cells.cells (record { within = c.requires.within; are = c.in_ok-cells.ensures }) in
    omega (arith, len)

pub write_page-requires-clause-column : goal.write_page-requires-clause-column
write_page-requires-clause-column c =
    part_column c.cells_have_kinds.ensures c.args.table.now (column_at c.args.table.now c.args.column) c.args.from c.args.count c.in_ok-cells.cells c.kind_of-kind.result c.is_required-required.result
    c.kind_of-kind.ensures c.is_required-required.ensures (record { within = c.requires.within; are = c.in_ok-cells.ensures })

pub write_page-requires-clause-small : goal.write_page-requires-clause-small
write_page-requires-clause-small c =
    part_small c.args.table.now (column_at c.args.table.now c.args.column) c.args.from c.args.count c.in_ok-cells.cells c.is_required-required.result
    c.levels_are_short.ensures c.requires.few c.requires.small (record { within = c.requires.within; are = c.in_ok-cells.ensures })

pub returns : goal.returns
returns c =
    on_ok_weaker c.write_page.result
    (part_adds c.args.table.now (column_at c.args.table.now c.args.column) c.args.from c.args.count c.in_ok-cells.cells c.kind_of-kind.result c.is_required-required.result c.args.out.now c.write_page.new.out
    c.kind_of-kind.ensures c.is_required-required.ensures (record { within = c.requires.within; are = c.in_ok-cells.ensures }))
    c.write_page.ensures.ok
