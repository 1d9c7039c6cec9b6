use Rattle.std.proofs.Common.{take}
use Rattle.fd_column.specs.Cells.{columns_of}
use Rattle.fd_footer.specs.declared.footer.Pages.TheVariants.{Plain}
use Rattle.fd_table_file.specs.Files.{HasChunks}
use Rattle.fd_file_writer.proofs.chunks.add_chunks.Given as goal

abbrev pub invariant-loop-column : goal.invariant-loop-column
invariant-loop-column l = HasChunks Plain l.table (take l.column (columns_of l.table)) l.out l.places
