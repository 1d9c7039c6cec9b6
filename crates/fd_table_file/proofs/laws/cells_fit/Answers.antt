use Rattle.fd_table_file.proofs.OneChunk.{chunk_fits}
use Rattle.fd_table_file.proofs.laws.cells_fit.Goals as goal

pub returns : goal.returns
returns c = chunk_fits
