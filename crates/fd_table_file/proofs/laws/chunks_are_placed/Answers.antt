use Rattle.fd_table_file.proofs.ChunkPlaces.{places_length, placed_all, total_is, plain_placed}
use Rattle.fd_table_file.proofs.laws.chunks_are_placed.Goals as goal

pub returns : goal.returns
returns c = record { count = places_length; fit = placed_all; sizes = total_is; plain = plain_placed }
