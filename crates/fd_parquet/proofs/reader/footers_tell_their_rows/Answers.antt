use Rattle.fd_parquet.proofs.FileReads.{footer_tells}
use Rattle.fd_parquet.proofs.reader.footers_tell_their_rows.Goals as goal

pub returns : goal.returns
returns c = footer_tells c.one_spelling.ensures c.footers_are_read.ensures.table c.footers_are_spelled.ensures
