use Rattle.fd_table_file.proofs.OneFile.{one_file}
use Rattle.fd_table_file.proofs.laws.one_file.Goals as goal

pub returns : goal.returns
returns c = one_file c.one_spelling.ensures c.one_coding.ensures
