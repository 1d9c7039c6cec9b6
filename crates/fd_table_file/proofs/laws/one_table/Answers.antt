use Rattle.fd_table_file.proofs.OneFile.{one_table}
use Rattle.fd_table_file.proofs.laws.one_table.Goals as goal

pub returns : goal.returns
returns c = one_table c.one_page.ensures c.one_dictionary.ensures c.one_code_page.ensures c.one_footer.ensures c.footers_are_spelled.ensures
