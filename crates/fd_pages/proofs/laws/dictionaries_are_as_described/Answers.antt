use Rattle.fd_pages.proofs.Examples.{dictionary, code_page}
use Rattle.fd_pages.proofs.laws.dictionaries_are_as_described.Goals as goal

pub returns : goal.returns
returns c = record { dictionary = dictionary; code_page = code_page }
