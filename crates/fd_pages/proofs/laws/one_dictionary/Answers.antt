use Rattle.fd_pages.proofs.OneDictionary as dictionaries
use Rattle.fd_pages.proofs.laws.one_dictionary.Goals as goal

pub returns : goal.returns
returns c = dictionaries.one_dictionary c.one_spelling.ensures
