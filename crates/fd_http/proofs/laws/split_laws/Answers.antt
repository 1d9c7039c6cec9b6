use Rattle.fd_http.specs.declared.limits.TheConstants.{MOST_REQUESTS}
use Rattle.fd_http.proofs.SplitLemmas.{holds_unique, splits_unique, leads_prefix}
use Rattle.fd_http.proofs.laws.split_laws.Goals as goal

pub returns-clause-next : goal.returns-clause-next
returns-clause-next c = holds_unique

pub returns-clause-split : goal.returns-clause-split
returns-clause-split c bytes rs ss e f = splits_unique rs ss MOST_REQUESTS bytes e f

pub returns-clause-prefix : goal.returns-clause-prefix
returns-clause-prefix c bytes after rs all left end = leads_prefix rs all MOST_REQUESTS bytes left after end
