use Rattle.fd_http.proofs.ReplyLemmas.{decimal_503, decimal_20}
use Rattle.fd_http.proofs.replies.short_text.Goals as goal

pub returns-then-close : goal.returns-then-close
returns-then-close c = rw (c.if-close.true, decimal_503, decimal_20)

pub returns-else-close : goal.returns-else-close
returns-else-close c = rw (c.if-close.false, decimal_503, decimal_20)
