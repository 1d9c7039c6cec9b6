use Rattle.std.proofs.Common.{refl}
use mathlib.Core.Logic.{inr}
use Rattle.fd_http.specs.Replies.{reply_bytes}
use Rattle.fd_http.specs.declared.replies.Response.TheVariants.{Short}
use Rattle.fd_api.proofs.SinkLemmas.{Keeps-PutsReply}
use Rattle.fd_api.proofs.sessions.send.Goals as goal

pub returns-clause-sent : goal.returns-clause-sent
returns-clause-sent g c =
    let kept = rw c.in-Err-NoMemory.field-0-is at c.in-Err-NoMemory.ensures.sends in
    (reply_bytes (Short c.args.close), inr refl, Keeps-PutsReply _ _ _ _ _ kept c.send_short.ensures.sent)
