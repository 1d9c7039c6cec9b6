use Rattle.std.proofs.Common.{◌++◌, [], List, ℕ, length, subst, sym}
use Rattle.fd_http.specs.declared.replies.Response.{Response}
use Rattle.fd_http.specs.Replies.{head_bytes, reply_bytes, Sends}
use Rattle.fd_http.proofs.replies.reply.Goals as goal

pub returns-in-Made-clause-sends : goal.returns-in-Made-clause-sends
returns-in-Made-clause-sends g c =
    let P : List ℕ → Type 0 = λ xs. Sends (g.K.Sink.taken c.args.sink.now) (g.K.Sink.taken c.send.new.sink) (head_bytes c.in-Made.status [] (length xs) c.in-Made.close ++ xs) c.send.result in
    let Q : Response → Type 0 = λ x. Sends (g.K.Sink.taken c.args.sink.now) (g.K.Sink.taken c.send.new.sink) (reply_bytes x) c.send.result in
    subst Q (sym c.in-Made.is) (subst P c.as_slice.ensures c.send.ensures.sends)

pub returns-in-BadMethod-clause-sends : goal.returns-in-BadMethod-clause-sends
returns-in-BadMethod-clause-sends g c =
    let P : List ℕ → Type 0 = λ xs. Sends (g.K.Sink.taken c.args.sink.now) (g.K.Sink.taken c.send-in-BadMethod.new.sink) (head_bytes 405 c.allow_line.result.now (length xs) c.in-BadMethod.close ++ xs) c.send-in-BadMethod.result in
    let R : List ℕ → Type 0 = λ line. Sends (g.K.Sink.taken c.args.sink.now) (g.K.Sink.taken c.send-in-BadMethod.new.sink) (head_bytes 405 line (length c.in-BadMethod.body) c.in-BadMethod.close ++ c.in-BadMethod.body) c.send-in-BadMethod.result in
    let Q : Response → Type 0 = λ x. Sends (g.K.Sink.taken c.args.sink.now) (g.K.Sink.taken c.send-in-BadMethod.new.sink) (reply_bytes x) c.send-in-BadMethod.result in
    subst Q (sym c.in-BadMethod.is) (subst R c.allow_line.ensures (subst P c.as_slice-in-BadMethod.ensures c.send-in-BadMethod.ensures.sends))
