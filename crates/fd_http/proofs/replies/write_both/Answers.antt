use Rattle.fd_http.proofs.ReplyLemmas.{appends_both}
use Rattle.fd_http.proofs.replies.write_both.Goals as goal

pub returns-in-Failed-write-clause-sends : goal.returns-in-Failed-write-clause-sends
returns-in-Failed-write-clause-sends g c =
    appends_both (g.K.Sink.taken c.args.sink.now) (g.K.Sink.taken c.write.new.self) (g.K.Sink.taken c.write-2.new.self) c.args.head.now c.args.body.now _ c.in-Done.ensures.bytes c.in-Failed-write.ensures.bytes.1 c.in-Failed-write.ensures.bytes.2
