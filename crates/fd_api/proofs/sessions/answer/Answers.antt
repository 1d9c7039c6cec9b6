use Rattle.fd_api.proofs.sessions.answer.Goals as goal

pub returns-clause-served : goal.returns-clause-served
returns-clause-served g c =
    let sent = c.send-put.ensures.sent in (
      sent.0,
      record {
        reply = c.handle-reply.result.reply;
        handled = c.handle-reply.ensures.handles;
        sent = rw (← c.closes-close.ensures) sent.1;
      },
      sent.2,
    )
