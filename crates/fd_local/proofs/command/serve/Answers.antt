use Rattle.fd_local.proofs.command.serve.Goals as goal

pub returns-clause-session : goal.returns-clause-session
returns-clause-session g c = record {
  notes = c.session.result.notes;
  first = c.empty_store-store.result;
  last = c.session.new.store;
  opened = c.empty_store-store.ensures;
  ends = c.session.ensures.ends;
  ran = c.alone_laws.ensures.session _ _ _ _ _ _ c.session.ensures.ends;
  source = c.session.ensures.source;
  sink = c.session.ensures.sink;
}
