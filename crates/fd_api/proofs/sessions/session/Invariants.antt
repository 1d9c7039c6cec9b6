use Rattle.std.proofs.Common.{◌≡◌, ◌-◌, false}
use Rattle.fd_http.specs.declared.limits.TheConstants.{MOST_REQUESTS}
use Rattle.fd_api.specs.Streams.{stream, streams}
use Rattle.fd_api.specs.Turns.{between}
use Rattle.fd_api.proofs.SessionSteps.{SoFar}
use Rattle.fd_api.proofs.sessions.session.Given as goal

abbrev pub invariant-loop-served : goal.invariant-loop-served
invariant-loop-served g l = record {
  so_far :
      SoFar g.T.Store.write_gives g.T.Store.read_gives g.T.Store.stand_gives
      (streams (stream g.S.Source.left g.S.Source.faults l.fn.input) (stream g.K.Sink.taken g.K.Sink.faults l.fn.out)) l.fn.store
      (between (streams (stream g.S.Source.left g.S.Source.faults l.input) (stream g.K.Sink.taken g.K.Sink.faults l.out)) l.inbox l.notes.items l.store)
      (MOST_REQUESTS - l.served);
  source : g.S.Source.faults l.input ≡ g.S.Source.faults l.fn.input;
  sink : g.K.Sink.faults l.out ≡ g.K.Sink.faults l.fn.out;
  disk : g.T.Store.faults l.store ≡ g.T.Store.faults l.fn.store;
  healthy : g.T.Store.has_failed l.store ≡ false;
}
