use Rattle.std.proofs.Common.{refl, ap, arith, Some, [], ◌++◌, length}
use mathlib.Core.Logic.{inl, inr}
use Rattle.std.proofs.KnownBytes.{Keeps-refl, Consumes-nil}
use Rattle.fd_http.specs.declared.request.RequestFault.TheVariants as head
use Rattle.fd_api.specs.declared.sessions.EndKind.TheVariants as kind
use Rattle.fd_api.proofs.sessions.turn.Goals as goal

pub returns-in-Ok-End-clause-turned : goal.returns-in-Ok-End-clause-turned
returns-in-Ok-End-clause-turned g c =
    let arrives = rw c.in-Ok-End.field-0-is at c.in-Ok-End.ensures.arrives in
    inr (record {
      store = refl;
      noted = c.reserve.ensures.items;
      paced = c.in-Ok-End.ensures.paced;
      kind = kind.Ended;
      ends = refl;
      how = inl (refl, arrives, record { taken = Keeps-refl (g.K.Sink.taken c.args.out.now); count = refl });
    })

pub returns-then-is_err-clause-turned : goal.returns-then-is_err-clause-turned
returns-then-is_err-clause-turned g c =
    inr (record {
      store = refl;
      noted = c.reserve.ensures.items;
      paced = record {
        before = [];
        piece = [];
        consumed = Consumes-nil (g.S.Source.left c.args.input.now);
        small = omega arith;
        holds = inl refl;
      };
      kind = kind.NoMemory;
      ends = ap Some c.give_up.ensures.end;
      how = inr (head.NoMemory, tt, tt, (refl, c.give_up.ensures.sent));
    })
