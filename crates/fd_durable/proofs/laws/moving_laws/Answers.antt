use Rattle.fd_durable.proofs.Joining.{stays, moves_on}
use Rattle.fd_durable.proofs.laws.moving_laws.Goals as goal

pub returns : goal.returns
returns g c = record {
  stays = let d = g.D.Disk in stays d.honest d.seen d.may_leave d.moment d.left_since;
  joined = let d = g.D.Disk in moves_on d.honest d.seen d.may_leave d.moment d.left_since;
}
