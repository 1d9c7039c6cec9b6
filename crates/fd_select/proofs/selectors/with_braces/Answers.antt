use Rattle.std.proofs.Common.{◌++◌, ◌∷◌}
use Rattle.fd_select.proofs.Meetings.{kind_refused, selected, stopped}
use Rattle.fd_select.proofs.Parts.{type_front}
use Rattle.fd_select.proofs.selectors.with_braces.Goals as goal

pub returns-in-Err : goal.returns-in-Err
returns-in-Err c =
    kind_refused (c.args.front.now ++ 123 ∷ c.args.rest.now) c.args.front.now c.in-Err.fault (type_front c.args.front.now c.args.rest.now c.requires) c.in-Err.ensures

pub returns-in-Ok-read_braces : goal.returns-in-Ok-read_braces
returns-in-Ok-read_braces c =
    selected c.args.front.now c.args.rest.now c.in-Ok.kind c.in-Ok-read_braces.matchers c.requires c.in-Ok.ensures c.in-Ok-read_braces.ensures

pub returns-in-Err-Stops : goal.returns-in-Err-Stops
returns-in-Err-Stops c =
    stopped c.args.front.now c.args.rest.now c.in-Ok.kind c.in-Err-Stops.at c.requires c.in-Ok.ensures c.utf8.front (rw c.in-Err-Stops.field-0-is at c.in-Err-Stops.ensures)
