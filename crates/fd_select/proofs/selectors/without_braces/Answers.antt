use Rattle.fd_select.proofs.Meetings.{selected_bare}
use Rattle.fd_select.proofs.selectors.without_braces.Goals as goal

pub returns-in-Ok : goal.returns-in-Ok
returns-in-Ok c = selected_bare c.args.text.now c.in-Ok.kind c.new.result c.requires c.in-Ok.ensures c.new.ensures
