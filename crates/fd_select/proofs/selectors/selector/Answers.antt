use Rattle.fd_select.proofs.Meetings.{selects, refuses}
use Rattle.fd_select.proofs.selectors.selector.Goals as goal

pub returns-clause-selects : goal.returns-clause-selects
returns-clause-selects c = λ s h. selects c.args.text.now c.read_selector.result s c.read_selector.ensures h

pub returns-clause-refuses : goal.returns-clause-refuses
returns-clause-refuses c = λ fault h. refuses c.args.text.now c.read_selector.result fault c.read_selector.ensures h
