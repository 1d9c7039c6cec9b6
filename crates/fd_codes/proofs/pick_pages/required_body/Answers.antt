use Rattle.fd_codes.proofs.PageLaws.{required_written, required_short}
use Rattle.fd_codes.proofs.pick_pages.required_body.Goals as goal

pub returns-clause-spelled : goal.returns-clause-spelled
returns-clause-spelled c = required_written c.args.size c.args.picks.now c.new-out.result c.put_indexes.new.out c.new-out.ensures c.requires.within c.in_ok-put_indexes.ensures

pub returns-clause-short : goal.returns-clause-short
returns-clause-short c = required_short c.args.size c.args.picks.now c.new-out.result c.put_indexes.new.out c.new-out.ensures c.in_ok-put_indexes.ensures
