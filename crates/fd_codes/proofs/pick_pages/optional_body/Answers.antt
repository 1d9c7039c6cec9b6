use Rattle.fd_codes.proofs.PageLaws.{optional_written, optional_short}
use Rattle.fd_codes.proofs.pick_pages.optional_body.Goals as goal

pub returns-clause-spelled : goal.returns-clause-spelled
returns-clause-spelled c =
    optional_written c.args.size c.args.picks.now c.new-out.result c.put_levels.new.out c.put_indexes.new.out c.new-out.ensures c.requires.within c.in_ok-put_levels.ensures c.in_ok-put_indexes.ensures

pub returns-clause-short : goal.returns-clause-short
returns-clause-short c =
    optional_short c.args.size c.args.picks.now c.new-out.result c.put_levels.new.out c.put_indexes.new.out c.new-out.ensures c.in_ok-put_levels.ensures c.in_ok-put_indexes.ensures
