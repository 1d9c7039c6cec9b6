use Rattle.std.proofs.Common.{rules, ◌≡◌, true, subst, sym, ◌++◌}
use Rattle.fd_dictionary.specs.Dictionaries.{index_in}
use Rattle.fd_scan.specs.DistinctTexts.{SeesTexts, is_seen, seen_more, text_at}
use Rattle.fd_scan.proofs.TextTables.{sees_still, sees_more}
use Rattle.fd_scan.proofs.texts.add_once.Goals as goal

pub returns-then-is_seen-clause-ok : goal.returns-then-is_seen-clause-ok
returns-then-is_seen-clause-ok c =
    let is : is_seen c.args.seen.now.items (index_in c.args.cells.now c.args.at) ≡ true = search rules in
    λ items before. sees_still c.args.cells.now c.args.found.now.keys c.args.seen.now.items items c.args.at is before

pub returns-clause-ok : goal.returns-clause-ok
returns-clause-ok c =
    let more : c.see.new.seen.items ≡ seen_more c.args.seen.now.items (index_in c.args.cells.now c.args.at) = search rules in
    λ items before. subst (λ seen. SeesTexts c.args.cells.now c.add_cell.new.found.keys seen (items ++ text_at c.args.cells.now c.args.at)) (sym more)
    (sees_more c.args.cells.now c.args.found.now.keys c.add_cell.new.found.keys c.args.seen.now.items items c.args.at c.in_ok-add_cell.ensures.ok before)
