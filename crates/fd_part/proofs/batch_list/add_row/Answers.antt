use Rattle.std.proofs.Common.{rules, ◌≡◌, ℕ, ◌++◌, ◌∷◌, [], cond, nat_cmp, unwrap_or, Some, None}
use Rattle.std.specs.BTreeMap.{get, is_at}
use Rattle.fd_part.proofs.BatchLists.{by_number_more}
use Rattle.fd_part.proofs.batch_list.add_row.Goals as goal

pub returns : goal.returns
returns c =
    let r = c.in_ok-number.field-0 in
    let takes : (q : ℕ) → get nat_cmp c.remove.new.self q ≡ cond (is_at (nat_cmp r.number) q) None (get nat_cmp c.args.map.now q) = search rules in
    let puts : (q : ℕ) → get nat_cmp c.insert.new.self q ≡ cond (is_at (nat_cmp r.number) q) (Some c.push.new.self) (get nat_cmp c.remove.new.self q) = search rules in
    let gained : c.push.new.self ≡ unwrap_or (get nat_cmp c.args.map.now r.number) [] ++ r.row ∷ [] = search rules in
    by_number_more c.args.map.now c.remove.new.self c.insert.new.self c.args.table.now c.args.at r c.push.new.self c.in_ok-number.ensures c.requires.rows takes puts gained
