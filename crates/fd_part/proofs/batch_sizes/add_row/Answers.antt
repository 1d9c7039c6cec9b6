use Rattle.std.proofs.Common.{rules, ◌≡◌, ◌+◌, ◌-◌, ◌^◌, ℕ, nat_cmp, cond, min, unwrap_or, Some}
use Rattle.std.specs.BTreeMap.{get, is_at}
use Rattle.fd_kinds.specs.RowSize.{row_size}
use Rattle.fd_part.proofs.BatchSizes.{sizes_more, large_at}
use Rattle.fd_part.proofs.batch_sizes.add_row.Goals as goal

pub returns-then-sum-gt-MOST_BATCH_BYTES-clause-large : goal.returns-then-sum-gt-MOST_BATCH_BYTES-clause-large
returns-then-sum-gt-MOST_BATCH_BYTES-clause-large c =
    let r = c.in_ok-number.field-0 in
    let is_sum : c.saturating_add-sum.result ≡ min (unwrap_or (get nat_cmp c.args.sizes.now r.number) 0 + min (row_size r.row) (2 ^ 64 - 1)) (2 ^ 64 - 1) = search rules in
    λ _. large_at c.args.sizes.now c.args.table.now c.args.at r c.saturating_add-sum.result c.in_ok-number.ensures c.requires.sizes is_sum c.if-sum-gt-MOST_BATCH_BYTES.true

pub returns-clause-small : goal.returns-clause-small
returns-clause-small c =
    let r = c.in_ok-number.field-0 in
    let is_sum : c.saturating_add-sum.result ≡ min (unwrap_or (get nat_cmp c.args.sizes.now r.number) 0 + min (row_size r.row) (2 ^ 64 - 1)) (2 ^ 64 - 1) = search rules in
    let puts : (q : ℕ) → get nat_cmp c.insert.new.self q ≡ cond (is_at (nat_cmp r.number) q) (Some c.saturating_add-sum.result) (get nat_cmp c.args.sizes.now q) = search rules in
    λ _. sizes_more c.args.sizes.now c.insert.new.self c.args.table.now c.args.at r c.saturating_add-sum.result c.in_ok-number.ensures c.requires.sizes puts is_sum c.if-sum-gt-MOST_BATCH_BYTES.false
