use Rattle.std.proofs.Common.{arith, ◌≡◌, ℕ, ◌<◌, ◌≤◌, List, length, map, get_or, sym, ap, ◌∙◌, subst}
use Rattle.std.proofs.lemmas.List.{length-map}
use Rattle.std.proofs.lemmas.List.Sorted.{length_permutation}
use Rattle.fd_kinds.specs.Parts.{PartMeaning}
use Rattle.fd_part.specs.Parts.{part_meaning}
use Rattle.fd_part.specs.declared.part.Part.{Part}
use Rattle.fd_shelf.specs.Steps.{lowest, highest}
use Rattle.fd_shelf.specs.declared.picks.InBlock.{InBlock}
use Rattle.fd_compact.specs.Runs.{IsSealOf}
use Rattle.fd_pooled.specs.Compactions.{Puts}
use Rattle.fd_pooled.proofs.Compacting.{ends, first_block, seen}
use Rattle.fd_pooled.proofs.Passing.{looks_self}
use Rattle.fd_pooled.proofs.compaction.compact_run.Goals as goal

abbrev meaning_in : InBlock Part → PartMeaning
meaning_in i = part_meaning i.part

abbrev block_in : InBlock Part → ℕ
block_in i = i.block

pub returns-then-parts-lt-FEWEST-clause-looks : goal.returns-then-parts-lt-FEWEST-clause-looks
returns-then-parts-lt-FEWEST-clause-looks g c = looks_self c.args.seat.now.inner.me.0

pub returns-in_err-run-clause-looks : goal.returns-in_err-run-clause-looks
returns-in_err-run-clause-looks g c = looks_self c.args.seat.now.inner.me.0

pub put_run-requires-clause-rows : goal.put_run-requires-clause-rows
put_run-requires-clause-rows g c = let picked = c.args.picked.now in let part = c.in_ok-run.run'.part in let same = c.as_slice-parts.ensures in
    let long : length (map meaning_in picked) ≡ length picked = length-map picked meaning_in in
    let count : length c.as_slice-parts.result.now ≡ length picked = ap length same in
    let two : 2 ≤ length (map meaning_in picked) = omega (arith, c.if-parts-lt-FEWEST.false, count, long) in
    let seals : IsSealOf (map meaning_in picked) (part_meaning part) = subst (λ (is : List (InBlock Part)). IsSealOf (map meaning_in is) (part_meaning part)) same c.in_ok-run.ensures.seals in
    seen c.args.least.now.l c.requires.run.0 _ (map meaning_in picked) c.args.seat.now.inner.me.0 c.requires.run.1 two (part_meaning part) seals

pub returns-clause-ends : goal.returns-clause-ends
returns-clause-ends g c given listed = let picked = c.args.picked.now in let parts = c.as_slice-parts.result.now in let part = c.in_ok-run.run'.part in let x = c.index-parts-0.result in let same = c.as_slice-parts.ensures in
    let long : length (map meaning_in picked) ≡ length picked = length-map picked meaning_in in
    let count : length parts ≡ length picked = ap length same in
    let two : 2 ≤ length (map meaning_in picked) = omega (arith, c.if-parts-lt-FEWEST.false, count, long) in
    let some : 0 < length picked = omega (arith, two, long) in
    let first : x ≡ get_or picked 0 x = c.index-parts-0.is ∙ ap (λ (is : List (InBlock Part)). get_or is 0 x) same in
    let seals : IsSealOf (map meaning_in picked) (part_meaning part) = subst (λ (is : List (InBlock Part)). IsSealOf (map meaning_in is) (part_meaning part)) same c.in_ok-run.ensures.seals in
    ends c.args.least.now.l given _ (map meaning_in picked) c.args.seat.now.inner.me.0 listed two x.block c.in_ok-run.run'.lo c.in_ok-run.run'.hi c.in_ok-run.run'.rows (part_meaning part)
    (first_block block_in meaning_in picked x given.book c.args.least.now.l some first listed.place)
    (c.in_ok-run.ensures.lo ∙ ap (λ (is : List (InBlock Part)). lowest (map meaning_in is)) same)
    (c.in_ok-run.ensures.hi ∙ ap (λ (is : List (InBlock Part)). highest (map meaning_in is)) same)
    (c.in_ok-run.ensures.rows ∙ sym (length_permutation _ _ c.in_ok-run.ensures.seals.rows))
    seals c.put_run.result c.put_run.new.seat.inner.me.0
    (subst (λ (i : InBlock Part). Puts i.block c.in_ok-run.run'.lo c.in_ok-run.run'.hi c.in_ok-run.run'.rows (part_meaning part) c.args.seat.now.inner.me.0 c.put_run.result c.put_run.new.seat.inner.me.0) (sym c.index-parts-0.is) c.put_run.ensures.puts)
