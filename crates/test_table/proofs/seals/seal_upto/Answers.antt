use Rattle.std.proofs.Common.{rules, ◌≡◌, ap, ◌∙◌, subst, [], map, arith}
use Rattle.std.specs.Prelude.{IsPermutation}
use Rattle.fd_shelf.specs.Books.{rows_in}
use Rattle.fd_shelf.specs.Steps.{highest, loose_upto, lowest}
use Rattle.stubs.specs.Stubs.{sealed_stub, stub_meaning}
use Rattle.test_table.proofs.Replacements.{first_is, none_to_sort, sealed_more}
use Rattle.test_table.proofs.seals.seal_upto.Goals as goal

pub seal_run-requires-clause-rows : goal.seal_run-requires-clause-rows
seal_run-requires-clause-rows c = let parts = c.as_slice-parts.result.now in let told : map (λ i. stub_meaning i.part) parts ≡ loose_upto c.args.shelf.now.book c.args.limit = search rules in
    c.level0_laws.ensures.rows (sealed_stub c.lo-lo.result c.last_number-hi.result)
    (c.lo-lo.ensures ∙ first_is (λ i. stub_meaning i.part) parts c.first-item.result (omega (arith, c.in-len1-up.len_at_least)) c.first-item.is ∙ ap lowest told)
    (c.last_number-hi.ensures ∙ ap highest told)
    (subst (λ ps. IsPermutation (rows_in ps) []) told (none_to_sort parts))

pub returns-then-seal_run-clause-sealed : goal.returns-then-seal_run-clause-sealed
returns-then-seal_run-clause-sealed c = sealed_more c.args.shelf.now.book c.seal_run.new.shelf.book c.last_number-hi.result c.args.limit (omega (arith, c.if-limit-hi.false)) c.seal_run.ensures.sealed

pub returns-clause-sealed : goal.returns-clause-sealed
returns-clause-sealed c = sealed_more c.args.shelf.now.book c.seal_run.new.shelf.book c.last_number-hi.result c.args.limit (omega (arith, c.if-limit-hi.false)) c.seal_run.ensures.sealed
