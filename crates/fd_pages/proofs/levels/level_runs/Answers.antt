use Rattle.std.proofs.Common.{◌^◌, ◌<◌, ◌∙◌}
use Rattle.std.proofs.lemmas.List.Elements.{All-from_recursion, All-same}
use Rattle.fd_pages.proofs.ValueLaws.{levels_fit}
use Rattle.fd_pages.proofs.levels.level_runs.Goals as goal

pub pack-requires-clause-fit : goal.pack-requires-clause-fit
pack-requires-clause-fit c =
    All-same (λ v. v < 2 ^ 1) _ _ (c.as_slice.ensures.value ∙ c.in_ok-levels.ensures) (All-from_recursion (λ v. v < 2 ^ 1) _ (levels_fit c.args.cells.now))
