use Rattle.std.proofs.Common.{ℕ, List, [], ◌∷◌, map, sym, subst, Bor}
use Rattle.std.specs.Prelude.{All, Contains}
use Rattle.fd_pages.specs.declared.cell.Cell.{Cell}
use Rattle.fd_pages.specs.Dictionaries.{texts_in}
use Rattle.fd_codes.proofs.CellPicks.{known_at}
use Rattle.fd_codes.proofs.code_page.picks_of.Goals as goal

pub pick_of-requires-clause-known : goal.pick_of-requires-clause-known
pick_of-requires-clause-known c =
    let texts = map (λ (t : Bor (List ℕ)). t.now) c.args.texts.now in
    subst (λ (x : Cell). All (Contains texts) (texts_in (x ∷ []))) (sym c.cell-item.is) (known_at (Contains texts) c.args.cells.now c.loop-cell.cell-index c.cell-item.result c.loop-cell-test.true c.requires.known)
