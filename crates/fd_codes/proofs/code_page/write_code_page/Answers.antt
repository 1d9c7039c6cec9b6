use Rattle.std.proofs.Common.{ℕ, ◌+◌, List, map, sym, subst, Bor}
use Rattle.std.specs.Prelude.{All, Contains, slice_range}
use Rattle.fd_pages.specs.declared.cell.Cell.{Cell}
use Rattle.fd_pages.specs.Dictionaries.{texts_in}
use Rattle.fd_codes.proofs.code_page.write_code_page.Goals as goal

pub picks_of-requires-clause-known : goal.picks_of-requires-clause-known
picks_of-requires-clause-known c =
    let texts = map (λ (t : Bor (List ℕ)). t.now) c.args.texts.now in
    subst (λ (cs : List Cell). All (Contains texts) (texts_in (slice_range cs c.args.from (c.args.from + c.args.count)))) (sym c.as_slice.ensures) c.requires.known
