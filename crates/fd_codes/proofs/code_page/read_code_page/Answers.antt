use Rattle.std.proofs.Common.{ℕ, List, length, map, ap, ◌∙◌, Bor}
use Rattle.std.proofs.lemmas.List.{length-map}
use Rattle.fd_codes.specs.Picks.{picked_cells}
use Rattle.fd_codes.proofs.HeaderLaws.{pair_is}
use Rattle.fd_codes.proofs.CellPicks.{stands_cells}
use Rattle.fd_codes.proofs.code_page.read_code_page.Goals as goal

pub returns-clause-found : goal.returns-clause-found
returns-clause-found c =
    let texts = map (λ (t : Bor (List ℕ)). t.now) c.args.texts.now in
    stands_cells c.args.required texts (length c.args.texts.now) c.args.count c.in_ok-picks.picks c.args.bytes.now c.args.at c.in_ok-picks.end c.in_ok-cells_of.field-0 (length-map c.args.texts.now (λ (t : Bor (List ℕ)). t.now))
    c.in_ok-picks.ensures.found (c.in_ok-cells_of.ensures ∙ ap (picked_cells texts) c.as_slice.ensures)

pub returns-clause-only : goal.returns-clause-only
returns-clause-only c = λ cells end p.
    let texts = map (λ (t : Bor (List ℕ)). t.now) c.args.texts.now in
    let alike = pair_is (picked_cells texts c.in_ok-picks.picks) cells c.in_ok-picks.end end (c.in_ok-picks.ensures.only texts cells end (length-map c.args.texts.now (λ (t : Bor (List ℕ)). t.now)) p) in
    let same = c.in_ok-cells_of.ensures ∙ ap (picked_cells texts) c.as_slice.ensures ∙ alike.0 in
    rw (same, alike.1)

pub returns-clause-bad_only : goal.returns-clause-bad_only
returns-clause-bad_only c = λ none. absurd (none (c.in_ok-cells_of.field-0, c.in_ok-picks.end, returns-clause-found c))
