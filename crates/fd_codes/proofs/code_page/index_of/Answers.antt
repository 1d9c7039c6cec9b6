use Rattle.std.proofs.Common.{ℕ, List, Bor}
use Rattle.fd_codes.proofs.SearchLaws.{missed, found}
use Rattle.fd_codes.proofs.code_page.index_of.Goals as goal

pub unreachable-requires : goal.unreachable-requires
unreachable-requires c = missed (λ (t : Bor (List ℕ)). t.now) c.args.texts.now c.args.text c.args.text.now c.in-Err.field-0 c.requires.rising c.requires.known c.in-Err.ensures.position

pub returns-clause-found : goal.returns-clause-found
returns-clause-found c = found (λ (t : Bor (List ℕ)). t.now) c.args.texts.now c.args.text c.args.text.now c.in-Ok.index c.in-Ok.ensures.bound (c.in-Ok.ensures.ok c.args.text)
