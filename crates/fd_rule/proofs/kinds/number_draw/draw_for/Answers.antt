use Rattle.std.proofs.Common.{rules, sym, subst}
use Rattle.fd_kinds.specs.History.{IsSmall}
use Rattle.fd_rule.proofs.NumberDraws.{allows_number_draw}
use Rattle.fd_rule.proofs.kinds.number_draw.draw_for.Goals as goal

pub fetch_add-requires : goal.fetch_add-requires
fetch_add-requires g c = (search rules, search rules, allows_number_draw _ _ _ _ c.book_laws.ensures.count _ _ g.B.Drawn.rows _ (search rules) c.requires.may (subst (λ x. IsSmall x) (sym c.requires.batch) c.requires.small))
