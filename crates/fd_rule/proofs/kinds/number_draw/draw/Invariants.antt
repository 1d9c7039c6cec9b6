use Rattle.fd_kinds.specs.Parts.{rows_of}
use Rattle.fd_rule.proofs.kinds.number_draw.draw.Given as goal

abbrev pub ghosts-draw_for : goal.ghosts-draw_for
ghosts-draw_for g a = record { rows = rows_of (g.P.Held.means a.part.now).rows }
