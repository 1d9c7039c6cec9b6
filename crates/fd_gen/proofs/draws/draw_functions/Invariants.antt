use Rattle.std.proofs.Common.{◌≡◌}
use Rattle.fd_gen.specs.Draws.{draw as draw_of}
use Rattle.fd_gen.specs.Draws.{several}
use Rattle.fd_gen.proofs.draws.draw_functions.Given as goal

abbrev pub invariant-loop : goal.invariant-loop
invariant-loop l = (l.functions, l.rng) ≡ several l.counter (draw_of 50) l.fn.rng
