use Rattle.std.proofs.Common.{◌≡◌}
use Rattle.fd_gen.specs.Draws.{several, sample_of}
use Rattle.fd_gen.proofs.draws.draw_samples.Given as goal

abbrev pub invariant-loop : goal.invariant-loop
invariant-loop l = (l.samples, l.rng) ≡ several l.counter sample_of l.fn.rng
