use Rattle.std.proofs.Common.{◌≡◌, drop}
use Rattle.fd_pool.specs.Finishes.{has_number}
use Rattle.fd_pool.specs.Pools.{views_of}
use Rattle.fd_pool.proofs.endings.has_number.Given as goal

abbrev pub invariant-loop-pass : goal.invariant-loop-pass
invariant-loop-pass l = has_number l.fn.number (views_of (drop l.pass-index l.passes)) ≡ has_number l.fn.number (views_of l.passes)
