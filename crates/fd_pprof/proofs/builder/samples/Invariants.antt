use Rattle.std.proofs.Common.{◌≡◌, take, map}
use Rattle.fd_pprof.specs.Profile.{sample_of}
use Rattle.fd_pprof.proofs.builder.samples.Given as goal

abbrev pub invariant-loop-raw : goal.invariant-loop-raw
invariant-loop-raw l = l.all ≡ map (sample_of l.tables.texts l.tables.catalog.raw) (take l.raw-index l.tables.catalog.raw.samples)
