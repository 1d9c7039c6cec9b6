use Rattle.std.proofs.Common.{◌≡◌, ◌++◌, map}
use Rattle.form_urlencoded.specs.Form.{raw_pairs}
use Rattle.form_urlencoded.specs.Parse.{pairs_left}
use Rattle.fd_api.specs.Targets.{decoded}
use Rattle.fd_api.proofs.target.parameters.Given as goal

abbrev pub invariant-loop-pair : goal.invariant-loop-pair
invariant-loop-pair l = l.pairs ++ map decoded (pairs_left l.pair-iterator) ≡ map decoded (raw_pairs l.query)
