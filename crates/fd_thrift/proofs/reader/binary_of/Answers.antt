use Rattle.std.proofs.Common.{◌≡◌, arith, refl, false, true, nat_lt, length}
use Rattle.std.proofs.lemmas.Result.{err_from_is_err_and}
use Rattle.std.proofs.lemmas.Bool.Decides.{nat_tests}
use Rattle.fd_thrift.specs.Reader.{binary_at}
use Rattle.fd_thrift.proofs.Loops.{err_fails}
use Rattle.fd_thrift.proofs.reader.binary_of.Goals as goal

pub returns-in_err-size-clause-value : goal.returns-in_err-size-clause-value
unfolding binary_at
returns-in_err-size-clause-value c =
    let p = err_from_is_err_and c.from_residual.result c.from_residual.ensures.1 in
    rw (p.1, p.2) (err_fails _ _ (rw c.in_err-size.ensures.value refl))

pub returns-then-size-rest-clause-value : goal.returns-then-size-rest-clause-value
unfolding binary_at
returns-then-size-rest-clause-value c =
    let more : nat_lt (length c.in_ok-size.rest.now) c.in_ok-size.size ≡ true = grind (arith, nat_tests) in
    rw (c.in_ok-size.ensures.value, more) refl

pub returns-clause-value : goal.returns-clause-value
unfolding binary_at
returns-clause-value c =
    let within : nat_lt (length c.in_ok-size.rest.now) c.in_ok-size.size ≡ false = grind (arith, nat_tests) in
    rw (c.in_ok-size.ensures.value, within, ← c.split_at.ensures.front, ← c.split_at.ensures.back, c.in_ok-from_slice.ensures) refl
