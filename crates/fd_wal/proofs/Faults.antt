-- Faults that are handed on.
use Rattle.std.proofs.Common.{◌≡◌, sym, subst, ◌∙◌}
use Rattle.std.specs.Prelude.{Option, None, Result, Err}
use Rattle.std.specs.Result.{IsErrAnd}
use Rattle.std.proofs.lemmas.Result.{err_from_is_err_and}
use Rattle.fd_wal.specs.declared.fault.ReadFault.{ReadFault}
use Rattle.fd_wal.specs.declared.fault.ReadFault.TheVariants.{Malformed}
use Rattle.fd_wal.specs.Reading.{Fails}

pub one_fault : {X : Type 0} (a b : ReadFault) → ◌≡◌ {A = Result X ReadFault} (Err a) (Err b) → a ≡ b
one_fault a b e = cc

-- what is answered for a fault is that fault
pub handed_on : {X : Type 0} (result : Result X ReadFault) (fault : ReadFault) → IsErrAnd result (λ e. e ≡ fault) → result ≡ Err Malformed → fault ≡ Malformed
handed_on {X} result fault is malformed =
    let p = err_from_is_err_and result is in
    sym p.2 ∙ one_fault {X = X} p.0 Malformed (sym p.1 ∙ malformed)

-- a reading that failed, where memory did not run out
pub no_reading : {Y : Type 0} (fault : ReadFault) (read : Option Y) → fault ≡ Malformed → Fails fault read → read ≡ None
no_reading {Y} fault read e fails = subst (λ (f : ReadFault). Fails f read) e fails
