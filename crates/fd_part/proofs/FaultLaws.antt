-- What opening a file answers, by what reading it does.
use Rattle.std.proofs.Common.{Result, Ok, Err, ap}
use Rattle.fd_parquet.specs.declared.fault.FileFault.{FileFault}
use Rattle.fd_parquet.specs.declared.fault.FileFault.TheVariants.{Magic, Footer, Schema, Page, NoMemory}
use Rattle.fd_parquet.specs.Refusals.{Finds, IsRefused}

-- a fault is no answer to a file, whatever is seen of the answer
pub gives_fault : {X Y U V : Type 0} (see : X → Y) (other : U → V) (fault : FileFault) (y : Y) (v : V) → Finds see (Err fault) y → Finds other (Err fault) v
gives_fault see other Magic y v h = h
gives_fault see other Footer y v h = h
gives_fault see other Schema y v h = h
gives_fault see other (Page k) y v h = h
gives_fault see other NoMemory y v h = h

-- the fault of an answer, and this one where it has none
abbrev told : (A B : Type 0) → FileFault → Result A FileFault → Result B FileFault
told A B other (Ok a) = Err other
told A B other (Err fault) = Err fault

-- what is refused by a fault stays so, whatever would be answered where there is none
pub refused_fault : (A B : Type 0) (fault other : FileFault) → IsRefused {A = A} fault (Err other) → IsRefused {A = B} fault (Err other)
refused_fault A B fault Magic h = ap (told A B fault) h
refused_fault A B fault Footer h = ap (told A B fault) h
refused_fault A B fault Schema h = ap (told A B fault) h
refused_fault A B fault (Page k) h = ap (told A B fault) h
refused_fault A B fault NoMemory h = h
