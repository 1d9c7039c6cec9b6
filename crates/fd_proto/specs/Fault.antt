use Rattle.std.specs.Prelude.{◌≡◌, ℕ, Option, Some}
use Rattle.fd_proto.specs.declared.fault.ProtoFault.{ProtoFault}
use Rattle.fd_proto.specs.declared.fault.ProtoFault.TheVariants.{Wire, NoMemory}

-- the fault that a flaw of the bytes gives; want of memory is free
abbrev pub IsFlaw : Option ℕ → ProtoFault → Type 0
IsFlaw flaw (Wire at) = flaw ≡ Some at
IsFlaw flaw NoMemory = Unit {0}
