use Rattle.std.specs.Prelude.{◌≡◌}
use Rattle.fd_proto.specs.declared.fault.ProtoFault.{ProtoFault}
use Rattle.fd_proto.specs.declared.fault.ProtoFault.TheVariants as proto
use Rattle.fd_pprof.specs.declared.fault.ProfileFault.{ProfileFault}
use Rattle.fd_pprof.specs.declared.fault.ProfileFault.TheVariants.{Wire, NoMemory}

-- the fault of a profile whose messages can't be read
abbrev pub IsFaultOf : ProtoFault → ProfileFault → Type 0
IsFaultOf (proto.Wire at) fault = fault ≡ Wire at
IsFaultOf proto.NoMemory fault = fault ≡ NoMemory
