-- The shapes by the names of the messages.
use Rattle.std.specs.Prelude.{ℕ, ◌<◌, List, Option, None, Result, Ok, Err, ◌≡◌, ◌≢◌}
use Rattle.fd_lists.specs.declared.memory.NoMemory.{NoMemory}
use Rattle.fd_wire.specs.declared.fault.WireFault.{WireFault}
use Rattle.fd_wire.specs.declared.fault.WireFault.TheVariants as faults
use Rattle.fd_wire.specs.declared.field.WireValue.{WireValue}
use Rattle.fd_proto.specs.declared.message.Message.{Message}
use Rattle.fd_proto.specs.declared.message.Message.TheVariants as messages
use Rattle.fd_proto.specs.declared.message.Holds.{Holds}
use Rattle.fd_proto.specs.declared.message.Holds.TheVariants.{Nothing, Numbers, Part}
use Rattle.fd_proto.specs.Shape.{Shape, nothing, value_type, label, sample, mapping, location, function, profile, value_flaw, message_flaw, packed_flaw, place_of}

abbrev pub shape_of : Message → Shape
shape_of messages.ValueType = value_type
shape_of messages.Label = label
shape_of messages.Sample = sample
shape_of messages.Mapping = mapping
shape_of messages.Line = nothing
shape_of messages.Location = location
shape_of messages.Function = function
shape_of messages.Profile = profile

-- how many levels a message may have
abbrev pub depth : Message → ℕ
depth messages.Profile = 2
depth messages.Sample = 1
depth messages.Location = 1
depth message = 0

-- the flaw of a value that is read so
abbrev pub held_flaw : List ℕ → WireValue → Holds → Option ℕ
held_flaw bytes value Nothing = None
held_flaw bytes value Numbers = packed_flaw bytes value
held_flaw bytes value (Part message) = message_flaw bytes (value_flaw bytes (shape_of message)) value

-- the message holds messages of fewer levels
abbrev pub IsAbove : Message → Holds → Type 0
IsAbove message (Part inner) = depth inner < depth message
IsAbove message holds = Unit {0}

-- the place of a failure, unless memory ran out
abbrev pub IsFlawAt : WireFault → Result ℕ NoMemory → Type 0
IsFlawAt fault (Ok at) = (at ≡ place_of fault) × (fault ≢ faults.NoMemory)
IsFlawAt fault (Err e) = fault ≡ faults.NoMemory
