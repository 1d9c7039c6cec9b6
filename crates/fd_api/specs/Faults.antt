-- The faults of the readers, as a reply names them; want of memory has no such name.
use Rattle.std.specs.Prelude.{ℕ, Option, Some, None}
use Rattle.fd_json.specs.declared.refusal.Fault.{Fault}
use Rattle.fd_json.specs.declared.refusal.Fault.TheVariants.{NotJson, BadShape, BadBase64, BadLabelName, LongValue, RepeatedLabel, NoName, Compressed, Wire, StringZero, StringIndex, ValueCount, UnknownLocation, UnknownMapping, UnknownFunction, RepeatedId, NotUtf8, TooDeep, LongText, LargeBatch}
use Rattle.fd_json.specs.declared.fault.BodyFault.{BodyFault}
use Rattle.fd_json.specs.declared.fault.BodyFault.TheVariants as body
use Rattle.fd_pprof.specs.declared.fault.ProfileFault.{ProfileFault}
use Rattle.fd_pprof.specs.declared.fault.ProfileFault.TheVariants as profile
use Rattle.fd_rows.specs.declared.faults.BatchFault.{BatchFault}
use Rattle.fd_rows.specs.declared.faults.BatchFault.TheVariants as batch
use Rattle.fd_rows.specs.declared.faults.LabelFault.{LabelFault}
use Rattle.fd_rows.specs.declared.faults.LabelFault.TheVariants as label

abbrev pub body_fault : BodyFault → Option Fault
body_fault body.NotJson = Some NotJson
body_fault body.BadShape = Some BadShape
body_fault (body.BadBase64 series sample) = Some (BadBase64 series sample)
body_fault body.NoMemory = None

abbrev pub label_fault : ℕ → ℕ → LabelFault → Fault
label_fault series place label.BadLabelName = BadLabelName series place
label_fault series place label.LongValue = LongValue series place
label_fault series place label.RepeatedLabel = RepeatedLabel series place

abbrev pub profile_fault : ℕ → ℕ → ProfileFault → Option Fault
profile_fault series sample profile.Compressed = Some (Compressed series sample)
profile_fault series sample (profile.Wire at) = Some (Wire series sample at)
profile_fault series sample profile.StringZero = Some (StringZero series sample)
profile_fault series sample profile.StringIndex = Some (StringIndex series sample)
profile_fault series sample profile.ValueCount = Some (ValueCount series sample)
profile_fault series sample profile.UnknownLocation = Some (UnknownLocation series sample)
profile_fault series sample profile.UnknownMapping = Some (UnknownMapping series sample)
profile_fault series sample profile.UnknownFunction = Some (UnknownFunction series sample)
profile_fault series sample profile.RepeatedId = Some (RepeatedId series sample)
profile_fault series sample profile.NotUtf8 = Some (NotUtf8 series sample)
profile_fault series sample profile.TooDeep = Some (TooDeep series sample)
profile_fault series sample profile.LongText = Some (LongText series sample)
profile_fault series sample profile.NoMemory = None

abbrev pub batch_fault : BatchFault → Option Fault
batch_fault (batch.Label series place fault) = Some (label_fault series place fault)
batch_fault (batch.NoName series) = Some (NoName series)
batch_fault (batch.Profile series sample fault) = profile_fault series sample fault
batch_fault (batch.Large series sample) = Some (LargeBatch series sample)
batch_fault batch.NoMemory = None
