-- Refusals: a table of their statuses, names and fields, and their JSON, all fields as texts, the keys in byte order.
use Rattle.std.specs.Prelude.{ℕ, ◌≡◌, ◌⊎◌, ◌==◌, List, [], ◌∷◌, IsTrue, codes, decimal}
use Rattle.std.specs.List.{list_any}
use Rattle.serde_json.specs.Data.{Data, string, object, member, no_members}
use Rattle.fd_json.specs.Answers.{number_json}
use Rattle.fd_json.specs.declared.refusal.Fault.{Fault}
use Rattle.fd_json.specs.declared.refusal.Fault.TheVariants.{NoRoute, BadMethod, Encoded, NotJson, BadShape, BadBase64, BadLabelName, LongValue, RepeatedLabel, NoName, Compressed, Wire, StringZero, StringIndex, ValueCount, UnknownLocation, UnknownMapping, UnknownFunction, RepeatedId, NotUtf8, TooDeep, LongText, LargeBatch, NoQuery, BadType, BadMatcher, BadTime, BadAfter, NotDrawn, Spent, DiskFault, BadHead, NoLength, TooLarge}
use Rattle.fd_json.specs.declared.refusal.Fields.{Fields}
use Rattle.fd_json.specs.declared.refusal.Fields.TheVariants as fields
use Rattle.fd_json.specs.declared.refusal.Parameter.{Parameter}
use Rattle.fd_json.specs.declared.refusal.Parameter.TheVariants.{Start, End}

-- an error without fields
abbrev pub bare : List ℕ → Data
bare name = object (member (codes "error") (string name) no_members)

-- an error with one number, whose key stands before `error`
abbrev pub numbered : List ℕ → ℕ → List ℕ → Data
numbered key n name = object (member key (number_json n) (member (codes "error") (string name) no_members))

-- an error with one text, whose key stands behind `error`
abbrev pub detailed : List ℕ → List ℕ → List ℕ → Data
detailed name key text = object (member (codes "error") (string name) (member key (string text) no_members))

-- an error in a series of a write body
abbrev pub in_series : List ℕ → ℕ → Data
in_series name series = detailed name (codes "series") (decimal series)

-- the same at one of its labels, or in one of its samples
abbrev pub placed : List ℕ → ℕ → List ℕ → ℕ → Data
placed name series key n =
    object
    (member (codes "error") (string name) (member key (number_json n) (member (codes "series") (number_json series) no_members)))

-- an error at a byte of the message of a sample
abbrev pub at_byte : List ℕ → ℕ → ℕ → ℕ → Data
at_byte name series sample at =
    object
    (member (codes "at") (number_json at)
    (member (codes "error") (string name)
    (member (codes "sample") (number_json sample)
    (member (codes "series") (number_json series) no_members))))

abbrev pub parameter_name : Parameter → List ℕ
parameter_name Start = codes "start"
parameter_name End = codes "end"

-- the object of a refusal
abbrev pub refusal_json : List ℕ → Fields → Data
refusal_json name fields.None = bare name
refusal_json name (fields.Series series) = in_series name series
refusal_json name (fields.Label series label) = placed name series (codes "label") label
refusal_json name (fields.Sample series sample) = placed name series (codes "sample") sample
refusal_json name (fields.Byte series sample at) = at_byte name series sample at
refusal_json name (fields.At at) = numbered (codes "at") at name
refusal_json name (fields.Drawn drawn) = numbered (codes "drawn") drawn name
refusal_json name (fields.Window parameter) = detailed name (codes "parameter") (parameter_name parameter)

-- a row of the table: the status of a refusal's reply, its name and its fields
pub record Row : Type 0 where
  pub status : ℕ
  pub name : List ℕ
  pub fields : Fields

abbrev pub refused : ℕ → List ℕ → Fields → Row
refused status name fields = record { status = status; name = name; fields = fields }

-- the table of refusals
abbrev pub row : Fault → Row
row NoRoute = refused 404 (codes "NoRoute") fields.None
row BadMethod = refused 405 (codes "BadMethod") fields.None
row Encoded = refused 422 (codes "Encoded") fields.None
row NotJson = refused 400 (codes "NotJson") fields.None
row BadShape = refused 400 (codes "BadShape") fields.None
row (BadBase64 series sample) = refused 400 (codes "BadBase64") (fields.Sample series sample)
row (BadLabelName series label) = refused 422 (codes "BadLabelName") (fields.Label series label)
row (LongValue series label) = refused 422 (codes "LongValue") (fields.Label series label)
row (RepeatedLabel series label) = refused 422 (codes "RepeatedLabel") (fields.Label series label)
row (NoName series) = refused 422 (codes "NoName") (fields.Series series)
row (Compressed series sample) = refused 422 (codes "Compressed") (fields.Sample series sample)
row (Wire series sample at) = refused 422 (codes "Wire") (fields.Byte series sample at)
row (StringZero series sample) = refused 422 (codes "StringZero") (fields.Sample series sample)
row (StringIndex series sample) = refused 422 (codes "StringIndex") (fields.Sample series sample)
row (ValueCount series sample) = refused 422 (codes "ValueCount") (fields.Sample series sample)
row (UnknownLocation series sample) = refused 422 (codes "UnknownLocation") (fields.Sample series sample)
row (UnknownMapping series sample) = refused 422 (codes "UnknownMapping") (fields.Sample series sample)
row (UnknownFunction series sample) = refused 422 (codes "UnknownFunction") (fields.Sample series sample)
row (RepeatedId series sample) = refused 422 (codes "RepeatedId") (fields.Sample series sample)
row (NotUtf8 series sample) = refused 422 (codes "NotUtf8") (fields.Sample series sample)
row (TooDeep series sample) = refused 422 (codes "TooDeep") (fields.Sample series sample)
row (LongText series sample) = refused 422 (codes "LongText") (fields.Sample series sample)
row (LargeBatch series sample) = refused 422 (codes "LargeBatch") (fields.Sample series sample)
row NoQuery = refused 400 (codes "NoQuery") fields.None
row BadType = refused 400 (codes "BadType") fields.None
row (BadMatcher at) = refused 400 (codes "BadMatcher") (fields.At at)
row (BadTime parameter) = refused 400 (codes "BadTime") (fields.Window parameter)
row BadAfter = refused 400 (codes "BadAfter") fields.None
row (NotDrawn drawn) = refused 409 (codes "NotDrawn") (fields.Drawn drawn)
row (Spent drawn) = refused 503 (codes "Spent") (fields.Drawn drawn)
row DiskFault = refused 503 (codes "DiskFault") fields.None
row BadHead = refused 400 (codes "BadHead") fields.None
row NoLength = refused 411 (codes "NoLength") fields.None
row TooLarge = refused 413 (codes "TooLarge") fields.None

abbrev pub fault_json : Fault → Data
fault_json fault = refusal_json (row fault).name (row fault).fields

abbrev pub status_of : Fault → ℕ
status_of fault = (row fault).status

-- the statuses of refusals; the reply of status 405 names the method too
abbrev pub IsRefusalStatus : ℕ → Type 0
IsRefusalStatus status = (status ≡ 405) ⊎ IsTrue (list_any (λ s. s == status) (400 ∷ 404 ∷ 409 ∷ 411 ∷ 413 ∷ 422 ∷ 503 ∷ []))
