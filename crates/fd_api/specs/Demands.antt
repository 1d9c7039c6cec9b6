-- What a request asks: the first refusal that holds, or a write, a query or the status of the store.
use Rattle.std.specs.Prelude.{◌≡◌, ℕ, ℤ, pos, negsuc, ◌-◌, ◌^◌, ◌&&◌, nat_lt, Bool, List, Option, Some, None, Result, Ok, Err, MatchBool, codes, bytes_eq, if◌then◌else◌}
use Rattle.std.specs.List.Sorted.{IsPermutation}
use Rattle.std.specs.Str.Parse.{digits_value}
use Rattle.fd_lists.specs.Digits.{is_size}
use Rattle.fd_kinds.specs.declared.pair.Pair.{Pair}
use Rattle.fd_kinds.specs.declared.query.Selector.{Selector}
use Rattle.fd_kinds.specs.declared.body.RawBody.{RawBody}
use Rattle.fd_http.specs.declared.request.Request.{Request}
use Rattle.fd_json.specs.declared.fault.BodyFault.{BodyFault}
use Rattle.fd_json.specs.declared.refusal.Fault.{Fault}
use Rattle.fd_json.specs.declared.refusal.Fault.TheVariants as fault
use Rattle.fd_json.specs.declared.refusal.Parameter.{Parameter}
use Rattle.fd_json.specs.declared.refusal.Parameter.TheVariants.{Start, End}
use Rattle.fd_json.specs.Body.{body_of}
use Rattle.fd_select.specs.declared.faults.SelectFault.{SelectFault}
use Rattle.fd_select.specs.declared.faults.SelectFault.TheVariants as select
use Rattle.fd_select.specs.declared.times.MomentFault.{MomentFault}
use Rattle.fd_select.specs.declared.times.MomentFault.TheVariants as moment
use Rattle.fd_select.specs.SelectorTexts.{IsSelectorText, HasSelectFault}
use Rattle.fd_select.specs.Moments.{moment_of}
use Rattle.fd_rows.specs.declared.faults.BatchFault.{BatchFault}
use Rattle.fd_rows.specs.Body.{body_refusal, body_rows}
use Rattle.fd_api.specs.declared.small_batch.SmallBatch.{SmallBatch}
use Rattle.fd_api.specs.declared.demand.Demand.{Demand}
use Rattle.fd_api.specs.declared.demand.Demand.TheVariants.{Write, Read, Stand, NotAllowed, Refused}
use Rattle.fd_api.specs.declared.question.Question.{Question}
use Rattle.fd_api.specs.declared.question.Question.TheVariants as question
use Rattle.fd_api.specs.declared.route.Listing.{Listing}
use Rattle.fd_api.specs.declared.route.Summing.{Summing}
use Rattle.fd_api.specs.declared.route.Route.{Route}
use Rattle.fd_api.specs.declared.route.Route.TheVariants as route
use Rattle.fd_api.specs.Faults.{body_fault, batch_fault}
use Rattle.fd_api.specs.Questions.{query_of}
use Rattle.fd_api.specs.Routes.{route_of, method_of, method_name}
use Rattle.fd_api.specs.Targets.{path_of, parameters, last_value}

-- a fault of a reader
abbrev pub IsFault : Option Fault → Demand → Type 0
IsFault (Some f) asked = asked ≡ Refused f
IsFault None asked = ⊥

-- the rows of a body that nothing speaks against, in order
abbrev pub AsksBatch : Option BatchFault → RawBody → Demand → Type 0
AsksBatch (Some f) body asked = IsFault (batch_fault f) asked
AsksBatch None body asked = (accepted : SmallBatch) × IsPermutation (body_rows body) accepted.batch.rows × (asked ≡ Write accepted)

abbrev pub AsksBody : Result RawBody BodyFault → Demand → Type 0
AsksBody (Ok body) asked = AsksBatch (body_refusal body) body asked
AsksBody (Err f) asked = IsFault (body_fault f) asked

abbrev pub AsksWrite : Request → Demand → Type 0
AsksWrite request asked = MatchBool request.encoded (asked ≡ Refused fault.Encoded) (AsksBody (body_of request.body) asked)

-- a time of the window, or its fault
abbrev pub IsTime : Parameter → Result ℤ MomentFault → Result ℤ Fault → Type 0
IsTime name (Ok time) r = r ≡ Ok time
IsTime name (Err moment.BadTime) r = r ≡ Err (fault.BadTime name)
IsTime name (Err moment.NoMemory) r = ⊥

-- the window is open on a side that has no time
abbrev pub AsksTime : Parameter → ℤ → Option (List ℕ) → Result ℤ Fault → Type 0
AsksTime name bound None r = r ≡ Ok bound
AsksTime name bound (Some text) r = IsTime name (moment_of text) r

-- 1 to 19 digits with a value below 2^63
abbrev pub is_after : List ℕ → Bool
is_after text = is_size text && nat_lt (digits_value 10 text) (2 ^ 63)

abbrev pub after_of : Option (List ℕ) → Result ℕ Fault
after_of None = Ok 0
after_of (Some text) = if is_after text then Ok (digits_value 10 text) else Err fault.BadAfter

-- the first fault of these, or the query
abbrev pub query_asked : Question → Result ℤ Fault → Result ℤ Fault → Result ℕ Fault → Demand
query_asked question (Err f) end after = Refused f
query_asked question (Ok start) (Err f) after = Refused f
query_asked question (Ok start) (Ok end) (Err f) = Refused f
query_asked question (Ok start) (Ok end) (Ok after) = Read (query_of question (record { start = start; end = end })) after

-- the least and the greatest of 64 bits
abbrev pub FIRST_TIME : ℤ
FIRST_TIME = negsuc (2 ^ 63 - 1)

abbrev pub LAST_TIME : ℤ
LAST_TIME = pos (2 ^ 63 - 1)

-- the window and the number that a query asks for
abbrev pub AsksWithin : List Pair → Question → Demand → Type 0
AsksWithin ps question asked =
    (start : Result ℤ Fault) × (end : Result ℤ Fault)
    × AsksTime Start FIRST_TIME (last_value (codes "start") ps) start
    × AsksTime End LAST_TIME (last_value (codes "end") ps) end
    × (asked ≡ query_asked question start end (after_of (last_value (codes "after") ps)))

-- what the text of a selector is
abbrev pub ReadsSelector : List ℕ → Result Selector SelectFault → Type 0
ReadsSelector text (Ok selector) = IsSelectorText text selector
ReadsSelector text (Err f) = HasSelectFault text f

-- a fault of a selector
abbrev pub IsSelectFault : SelectFault → Demand → Type 0
IsSelectFault select.BadType asked = asked ≡ Refused fault.BadType
IsSelectFault (select.BadMatcher at) asked = asked ≡ Refused (fault.BadMatcher at)
IsSelectFault select.NoMemory asked = ⊥

abbrev pub AsksListed : List Pair → Listing → Result Selector SelectFault → Demand → Type 0
AsksListed ps listing (Ok selector) asked = AsksWithin ps (question.List listing (Some selector)) asked
AsksListed ps listing (Err f) asked = IsSelectFault f asked

-- a list of all series, or of those of a selector
abbrev pub AsksList : List Pair → Listing → Option (List ℕ) → Demand → Type 0
AsksList ps listing None asked = AsksWithin ps (question.List listing None) asked
AsksList ps listing (Some text) asked = (selector : Result Selector SelectFault) × ReadsSelector text selector × AsksListed ps listing selector asked

abbrev pub AsksSummed : List Pair → Summing → Result Selector SelectFault → Demand → Type 0
AsksSummed ps summing (Ok selector) asked = AsksWithin ps (question.Sum summing selector) asked
AsksSummed ps summing (Err f) asked = IsSelectFault f asked

-- sums need a selector
abbrev pub AsksSum : List Pair → Summing → Option (List ℕ) → Demand → Type 0
AsksSum ps summing None asked = asked ≡ Refused fault.NoQuery
AsksSum ps summing (Some text) asked = (selector : Result Selector SelectFault) × ReadsSelector text selector × AsksSummed ps summing selector asked

abbrev pub AsksOf : Route → Request → Demand → Type 0
AsksOf route.Write request asked = AsksWrite request asked
AsksOf route.Types request asked = AsksWithin (parameters request.target) question.Types asked
AsksOf (route.List listing) request asked = AsksList (parameters request.target) listing (last_value (codes "query") (parameters request.target)) asked
AsksOf (route.Sum summing) request asked = AsksSum (parameters request.target) summing (last_value (codes "query") (parameters request.target)) asked
AsksOf route.Status request asked = asked ≡ Stand

abbrev pub AsksRoute : Option Route → Request → Demand → Type 0
AsksRoute None request asked = asked ≡ Refused fault.NoRoute
AsksRoute (Some r) request asked =
    MatchBool (bytes_eq request.method (method_name (method_of r))) (AsksOf r request asked) (asked ≡ NotAllowed (method_of r))

abbrev pub Asks : Request → Demand → Type 0
Asks request asked = AsksRoute (route_of (path_of request.target)) request asked

-- Something is known of what is asked: it, or that the body of a write decides.
abbrev pub Knows : (Demand → Type 0) → Request → Option Demand → Type 0
Knows IsAsked request (Some asked) = IsAsked asked
Knows IsAsked request None = (asked : Demand) → AsksBody (body_of request.body) asked → IsAsked asked
