-- What a request asks is one thing.
use Rattle.std.specs.Prelude.{ℕ, ℤ, Bool, true, false, List, Option, Some, None, Result, Ok, Err, MatchBool, codes, bytes_eq, IsPermutation}
use Rattle.std.proofs.Common.{◌≡◌, sym, ap, subst, ◌∙◌}
use Rattle.std.proofs.Props.{props}
use mathlib.Core.HLevel.{Σ_prop_path}
use Rattle.fd_kinds.specs.declared.batch.Batch.{Batch}
use Rattle.fd_kinds.specs.declared.row.Row.{Row}
use Rattle.fd_kinds.specs.declared.pair.Pair.{Pair}
use Rattle.fd_kinds.specs.declared.query.Selector.{Selector}
use Rattle.fd_kinds.specs.declared.body.RawBody.{RawBody}
use Rattle.fd_kinds.specs.History.{IsSmall}
use Rattle.fd_http.specs.declared.request.Request.{Request}
use Rattle.fd_json.specs.declared.fault.BodyFault.{BodyFault}
use Rattle.fd_json.specs.declared.refusal.Fault.{Fault}
use Rattle.fd_json.specs.declared.refusal.Fault.TheVariants as fault
use Rattle.fd_json.specs.declared.refusal.Parameter.{Parameter}
use Rattle.fd_json.specs.declared.refusal.Parameter.TheVariants.{Start, End}
use Rattle.fd_json.specs.Body.{body_of}
use Rattle.fd_select.specs.declared.faults.SelectFault.{SelectFault}
use Rattle.fd_select.specs.declared.faults.SelectFault.TheVariants as select
use Rattle.fd_select.specs.declared.times.MomentFault.{MomentFault}
use Rattle.fd_select.specs.declared.times.MomentFault.TheVariants as moment
use Rattle.fd_select.specs.SelectorTexts.{IsSelectorText, HasSelectFault}
use Rattle.fd_select.specs.Moments.{moment_of}
use Rattle.fd_rows.specs.declared.faults.BatchFault.{BatchFault}
use Rattle.fd_rows.specs.Body.{body_refusal, body_rows}
use Rattle.fd_api.specs.declared.small_batch.SmallBatch.{SmallBatch}
use Rattle.fd_api.specs.declared.demand.Demand.{Demand}
use Rattle.fd_api.specs.declared.demand.Demand.TheVariants.{Write, NotAllowed, Refused}
use Rattle.fd_api.specs.declared.question.Question.{Question}
use Rattle.fd_api.specs.declared.question.Question.TheVariants as question
use Rattle.fd_api.specs.declared.route.Listing.{Listing}
use Rattle.fd_api.specs.declared.route.Summing.{Summing}
use Rattle.fd_api.specs.declared.route.Route.{Route}
use Rattle.fd_api.specs.declared.route.Route.TheVariants as route
use Rattle.fd_api.specs.Faults.{body_fault, batch_fault}
use Rattle.fd_api.specs.Routes.{route_of, method_of, method_name}
use Rattle.fd_api.specs.Targets.{path_of, parameters, last_value}
use Rattle.fd_api.specs.Demands.{IsFault, AsksBatch, AsksBody, AsksWrite, IsTime, AsksTime, after_of, query_asked, FIRST_TIME, LAST_TIME, AsksWithin, ReadsSelector, IsSelectFault, AsksListed, AsksList, AsksSummed, AsksSum, AsksOf, AsksRoute, Asks}

same_small : (p q : SmallBatch) → p.batch ≡ q.batch → p ≡ q
same_small p q same =
    let both : ◌≡◌ {A = (b : Batch) × IsSmall b.rows} (p.batch, p.small) (q.batch, q.small) = Σ_prop_path (λ b. hlevel props) same in
    λ i. record { batch = (both i).0; small = (both i).1 }

-- by either case of a test
by_test : (test : Bool) (P Q : Demand → Type 0) → ((a b : Demand) → P a → P b → a ≡ b) → ((a b : Demand) → Q a → Q b → a ≡ b)
    → (a b : Demand) → MatchBool test (P a) (Q a) → MatchBool test (P b) (Q b) → a ≡ b
by_test true P Q one other a b x y = one a b x y
by_test false P Q one other a b x y = other a b x y

one_fault : (f : Option Fault) (a b : Demand) → IsFault f a → IsFault f b → a ≡ b
one_fault (Some f) a b x y = x ∙ sym y
one_fault None a b x y = absurd x

one_select_fault : (f : SelectFault) (a b : Demand) → IsSelectFault f a → IsSelectFault f b → a ≡ b
one_select_fault select.BadType a b x y = x ∙ sym y
one_select_fault (select.BadMatcher at) a b x y = x ∙ sym y
one_select_fault select.NoMemory a b x y = absurd x

one_time : (name : Parameter) (m : Result ℤ MomentFault) (r s : Result ℤ Fault) → IsTime name m r → IsTime name m s → r ≡ s
one_time name (Ok time) r s x y = x ∙ sym y
one_time name (Err moment.BadTime) r s x y = x ∙ sym y
one_time name (Err moment.NoMemory) r s x y = absurd x

one_bound : (name : Parameter) (bound : ℤ) (text : Option (List ℕ)) (r s : Result ℤ Fault) → AsksTime name bound text r → AsksTime name bound text s → r ≡ s
one_bound name bound None r s x y = x ∙ sym y
one_bound name bound (Some text) r s x y = one_time name (moment_of text) r s x y

one_within : (ps : List Pair) (q : Question) (a b : Demand) → AsksWithin ps q a → AsksWithin ps q b → a ≡ b
one_within ps q a b (start, end, starts, ends, is) (other_start, other_end, other_starts, other_ends, other_is) =
    let after : Result ℕ Fault = after_of (last_value (codes "after") ps) in
    is
    ∙ ap (λ r. query_asked q r end after) (one_bound Start FIRST_TIME (last_value (codes "start") ps) start other_start starts other_starts)
    ∙ ap (λ r. query_asked q other_start r after) (one_bound End LAST_TIME (last_value (codes "end") ps) end other_end ends other_ends)
    ∙ sym other_is

module _ (batch : (rows : List Row) (a b : Batch) → IsPermutation rows a.rows → IsPermutation rows b.rows → a ≡ b)
    (selector : (text : List ℕ) (a b : Selector) → IsSelectorText text a → IsSelectorText text b → a ≡ b)
    (refusal : (text : List ℕ) (a b : SelectFault) → HasSelectFault text a → HasSelectFault text b → a ≡ b)
    (apart : (text : List ℕ) (s : Selector) (f : SelectFault) → IsSelectorText text s → HasSelectFault text f → ⊥) where
  one_batch : (refused : Option BatchFault) (body : RawBody) (a b : Demand) → AsksBatch refused body a → AsksBatch refused body b → a ≡ b
  one_batch (Some f) body a b x y = one_fault (batch_fault f) a b x y
  one_batch None body a b (p, p_rows, is) (q, q_rows, other_is) = is ∙ ap Write (same_small p q (batch (body_rows body) p.batch q.batch p_rows q_rows)) ∙ sym other_is

  one_body : (body : Result RawBody BodyFault) (a b : Demand) → AsksBody body a → AsksBody body b → a ≡ b
  one_body (Ok body) a b x y = one_batch (body_refusal body) body a b x y
  one_body (Err f) a b x y = one_fault (body_fault f) a b x y

  one_write : (request : Request) (a b : Demand) → AsksWrite request a → AsksWrite request b → a ≡ b
  one_write request = by_test request.encoded (λ a. a ≡ Refused fault.Encoded) (AsksBody (body_of request.body)) (λ a b x y. x ∙ sym y) (one_body (body_of request.body))

  one_reading : (text : List ℕ) (r s : Result Selector SelectFault) → ReadsSelector text r → ReadsSelector text s → r ≡ s
  one_reading text (Ok r) (Ok s) x y = ap Ok (selector text r s x y)
  one_reading text (Ok r) (Err g) x y = absurd (apart text r g x y)
  one_reading text (Err f) (Ok s) x y = absurd (apart text s f y x)
  one_reading text (Err f) (Err g) x y = ap Err (refusal text f g x y)

  one_listed : (ps : List Pair) (listing : Listing) (r s : Result Selector SelectFault) (a b : Demand) → r ≡ s → AsksListed ps listing r a → AsksListed ps listing s b → a ≡ b
  one_listed ps listing r s a b same x y = by s (subst (λ o. AsksListed ps listing o a) same x) y
    where
      by : (o : Result Selector SelectFault) → AsksListed ps listing o a → AsksListed ps listing o b → a ≡ b
      by (Ok selector) x y = one_within ps (question.List listing (Some selector)) a b x y
      by (Err f) x y = one_select_fault f a b x y

  one_list : (ps : List Pair) (listing : Listing) (text : Option (List ℕ)) (a b : Demand) → AsksList ps listing text a → AsksList ps listing text b → a ≡ b
  one_list ps listing None a b x y = one_within ps (question.List listing None) a b x y
  one_list ps listing (Some text) a b (r, reads, x) (s, other_reads, y) = one_listed ps listing r s a b (one_reading text r s reads other_reads) x y

  one_summed : (ps : List Pair) (summing : Summing) (r s : Result Selector SelectFault) (a b : Demand) → r ≡ s → AsksSummed ps summing r a → AsksSummed ps summing s b → a ≡ b
  one_summed ps summing r s a b same x y = by s (subst (λ o. AsksSummed ps summing o a) same x) y
    where
      by : (o : Result Selector SelectFault) → AsksSummed ps summing o a → AsksSummed ps summing o b → a ≡ b
      by (Ok selector) x y = one_within ps (question.Sum summing selector) a b x y
      by (Err f) x y = one_select_fault f a b x y

  one_sum : (ps : List Pair) (summing : Summing) (text : Option (List ℕ)) (a b : Demand) → AsksSum ps summing text a → AsksSum ps summing text b → a ≡ b
  one_sum ps summing None a b x y = x ∙ sym y
  one_sum ps summing (Some text) a b (r, reads, x) (s, other_reads, y) = one_summed ps summing r s a b (one_reading text r s reads other_reads) x y

  one_of : (r : Route) (request : Request) (a b : Demand) → AsksOf r request a → AsksOf r request b → a ≡ b
  one_of route.Write request a b x y = one_write request a b x y
  one_of route.Types request a b x y = one_within (parameters request.target) question.Types a b x y
  one_of (route.List listing) request a b x y = one_list (parameters request.target) listing (last_value (codes "query") (parameters request.target)) a b x y
  one_of (route.Sum summing) request a b x y = one_sum (parameters request.target) summing (last_value (codes "query") (parameters request.target)) a b x y
  one_of route.Status request a b x y = x ∙ sym y

  one_route : (r : Option Route) (request : Request) (a b : Demand) → AsksRoute r request a → AsksRoute r request b → a ≡ b
  one_route None request a b x y = x ∙ sym y
  one_route (Some r) request a b x y =
      by_test (bytes_eq request.method (method_name (method_of r))) (AsksOf r request) (λ d. d ≡ NotAllowed (method_of r)) (one_of r request) (λ d e p q. p ∙ sym q) a b x y

  pub one_demand : (request : Request) (a b : Demand) → Asks request a → Asks request b → a ≡ b
  one_demand request a b x y = one_route (route_of (path_of request.target)) request a b x y
