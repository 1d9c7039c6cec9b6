-- The replies to what is asked.
use Rattle.std.specs.Prelude.{◌≡◌, ℕ, Bool, false, List, ◌⊎◌}
use Rattle.serde_json.specs.Written.{compact_text}
use Rattle.fd_kinds.specs.declared.query.Answer.{Answer}
use Rattle.fd_kinds.specs.declared.stand.Stand.{Stand}
use Rattle.fd_http.specs.declared.replies.Method.{Method}
use Rattle.fd_http.specs.declared.replies.Response.{Response}
use Rattle.fd_http.specs.declared.replies.Response.TheVariants as response
use Rattle.fd_http.specs.Replies.{reply_bytes}
use Rattle.fd_json.specs.declared.refusal.Fault.{Fault}
use Rattle.fd_json.specs.declared.refusal.Fault.TheVariants.{BadMethod}
use Rattle.fd_json.specs.Answers.{answer_json, drawn_json, stand_json}
use Rattle.fd_json.specs.Faults.{fault_json, status_of}

-- the body of the reply to a fault
abbrev pub fault_body : Fault → List ℕ
fault_body f = compact_text (fault_json f)

-- the reply to a fault other than a wrong method
abbrev pub refusal : Fault → Response
refusal f = response.Made (status_of f) (fault_body f) false

-- the reply to a wrong method, which names the right one
abbrev pub not_allowed : Method → Response
not_allowed allow = response.BadMethod allow (fault_body BadMethod) false

-- the reply of status 200 with a body
abbrev pub done : List ℕ → Response
done body = response.Made 200 body false

abbrev pub number_reply : ℕ → Response
number_reply n = done (compact_text (drawn_json n))

abbrev pub answer_reply : Answer → ℕ → Response
answer_reply answer w = done (compact_text (answer_json answer w))

abbrev pub stand_reply : Stand → Response
stand_reply stand = done (compact_text (stand_json stand))

-- the reply to want of memory
abbrev pub short : Response
short = response.Short false

-- where memory is wanting, the reply to that stands in the place of any other
abbrev pub IsReply : Response → Response → Type 0
IsReply full reply = (reply ≡ full) ⊎ (reply ≡ short)

-- the reply, with which the session ends or not
abbrev pub closing : Bool → Response → Response
closing close (response.Made status body _) = response.Made status body close
closing close (response.BadMethod allow body _) = response.BadMethod allow body close
closing close (response.Short _) = response.Short close

-- the bytes sent for a reply
abbrev pub IsSent : Bool → Response → List ℕ → Type 0
IsSent close reply bytes = (bytes ≡ reply_bytes (closing close reply)) ⊎ (bytes ≡ reply_bytes (response.Short close))
