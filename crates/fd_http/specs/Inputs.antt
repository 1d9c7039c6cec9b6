-- What a rest of the input holds: nothing, a whole request and another rest, or what is refused;
-- and the split of an input into its requests and its end.
use Rattle.std.specs.Prelude.{ℕ, ◌≡◌, ◌<◌, ◌≤◌, ◌⊎◌, List, [], ◌∷◌, length, take, drop, Ok, Err, ◌-◌, IsTrue, IsFalse}
use Rattle.httparse.specs.Grammar.{RequestHead}
use Rattle.fd_http.specs.declared.limits.TheConstants.{LONGEST_FRONT, MOST_REQUESTS}
use Rattle.fd_http.specs.declared.head.Head.{Head}
use Rattle.fd_http.specs.declared.request.Request.{Request}
use Rattle.fd_http.specs.declared.request.RequestFault.{RequestFault}
use Rattle.fd_http.specs.declared.request.RequestFault.TheVariants.{BadHead, NoLength, TooLarge, Cut, ReadFault, NoMemory}
use Rattle.fd_http.specs.Front.{IsFront, HasNoFront}
use Rattle.fd_http.specs.Heads.{IsHead, IsNoHead, head_of, body_len}

-- a front of at most so many bytes, and what follows it
pub record Fronted (rest front more : List ℕ) : Type 0 where
  pub is_front : IsFront rest front more
  pub short : length front ≤ LONGEST_FRONT

-- such a front that is a head, and what follows it
pub record Headed (rest : List ℕ) (h : RequestHead) (more : List ℕ) : Type 0 where
  pub front : List ℕ
  pub fronted : Fronted rest front more
  pub head : IsHead front h

-- the request of a head and a body
abbrev pub request_of : Head → List ℕ → Request
request_of head body = record { method = head.method; target = head.target; body = body; encoded = head.encoded; close = head.close }

-- the rest begins with a whole request, and another rest follows it
pub record Begins (rest : List ℕ) (request : Request) (after : List ℕ) : Type 0 where
  pub h : RequestHead
  pub more : List ℕ
  pub headed : Headed rest h more
  pub size : ℕ
  pub sized : body_len (head_of h) ≡ Ok size
  pub whole : size ≤ length more
  pub request_is : request ≡ request_of (head_of h) (take size more)
  pub after_is : after ≡ drop size more

-- it begins, and ends before the end of its front
pub record CutInFront (rest : List ℕ) : Type 0 where
  pub some : 0 < length rest
  pub few : length rest < LONGEST_FRONT
  pub none : HasNoFront rest

-- it ends before the end of its body
pub record CutInBody (rest : List ℕ) : Type 0 where
  pub h : RequestHead
  pub more : List ℕ
  pub headed : Headed rest h more
  pub size : ℕ
  pub sized : body_len (head_of h) ≡ Ok size
  pub short : length more < size

-- it is long, and has no front of at most so many bytes
pub record LongFront (rest : List ℕ) : Type 0 where
  pub many : LONGEST_FRONT ≤ length rest
  pub none : HasNoFront (take LONGEST_FRONT rest)

-- a front that is no head
pub record NoHead (rest : List ℕ) : Type 0 where
  pub front : List ℕ
  pub more : List ℕ
  pub fronted : Fronted rest front more
  pub none : IsNoHead front

-- what the head says is refused
pub record HeadRefused (rest : List ℕ) (fault : RequestFault) : Type 0 where
  pub h : RequestHead
  pub more : List ℕ
  pub headed : Headed rest h more
  pub refused : body_len (head_of h) ≡ Err fault

-- exactly where each refusal stands
abbrev pub HasRequestFault : List ℕ → RequestFault → Type 0
HasRequestFault rest Cut = CutInFront rest ⊎ CutInBody rest
HasRequestFault rest BadHead = LongFront rest ⊎ (NoHead rest ⊎ HeadRefused rest BadHead)
HasRequestFault rest NoLength = HeadRefused rest NoLength
HasRequestFault rest TooLarge = HeadRefused rest TooLarge
HasRequestFault rest ReadFault = ⊥
HasRequestFault rest NoMemory = ⊥

-- what a rest holds
pub data Next : Type 0 where
  nothing : Next
  one : Request → List ℕ → Next
  refused : RequestFault → Next

abbrev pub Holds : List ℕ → Next → Type 0
Holds rest nothing = rest ≡ []
Holds rest (one request after) = Begins rest request after
Holds rest (refused fault) = HasRequestFault rest fault

-- How the requests of an input end: with its last byte, with a request that asks to close, with
-- the last request that is taken, or with what is refused.
pub data End : Type 0 where
  ended closed limit : End
  refused_as : RequestFault → End

-- The whole requests with which the bytes begin, up to the first that asks to close or the last of
-- so many, and the end.
abbrev pub SplitsWithin : List Request → ℕ → List ℕ → End → Type 0
SplitsWithin [] room bytes ended = (0 < room) × Holds bytes nothing
SplitsWithin [] room bytes closed = ⊥
SplitsWithin [] room bytes limit = room ≡ 0
SplitsWithin [] room bytes (refused_as fault) = (0 < room) × HasRequestFault bytes fault
SplitsWithin (request ∷ requests) room bytes end =
    (0 < room) × (after : List ℕ) × Begins bytes request after
    × ((IsTrue request.close × (requests ≡ []) × (end ≡ closed)) ⊎ (IsFalse request.close × SplitsWithin requests (room - 1) after end))

-- the same with as many requests as a session takes
abbrev pub Splits : List ℕ → List Request → End → Type 0
Splits bytes requests end = SplitsWithin requests MOST_REQUESTS bytes end
