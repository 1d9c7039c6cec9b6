-- What reading the next request answers and leaves.
use Rattle.std.specs.Prelude.{ℕ, ◌≡◌, ◌⊎◌, List, [], Option, Result, Ok, Err, ⊤}
use Rattle.fd_device.specs.Causes.{Rose}
use Rattle.fd_http.specs.declared.request.Request.{Request}
use Rattle.fd_http.specs.declared.request.Arrived.{Arrived}
use Rattle.fd_http.specs.declared.request.Arrived.TheVariants.{One, End}
use Rattle.fd_http.specs.declared.request.RequestFault.{RequestFault}
use Rattle.fd_http.specs.declared.request.RequestFault.TheVariants.{BadHead, NoLength, TooLarge, Cut, ReadFault, NoMemory}
use Rattle.fd_http.specs.Inputs.{nothing, one, refused, Holds, HasRequestFault}
use Rattle.fd_http.specs.Remainders.{IfTold}

-- Each answer says what the rest held. Only a read fault and want of memory say nothing of it.
abbrev pub Arrives : Option (List ℕ) → Option (List ℕ) → List ℕ → List ℕ → Result Arrived RequestFault → Type 0
Arrives old new a b (Ok (One request)) = IfTold old new a b (λ rest after. Holds rest (one request after))
Arrives old new a b (Ok End) = IfTold old new a b (λ rest after. Holds rest nothing × (after ≡ []))
Arrives old new a b (Err BadHead) = IfTold old new a b (λ rest after. Holds rest (refused BadHead))
Arrives old new a b (Err NoLength) = IfTold old new a b (λ rest after. Holds rest (refused NoLength))
Arrives old new a b (Err TooLarge) = IfTold old new a b (λ rest after. Holds rest (refused TooLarge))
Arrives old new a b (Err Cut) = IfTold old new a b (λ rest after. Holds rest (refused Cut))
Arrives old new a b (Err ReadFault) = ⊤
Arrives old new a b (Err NoMemory) = ⊤

-- a read fault raised the source's count, and nothing else did
abbrev pub ReadCause : {A : Type 0} → ℕ → ℕ → Result A RequestFault → Type 0
ReadCause before now (Ok a) = now ≡ before
ReadCause before now (Err BadHead) = now ≡ before
ReadCause before now (Err NoLength) = now ≡ before
ReadCause before now (Err TooLarge) = now ≡ before
ReadCause before now (Err Cut) = now ≡ before
ReadCause before now (Err ReadFault) = Rose before now
ReadCause before now (Err NoMemory) = now ≡ before

-- at a read fault
abbrev pub AtReadFault : RequestFault → Type 0 → Type 0
AtReadFault BadHead P = ⊤
AtReadFault NoLength P = ⊤
AtReadFault TooLarge P = ⊤
AtReadFault Cut P = ⊤
AtReadFault ReadFault P = P
AtReadFault NoMemory P = ⊤

-- a request arrived
abbrev pub IfOne : Result Arrived RequestFault → (Request → Type 0) → Type 0
IfOne (Ok (One request)) P = P request
IfOne (Ok End) P = ⊤
IfOne (Err fault) P = ⊤

-- as an input of their own the bytes hold nothing, or end inside a request
abbrev pub IsUnfinished : List ℕ → Type 0
IsUnfinished bytes = Holds bytes nothing ⊎ HasRequestFault bytes Cut
