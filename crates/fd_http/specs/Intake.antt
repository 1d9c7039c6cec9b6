-- The steps of reading a request: its front, then its body.
use Rattle.std.specs.Prelude.{ℕ, ◌≡◌, ◌<◌, ◌≤◌, List, [], ◌++◌, length, take, drop, Option, None, Some, Result, Ok, Err, ⊤}
use Rattle.fd_http.specs.declared.limits.TheConstants.{LONGEST_FRONT}
use Rattle.fd_http.specs.declared.request.RequestFault.{RequestFault}
use Rattle.fd_http.specs.declared.request.RequestFault.TheVariants.{BadHead, NoLength, TooLarge, Cut, ReadFault, NoMemory}
use Rattle.fd_http.specs.Front.{IsFront}
use Rattle.fd_http.specs.Inputs.{CutInFront, LongFront}
use Rattle.fd_http.specs.Remainders.{IfTold}

-- the front that stands in the inbox, and what was read
abbrev pub Fills : Option (List ℕ) → Option (List ℕ) → List ℕ → List ℕ → Result (Option ℕ) RequestFault → Type 0
Fills old new a b (Ok (Some n)) = IfTold old new a b (λ rest after. rest ≡ after)
Fills old new a b (Ok None) = IfTold old new a b (λ rest after. (rest ≡ []) × (after ≡ []))
Fills old new a b (Err Cut) = IfTold old new a b (λ rest after. CutInFront rest)
Fills old new a b (Err BadHead) = IfTold old new a b (λ rest after. LongFront rest)
Fills old new a b (Err NoLength) = ⊥
Fills old new a b (Err TooLarge) = ⊥
Fills old new a b (Err ReadFault) = ⊤
Fills old new a b (Err NoMemory) = ⊤

-- a front of n bytes stands in the inbox
pub record FrontAt (b : List ℕ) (n : ℕ) : Type 0 where
  pub within : n ≤ length b
  pub short : n ≤ LONGEST_FRONT
  pub front : IsFront b (take n b) (drop n b)

-- the body that was read, of so many bytes
abbrev pub ReadsBody : Option (List ℕ) → Option (List ℕ) → List ℕ → List ℕ → ℕ → Result (List ℕ) RequestFault → Type 0
ReadsBody old new a b size (Ok body) = (length body ≡ size) × IfTold old new a b (λ rest after. rest ≡ body ++ after)
ReadsBody old new a b size (Err Cut) = IfTold old new a b (λ rest after. length rest < size)
ReadsBody old new a b size (Err BadHead) = ⊥
ReadsBody old new a b size (Err NoLength) = ⊥
ReadsBody old new a b size (Err TooLarge) = ⊥
ReadsBody old new a b size (Err ReadFault) = ⊤
ReadsBody old new a b size (Err NoMemory) = ⊤
