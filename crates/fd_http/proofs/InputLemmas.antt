-- From what stands in the inbox to what the rest holds.
use Rattle.std.proofs.Common.{ℕ, ◌≡◌, ◌≤◌, ◌<◌, List, [], ◌++◌, length, take, drop, arith, ap, sym, subst, ◌∙◌, Option, None, Some, Result, Ok, Err, Bool, true, false, ◌⊎◌, inl, inr, length-append, length-take, append_assoc, if◌then◌else◌, ◌||◌, bytes_eq, codes, nat_lt, IfSome}
use Rattle.std.specs.Io.KnownBytes.{Consumes, IsAtEnd}
use Rattle.std.proofs.lemmas.List.{take-append-drop, take_at, drop_at, take-append-le, take_all, append-nil}
use Rattle.httparse.specs.Grammar.{RequestHead}
use Rattle.fd_http.specs.declared.limits.TheConstants.{LONGEST_FRONT, LONGEST_BODY}
use Rattle.fd_http.specs.declared.headers.Length.{Length}
use Rattle.fd_http.specs.declared.headers.Length.TheVariants.{Absent, Wrong, Of}
use Rattle.fd_http.specs.declared.head.Head.{Head}
use Rattle.fd_http.specs.declared.request.Arrived.TheVariants.{One}
use Rattle.fd_http.specs.declared.request.RequestFault.{RequestFault}
use Rattle.fd_http.specs.declared.request.RequestFault.TheVariants.{BadHead, NoLength, TooLarge, Cut, ReadFault, NoMemory}
use Rattle.fd_http.specs.Front.{HasNoFront}
use Rattle.fd_http.specs.Heads.{IsHead, IsNoHead, head_of, body_len, sized, ReadsHead}
use Rattle.fd_http.specs.Inputs.{Fronted, Headed, Begins, CutInFront, LongFront, HeadRefused, HasRequestFault, request_of}
use Rattle.fd_http.specs.Remainders.{IfTold}
use Rattle.fd_http.proofs.RemainderLemmas.{told_then}
use Rattle.fd_http.specs.Arrivals.{Arrives}
use Rattle.fd_http.specs.Intake.{FrontAt, ReadsBody, Fills}

-- the same rest, and then a step from a part of it
pub told_step : (old mid new : Option (List ℕ)) (a b b1 b2 : List ℕ) (P Q : List ℕ → List ℕ → Type 0)
    → IfTold old mid a b (λ rest after. rest ≡ after) → IfTold mid new b1 b2 P
    → ((x y : List ℕ) → P (b1 ++ x) (b2 ++ y) → Q (b ++ x) (b2 ++ y)) → IfTold old new a b2 Q
told_step None mid new a b b1 b2 P Q same told f = tt
told_step (Some x) None new a b b1 b2 P Q same told f = absurd same
told_step (Some x) (Some y) None a b b1 b2 P Q same told f = told
told_step (Some x) (Some y) (Some z) a b b1 b2 P Q same told f =
    let R : List ℕ → Type 0 = λ rest. Q rest (b2 ++ z) in subst R (sym same) (f y z told)

pub long_front : (b y : List ℕ) → LONGEST_FRONT ≤ length b → HasNoFront (take LONGEST_FRONT b) → LongFront (b ++ y)
long_front b y many none = record {
  many = omega (arith, length-append b y);
  none = subst HasNoFront (sym (take-append-le LONGEST_FRONT b y many)) none;
}

-- the input ends inside a front
pub cut_front : (old mid new : Option (List ℕ)) (a inbox bs : List ℕ) → IfTold old mid a inbox (λ rest after. rest ≡ after) → Consumes mid new bs → IsAtEnd new
    → bs ≡ [] → 0 < length inbox → length inbox < LONGEST_FRONT → HasNoFront (take LONGEST_FRONT inbox) → IfTold old new a inbox (λ rest after. CutInFront rest)
cut_front None mid new a inbox bs same took end none some few unfronted = tt
cut_front (Some x) None new a inbox bs same took end none some few unfronted = absurd same
cut_front (Some x) (Some y) None a inbox bs same took end none some few unfronted = took
cut_front (Some x) (Some y) (Some z) a inbox bs same took end none some few unfronted =
    let all : a ++ x ≡ inbox = same ∙ ap (λ (xs : List ℕ). inbox ++ xs) (took ∙ ap (λ (xs : List ℕ). xs ++ z) none ∙ end) ∙ append-nil inbox in
    subst CutInFront (sym all) (record { some = some; few = few; none = subst HasNoFront (take_all LONGEST_FRONT inbox (omega (arith, few))) unfronted })

-- what was read joins the inbox
pub read_more : (old mid new : Option (List ℕ)) (a inbox bs : List ℕ) → IfTold old mid a inbox (λ rest after. rest ≡ after) → Consumes mid new bs
    → IfTold old new a (inbox ++ bs) (λ rest after. rest ≡ after)
read_more None mid new a inbox bs same took = tt
read_more (Some x) None new a inbox bs same took = absurd same
read_more (Some x) (Some y) None a inbox bs same took = took
read_more (Some x) (Some y) (Some z) a inbox bs same took = same ∙ ap (λ (xs : List ℕ). inbox ++ xs) took ∙ sym (append_assoc inbox bs z)

pub fronted_in : (b y : List ℕ) (n : ℕ) → FrontAt b n → Fronted (b ++ y) (take n b) (drop n b ++ y)
fronted_in b y n at = record {
  is_front = record {
    parts = ap (λ (xs : List ℕ). xs ++ y) (sym (take-append-drop n b)) ∙ append_assoc (take n b) (drop n b) y;
    ends = at.front.ends;
    shortest = at.front.shortest;
  };
  short = omega (arith, at.short, length-take n b);
}

pub headed_in : (b y : List ℕ) (n : ℕ) (h : RequestHead) → FrontAt b n → IsHead (take n b) h → Headed (b ++ y) h (drop n b ++ y)
headed_in b y n h at head = record { front = take n b; fronted = fronted_in b y n at; head = head }

pub no_head_in : (b y : List ℕ) (n : ℕ) → FrontAt b n → IsNoHead (take n b) → HasRequestFault (b ++ y) BadHead
no_head_in b y n at none = inr (inl (record { front = take n b; more = drop n b ++ y; fronted = fronted_in b y n at; none = none }))

-- the choices of `sized`
abbrev absent : Bool → Result ℕ RequestFault
absent b = if b then Err NoLength else Ok 0

abbrev known : Bool → Bool → ℕ → Result ℕ RequestFault
known b c n = if b then Err NoLength else (if c then Err TooLarge else Ok n)

absent_fault : (b : Bool) (e : RequestFault) → absent b ≡ Err e → e ≡ NoLength
absent_fault true e is = cc
absent_fault false e is = cc

known_fault : (b c : Bool) (n : ℕ) (e : RequestFault) → known b c n ≡ Err e → (e ≡ NoLength) ⊎ (e ≡ TooLarge)
known_fault true c n e is = let same : e ≡ NoLength = cc in inl same
known_fault false true n e is = let same : e ≡ TooLarge = cc in inr same
known_fault false false n e is = let never : ⊥ = cc in absurd never

-- a head is refused in three ways alone
pub sized_fault : (l : Length) (head : Head) (e : RequestFault) → sized l head ≡ Err e → (e ≡ BadHead) ⊎ ((e ≡ NoLength) ⊎ (e ≡ TooLarge))
sized_fault Wrong head e is = let same : e ≡ BadHead = cc in inl same
sized_fault Absent head e is = inr (inl (absent_fault (head.transfer_encoded || bytes_eq head.method (codes "POST")) e is))
sized_fault (Of n) head e is = inr (known_fault head.transfer_encoded (nat_lt LONGEST_BODY n) n e is)

pub refused_by_head : (l : Length) (head : Head) (e : RequestFault) (rest : List ℕ) → sized l head ≡ Err e → HeadRefused rest e → HasRequestFault rest e
refused_by_head l head BadHead rest is refused = inr (inr refused)
refused_by_head l head NoLength rest is refused = refused
refused_by_head l head TooLarge rest is refused = refused
refused_by_head l head Cut rest is refused = let ways = sized_fault l head Cut is in let never : ⊥ = grind arith in absurd never
refused_by_head l head ReadFault rest is refused = let ways = sized_fault l head ReadFault is in let never : ⊥ = grind arith in absurd never
refused_by_head l head NoMemory rest is refused = let ways = sized_fault l head NoMemory is in let never : ⊥ = grind arith in absurd never

pub arrives_refused : (old new : Option (List ℕ)) (a b : List ℕ) (e : RequestFault) → IfTold old new a b (λ rest after. HasRequestFault rest e) → Arrives old new a b (Err e)
arrives_refused old new a b BadHead told = told
arrives_refused old new a b NoLength told = told
arrives_refused old new a b TooLarge told = told
arrives_refused old new a b Cut told = told
arrives_refused old new a b ReadFault told = tt
arrives_refused old new a b NoMemory told = tt

pub begins_in : (b x b2 y body : List ℕ) (n : ℕ) (h : RequestHead) (size : ℕ) → FrontAt b n → IsHead (take n b) h
    → body_len (head_of h) ≡ Ok size → length body ≡ size → drop n b ++ x ≡ body ++ (b2 ++ y)
    → Begins (b ++ x) (request_of (head_of h) body) (b2 ++ y)
begins_in b x b2 y body n h size at head sized long parts = record {
  h = h;
  more = drop n b ++ x;
  headed = headed_in b x n h at head;
  size = size;
  sized = sized;
  whole = omega (arith, ap length parts, length-append body (b2 ++ y));
  request_is = ap (request_of (head_of h)) (sym (ap (take size) parts ∙ take_at body (b2 ++ y) size long));
  after_is = sym (ap (drop size) parts ∙ drop_at body (b2 ++ y) size long);
}

pub cut_in : (b x : List ℕ) (n : ℕ) (h : RequestHead) (size : ℕ) → FrontAt b n → IsHead (take n b) h
    → body_len (head_of h) ≡ Ok size → length (drop n b ++ x) < size → HasRequestFault (b ++ x) Cut
cut_in b x n h size at head sized short = inr (record { h = h; more = drop n b ++ x; headed = headed_in b x n h at head; size = size; sized = sized; short = short })

-- what is in the inbox begins the body
pub body_start : (o : Option (List ℕ)) (a inbox body : List ℕ) (k : ℕ) → body ≡ take k a → inbox ≡ drop k a → IfTold o o a inbox (λ rest after. rest ≡ body ++ after)
body_start None a inbox body k is rest = tt
body_start (Some x) a inbox body k is rest =
    ap (λ (xs : List ℕ). xs ++ x) (sym (take-append-drop k a)) ∙ append_assoc (take k a) (drop k a) x
    ∙ ap (λ (xs : List ℕ). xs ++ (drop k a ++ x)) (sym is) ∙ ap (λ (xs : List ℕ). body ++ (xs ++ x)) (sym rest)

pub body_more : (old mid new : Option (List ℕ)) (a inbox body bs : List ℕ) → inbox ≡ []
    → IfTold old mid a inbox (λ rest after. rest ≡ body ++ after) → Consumes mid new bs → IfTold old new a inbox (λ rest after. rest ≡ (body ++ bs) ++ after)
body_more None mid new a inbox body bs used told took = tt
body_more (Some x) None new a inbox body bs used told took = absurd told
body_more (Some x) (Some y) None a inbox body bs used told took = took
body_more (Some x) (Some y) (Some z) a inbox body bs used told took =
    told ∙ ap (λ (xs : List ℕ). body ++ (xs ++ y)) used ∙ ap (λ (xs : List ℕ). body ++ xs) took ∙ sym (append_assoc body bs z)
    ∙ ap (λ (xs : List ℕ). (body ++ bs) ++ (xs ++ z)) (sym used)

-- the next request, from the parts that were read
pub arrives_one : (old mid new : Option (List ℕ)) (a b b2 body : List ℕ) (n : ℕ) (head : Head) (size : ℕ)
    → IfTold old mid a b (λ rest after. rest ≡ after) → FrontAt b n → (h : RequestHead) × IsHead (take n b) h × (head ≡ head_of h)
    → body_len head ≡ Ok size → length body ≡ size → IfTold mid new (drop n b) b2 (λ rest after. rest ≡ body ++ after)
    → Arrives old new a b2 (Ok (One (request_of head body)))
arrives_one old mid new a b b2 body n head size same at is sized long told =
    let h = is.0 in
    let sized_h : body_len (head_of h) ≡ Ok size = ap body_len (sym is.2) ∙ sized in
    let P : List ℕ → List ℕ → Type 0 = λ rest after. rest ≡ body ++ after in
    let Q : List ℕ → List ℕ → Type 0 = λ rest after. Begins rest (request_of head body) after in
    let R : List ℕ → List ℕ → Head → Type 0 = λ rest after x. Begins rest (request_of x body) after in
    told_step old mid new a b (drop n b) b2 P Q same told
    (λ x y parts. subst (R (b ++ x) (b2 ++ y)) (sym is.2) (begins_in b x b2 y body n h size at is.1 sized_h long parts))

pub arrives_head_refused : (old mid : Option (List ℕ)) (a b : List ℕ) (n : ℕ) (head : Head) (e : RequestFault)
    → IfTold old mid a b (λ rest after. rest ≡ after) → FrontAt b n → (h : RequestHead) × IsHead (take n b) h × (head ≡ head_of h)
    → body_len head ≡ Err e → Arrives old mid a b (Err e)
arrives_head_refused old mid a b n head e same at is refused =
    let h = is.0 in
    let refused_h : body_len (head_of h) ≡ Err e = ap body_len (sym is.2) ∙ refused in
    let P : List ℕ → List ℕ → Type 0 = λ rest after. rest ≡ after in
    let Q : List ℕ → List ℕ → Type 0 = λ rest after. HasRequestFault rest e in
    let R : List ℕ → Type 0 = λ rest. HasRequestFault rest e in
    arrives_refused old mid a b e (told_then old mid a b P Q same
    (λ x y parts. subst R (sym parts) (refused_by_head head.length head e (b ++ y) refused
    (record { h = h; more = drop n b ++ y; headed = headed_in b y n h at is.1; refused = refused_h }))))

pub arrives_body_refused : (old mid new : Option (List ℕ)) (a b b2 : List ℕ) (n : ℕ) (head : Head) (size : ℕ) (e : RequestFault)
    → IfTold old mid a b (λ rest after. rest ≡ after) → FrontAt b n → (h : RequestHead) × IsHead (take n b) h × (head ≡ head_of h)
    → body_len head ≡ Ok size → ReadsBody mid new (drop n b) b2 size (Err e) → Arrives old new a b2 (Err e)
arrives_body_refused old mid new a b b2 n head size BadHead same at is sized reads = absurd reads
arrives_body_refused old mid new a b b2 n head size NoLength same at is sized reads = absurd reads
arrives_body_refused old mid new a b b2 n head size TooLarge same at is sized reads = absurd reads
arrives_body_refused old mid new a b b2 n head size ReadFault same at is sized reads = tt
arrives_body_refused old mid new a b b2 n head size NoMemory same at is sized reads = tt
arrives_body_refused old mid new a b b2 n head size Cut same at is sized reads =
    let h = is.0 in
    let sized_h : body_len (head_of h) ≡ Ok size = ap body_len (sym is.2) ∙ sized in
    let P : List ℕ → List ℕ → Type 0 = λ rest after. length rest < size in
    let Q : List ℕ → List ℕ → Type 0 = λ rest after. HasRequestFault rest Cut in
    told_step old mid new a b (drop n b) b2 P Q same reads
    (λ x y short. cut_in b x n h size at is.1 sized_h short)

pub arrives_no_head : (old mid : Option (List ℕ)) (a b : List ℕ) (n : ℕ)
    → IfTold old mid a b (λ rest after. rest ≡ after) → FrontAt b n → IsNoHead (take n b) → Arrives old mid a b (Err BadHead)
arrives_no_head old mid a b n same at none =
    let P : List ℕ → List ℕ → Type 0 = λ rest after. rest ≡ after in
    let Q : List ℕ → List ℕ → Type 0 = λ rest after. HasRequestFault rest BadHead in
    let R : List ℕ → Type 0 = λ rest. HasRequestFault rest BadHead in
    told_then old mid a b P Q same (λ x y parts. subst R (sym parts) (no_head_in b y n at none))

-- what a front that was found says
pub same_rest : (old mid : Option (List ℕ)) (a b : List ℕ) (found : Option ℕ) (n : ℕ) → found ≡ Some n → Fills old mid a b (Ok found) → IfTold old mid a b (λ rest after. rest ≡ after)
same_rest old mid a b found n is fills = let P : Option ℕ → Type 0 = λ x. Fills old mid a b (Ok x) in subst P is fills

pub front_there : (b : List ℕ) (found : Option ℕ) (n : ℕ) → found ≡ Some n → IfSome found (FrontAt b) → FrontAt b n
front_there b found n is front = let P : Option ℕ → Type 0 = λ x. IfSome x (FrontAt b) in subst P is front

pub head_there : (bytes front : List ℕ) (found : Option Head) (head : Head) → bytes ≡ front → found ≡ Some head → ReadsHead bytes found → ReadsHead front (Some head)
head_there bytes front found head same is reads =
    let P : List ℕ → Type 0 = λ x. ReadsHead x found in
    let Q : Option Head → Type 0 = λ x. ReadsHead front x in
    subst Q is (subst P same reads)

pub no_head_there : (bytes front : List ℕ) (found : Option Head) → bytes ≡ front → found ≡ None → ReadsHead bytes found → IsNoHead front
no_head_there bytes front found same is reads =
    let P : List ℕ → Type 0 = λ x. IsNoHead x in
    let Q : Option Head → Type 0 = λ x. ReadsHead bytes x in
    subst P same (subst Q is reads)
