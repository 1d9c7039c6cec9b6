-- The bytes that were given so far, and what they hold.
use Rattle.std.proofs.Common.{ℕ, ◌≡◌, ◌≤◌, ◌<◌, List, [], ◌∷◌, ◌++◌, length, take, drop, arith, ap, sym, subst, ◌∙◌, refl, Option, Result, Ok, Err, IsTrue, IsFalse, IfSome, Some, ◌⊎◌, inl, inr, append_assoc, length-append, length-take}
use Rattle.std.specs.Io.KnownBytes.{Consumes, Keeps}
use Rattle.std.proofs.KnownBytes.{Consumes-nil, Consumes-trans, Consumes-kept}
use Rattle.std.proofs.lemmas.List.{append-nil, take-append-drop, take_all}
use Rattle.httparse.specs.Grammar.{RequestHead}
use Rattle.fd_http.specs.declared.limits.TheConstants.{LONGEST_FRONT, LONGEST_PIECE}
use Rattle.fd_http.specs.declared.headers.Length.{Length}
use Rattle.fd_http.specs.declared.head.Head.{Head}
use Rattle.fd_http.specs.declared.request.Request.{Request}
use Rattle.fd_http.specs.declared.request.RequestFault.{RequestFault}
use Rattle.fd_http.specs.declared.request.RequestFault.TheVariants.{BadHead, NoLength, TooLarge, Cut, ReadFault, NoMemory}
use Rattle.fd_http.specs.Arrivals.{AtReadFault, IsUnfinished}
use Rattle.fd_http.specs.Front.{IsFront, HasNoFront, is_blank_ended}
use Rattle.fd_http.specs.Heads.{IsHead, head_of, body_len, sized}
use Rattle.fd_http.specs.Inputs.{Headed, Begins, CutInFront, HasRequestFault, request_of}
use Rattle.fd_http.specs.Intake.{FrontAt}
use Rattle.fd_http.specs.Remainders.{Given, Paced}
use Rattle.fd_http.proofs.InputLemmas.{begins_in, cut_in, sized_fault}
use Rattle.fd_http.proofs.SplitLemmas.{front_is, headed_unique, no_front_there}

-- nothing was given yet
pub given_none : (o : Option (List ℕ)) (a : List ℕ) (Is : List ℕ → Type 0) → Is a → Given o o a Is
given_none o a Is is = record { bytes = []; consumed = Consumes-nil o; holds = subst Is (sym (append-nil a)) is }

-- more was given
pub given_more : (old mid new : Option (List ℕ)) (a bs : List ℕ) (P Q : List ℕ → Type 0) → Given old mid a P → Consumes mid new bs
    → ((xs : List ℕ) → P xs → Q (xs ++ bs)) → Given old new a Q
given_more old mid new a bs P Q given took f = record {
  bytes = given.bytes ++ bs;
  consumed = Consumes-trans old mid new given.bytes bs given.consumed took;
  holds = subst Q (append_assoc a given.bytes bs) (f (a ++ given.bytes) given.holds);
}

-- the source failed
pub given_kept : (old mid new : Option (List ℕ)) (a : List ℕ) (P Q : List ℕ → Type 0) → Given old mid a P → Keeps mid new
    → ((xs : List ℕ) → P xs → Q xs) → Given old new a Q
given_kept old mid new a P Q given kept f = record {
  bytes = given.bytes;
  consumed = Consumes-kept old mid new given.bytes given.consumed kept;
  holds = f (a ++ given.bytes) given.holds;
}

-- nothing was read
pub paced_none : (o : Option (List ℕ)) (a : List ℕ) (Is : List ℕ → Type 0) → Paced o o a Is
paced_none o a Is = record { before = []; piece = []; consumed = Consumes-nil o; small = omega arith; holds = inl refl }

-- a piece was read
pub paced_more : (old mid new : Option (List ℕ)) (a piece : List ℕ) (P Is : List ℕ → Type 0) → Given old mid a P → Consumes mid new piece
    → length piece ≤ LONGEST_PIECE → ((xs : List ℕ) → P xs → Is xs) → Paced old new a Is
paced_more old mid new a piece P Is given took small f = record {
  before = given.bytes;
  piece = piece;
  consumed = Consumes-trans old mid new given.bytes piece given.consumed took;
  small = small;
  holds = inr (f (a ++ given.bytes) given.holds);
}

-- the source failed
pub paced_kept : (old mid new : Option (List ℕ)) (a : List ℕ) (Is : List ℕ → Type 0) → Paced old mid a Is → Keeps mid new → Paced old new a Is
paced_kept old mid new a Is paced kept = record {
  before = paced.before;
  piece = paced.piece;
  consumed = Consumes-kept old mid new (paced.before ++ paced.piece) paced.consumed kept;
  small = paced.small;
  holds = paced.holds;
}

-- bytes without a front are none, or less than a request
pub unfinished_front : (inbox given : List ℕ) → length inbox < LONGEST_FRONT → HasNoFront (take LONGEST_FRONT inbox) → given ≡ inbox → IsUnfinished given
unfinished_front [] given few none is = inl is
unfinished_front (x ∷ xs) given few none is =
    let some : 0 < length (x ∷ xs) = omega arith in
    let cut : CutInFront (x ∷ xs) = record { some = some; few = few; none = subst HasNoFront (take_all LONGEST_FRONT (x ∷ xs) (omega (arith, few))) none } in
    inr (inl (subst CutInFront (sym is) cut))

-- where a front stands, it is found
pub no_front_in : (inbox a : List ℕ) (n : ℕ) → FrontAt a n → inbox ≡ a → HasNoFront (take LONGEST_FRONT inbox) → ⊥
no_front_in inbox a n at is none =
    let L : List ℕ → Type 0 = λ xs. HasNoFront (take LONGEST_FRONT xs) in
    no_front_there a (take n a) (drop n a) (record { is_front = at.front; short = omega (arith, at.short, length-take n a) }) (subst L is none)

-- the front of a whole request stands in the bytes
pub front_of : (a : List ℕ) (request : Request) (after : List ℕ) → Begins a request after → (n : ℕ) × FrontAt a n
front_of a request after begins =
    let front = begins.headed.front in
    let is_front = begins.headed.fronted.is_front in
    let is : take (length front) a ≡ front = front_is a front begins.more is_front.parts in
    let E : List ℕ → Type 0 = λ xs. IsTrue (is_blank_ended xs) in
    let S : List ℕ → Type 0 = λ xs. (k : ℕ) → k < length xs → IsFalse (is_blank_ended (take k xs)) in (
      length front,
      record {
        within = omega (arith, ap length is_front.parts, length-append front begins.more);
        short = begins.headed.fronted.short;
        front = record {
          parts = sym (take-append-drop (length front) a);
          ends = subst E (sym is) is_front.ends;
          shortest = subst S (sym is) is_front.shortest;
        };
      },
    )

abbrev ok_size : ℕ → Result ℕ RequestFault
ok_size n = Ok n

size_is : (m n : ℕ) → ok_size m ≡ ok_size n → m ≡ n
size_is m n e = cc

-- its body stands there too
pub body_stands : (a : List ℕ) (request : Request) (after : List ℕ) (n : ℕ) (head : Head) (size : ℕ) → Begins a request after
    → FrontAt a n → (h : RequestHead) × IsHead (take n a) h × (head ≡ head_of h) → body_len head ≡ Ok size → size ≤ length (drop n a)
body_stands a request after n head size begins at is sized =
    let here : Headed a is.0 (drop n a) = record { front = take n a; fronted = record { is_front = at.front; short = omega (arith, at.short, length-take n a) }; head = is.1 } in
    let same = headed_unique a begins.h is.0 begins.more (drop n a) begins.headed here in
    let sizes : ok_size begins.size ≡ ok_size size = sym begins.sized ∙ (ap (λ (x : RequestHead). body_len (head_of x)) same.0 ∙ (ap body_len (sym is.2) ∙ sized)) in
    omega (arith, begins.whole, ap length same.1, size_is begins.size size sizes)

-- the next request, from the parts that were given
pub given_one : (old mid new : Option (List ℕ)) (a b b2 body : List ℕ) (n : ℕ) (head : Head) (size : ℕ) → Given old mid a (λ given. given ≡ b) → FrontAt b n
    → (h : RequestHead) × IsHead (take n b) h × (head ≡ head_of h) → body_len head ≡ Ok size → length body ≡ size
    → Given mid new (drop n b) (λ given. given ≡ body ++ b2) → Given old new a (λ given. Begins given (request_of head body) b2)
given_one old mid new a b b2 body n head size first at is sized long second =
    let h = is.0 in
    let sized_h : body_len (head_of h) ≡ Ok size = ap body_len (sym is.2) ∙ sized in
    let parts : drop n b ++ second.bytes ≡ body ++ (b2 ++ []) = second.holds ∙ ap (λ (xs : List ℕ). body ++ xs) (sym (append-nil b2)) in
    let A : List ℕ → Type 0 = λ xs. Begins (b ++ second.bytes) (request_of (head_of h) body) xs in
    let H : Head → Type 0 = λ x. Begins (b ++ second.bytes) (request_of x body) b2 in
    let G : List ℕ → Type 0 = λ xs. Begins (xs ++ second.bytes) (request_of head body) b2 in
    let whole : Begins (b ++ second.bytes) (request_of head body) b2 = subst H (sym is.2) (subst A (append-nil b2) (begins_in b second.bytes b2 [] body n h size at is.1 sized_h long parts)) in
    given_more old mid new a second.bytes (λ given. given ≡ b) (λ given. Begins given (request_of head body) b2) first second.consumed
    (λ xs same. subst G (sym same) whole)

-- the source failed in a body
pub given_cut : (old mid new : Option (List ℕ)) (a b : List ℕ) (n : ℕ) (head : Head) (size : ℕ) (e : RequestFault) → Given old mid a (λ given. given ≡ b) → FrontAt b n
    → (h : RequestHead) × IsHead (take n b) h × (head ≡ head_of h) → body_len head ≡ Ok size
    → AtReadFault e (Given mid new (drop n b) (λ given. length given < size)) → AtReadFault e (Given old new a IsUnfinished)
given_cut old mid new a b n head size BadHead first at is sized second = tt
given_cut old mid new a b n head size NoLength first at is sized second = tt
given_cut old mid new a b n head size TooLarge first at is sized second = tt
given_cut old mid new a b n head size Cut first at is sized second = tt
given_cut old mid new a b n head size NoMemory first at is sized second = tt
given_cut old mid new a b n head size ReadFault first at is sized second =
    let sized_h : body_len (head_of is.0) ≡ Ok size = ap body_len (sym is.2) ∙ sized in
    let cut : HasRequestFault (b ++ second.bytes) Cut = cut_in b second.bytes n is.0 size at is.1 sized_h second.holds in
    let C : List ℕ → Type 0 = λ xs. HasRequestFault (xs ++ second.bytes) Cut in
    given_more old mid new a second.bytes (λ given. given ≡ b) IsUnfinished first second.consumed (λ xs same. inr (subst C (sym same) cut))

-- a body was read behind a front
pub paced_body : (old mid new : Option (List ℕ)) (a b skipped : List ℕ) (n : ℕ) (head : Head) (size : ℕ) → Given old mid a (λ given. given ≡ b) → Paced old mid a IsUnfinished
    → FrontAt b n → (h : RequestHead) × IsHead (take n b) h × (head ≡ head_of h) → body_len head ≡ Ok size → skipped ≡ drop n b
    → Paced mid new skipped (λ given. length given < size) → Paced old new a IsUnfinished
paced_body old mid new a b skipped n head size first paced at is sized skip second = by second.holds
  where
    by : (second.before ++ second.piece ≡ []) ⊎ (length (skipped ++ second.before) < size) → Paced old new a IsUnfinished
    by (inl nothing) =
        let none : Consumes mid new [] = subst (Consumes mid new) nothing second.consumed in
        let same : (paced.before ++ paced.piece) ++ [] ≡ paced.before ++ paced.piece = append-nil (paced.before ++ paced.piece) in
        record {
          before = paced.before;
          piece = paced.piece;
          consumed = subst (Consumes old new) same (Consumes-trans old mid new (paced.before ++ paced.piece) [] paced.consumed none);
          small = paced.small;
          holds = paced.holds;
        }
    by (inr short) =
        let sized_h : body_len (head_of is.0) ≡ Ok size = ap body_len (sym is.2) ∙ sized in
        let few : length (drop n b ++ second.before) < size = subst (λ (xs : List ℕ). length (xs ++ second.before) < size) skip short in
        let cut : HasRequestFault (b ++ second.before) Cut = cut_in b second.before n is.0 size at is.1 sized_h few in
        let all : a ++ (first.bytes ++ second.before) ≡ b ++ second.before =
        sym (append_assoc a first.bytes second.before) ∙ ap (λ (xs : List ℕ). xs ++ second.before) first.holds in
        let C : List ℕ → Type 0 = λ xs. HasRequestFault xs Cut in
        let B : List ℕ → Type 0 = Consumes old new in
        record {
          before = first.bytes ++ second.before;
          piece = second.piece;
          consumed = subst B (sym (append_assoc first.bytes second.before second.piece)) (Consumes-trans old mid new first.bytes (second.before ++ second.piece) first.consumed second.consumed);
          small = second.small;
          holds = inr (inr (subst C (sym all) cut));
        }

-- what a head says is no fault of the source
pub no_read_fault : (l : Length) (head : Head) (e : RequestFault) (P : Type 0) → sized l head ≡ Err e → AtReadFault e P
no_read_fault l head BadHead P is = tt
no_read_fault l head NoLength P is = tt
no_read_fault l head TooLarge P is = tt
no_read_fault l head Cut P is = tt
no_read_fault l head NoMemory P is = tt
no_read_fault l head ReadFault P is = let ways = sized_fault l head ReadFault is in let never : ⊥ = grind arith in absurd never

-- what is in the inbox begins the body
pub given_start : (o : Option (List ℕ)) (a inbox body : List ℕ) (k : ℕ) → body ≡ take k a → inbox ≡ drop k a → Given o o a (λ given. given ≡ body ++ inbox)
given_start o a inbox body k is rest =
    given_none o a (λ given. given ≡ body ++ inbox)
    (sym (take-append-drop k a) ∙ ap (λ (xs : List ℕ). xs ++ drop k a) (sym is) ∙ ap (λ (xs : List ℕ). body ++ xs) (sym rest))

-- what the source gives continues it
pub given_body : (old mid new : Option (List ℕ)) (a inbox body bs : List ℕ) → inbox ≡ [] → Given old mid a (λ given. given ≡ body ++ inbox) → Consumes mid new bs
    → Given old new a (λ given. given ≡ (body ++ bs) ++ inbox)
given_body old mid new a inbox body bs used given took =
    given_more old mid new a bs (λ given. given ≡ body ++ inbox) (λ given. given ≡ (body ++ bs) ++ inbox) given took
    (λ xs same. ap (λ (ys : List ℕ). ys ++ bs) (same ∙ (ap (λ (ys : List ℕ). body ++ ys) used ∙ append-nil body))
    ∙ (sym (append-nil (body ++ bs)) ∙ ap (λ (ys : List ℕ). (body ++ bs) ++ ys) (sym used)))

pub given_there : (found : Option ℕ) (n : ℕ) (P : Type 0) → found ≡ Some n → IfSome found (λ _. P) → P
given_there found n P is given = let Q : Option ℕ → Type 0 = λ x. IfSome x (λ _. P) in subst Q is given

-- where a whole request stands in the inbox, its body does too, behind the front that was found
pub body_there : (a b skipped : List ℕ) (request : Request) (after : List ℕ) (n : ℕ) (head : Head) (size : ℕ) → Begins a request after → b ≡ a → FrontAt b n
    → (h : RequestHead) × IsHead (take n b) h × (head ≡ head_of h) → body_len head ≡ Ok size → skipped ≡ drop n b → size ≤ length skipped
body_there a b skipped request after n head size begins same at is sized skip =
    let B : List ℕ → Type 0 = λ xs. Begins xs request after in
    let enough : size ≤ length (drop n b) = body_stands b request after n head size (subst B (sym same) begins) at is sized in
    omega (arith, enough, ap length skip)
