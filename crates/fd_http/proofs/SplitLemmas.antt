-- A rest holds one thing, so that `Splits` is a function of the bytes.
use Rattle.std.proofs.Common.{ℕ, ◌≡◌, ◌≤◌, ◌<◌, ◌-◌, List, [], ◌∷◌, ◌++◌, length, take, drop, arith, ap, sym, subst, ◌∙◌, refl, Result, Ok, Err, Bool, true, false, inl, inr, length-append, length-take, if◌then◌else◌, nat_lt, nat_le}
use Rattle.std.specs.Bool.{IsTrue, IsFalse}
use Rattle.std.proofs.lemmas.List.{take_at, drop_at, take-append-le, take-take, take_all}
use Rattle.std.proofs.lemmas.Bool.{cases_lt, le-leb}
use Rattle.std.proofs.lemmas.Bool.Decides.{nat_tests}
use Rattle.httparse.specs.Grammar.{RequestHead}
use Rattle.httparse.proofs.GrammarLemmas.{request_unique}
use Rattle.fd_http.specs.declared.limits.TheConstants.{LONGEST_FRONT}
use Rattle.fd_http.specs.declared.request.Request.{Request}
use Rattle.fd_http.specs.declared.request.RequestFault.{RequestFault}
use Rattle.fd_http.specs.declared.request.RequestFault.TheVariants.{BadHead, NoLength, TooLarge, Cut, ReadFault, NoMemory}
use Rattle.fd_http.specs.Front.{IsFront, HasNoFront, is_blank_ended}
use Rattle.fd_http.specs.Heads.{IsHead, head_of, body_len}
use Rattle.fd_http.specs.Inputs.{Next, nothing, one, refused, Holds, Fronted, Headed, Begins, NoHead, request_of, End, ended, closed, limit, refused_as, SplitsWithin}
use Rattle.fd_http.specs.Prefixes.{Leads}

-- a front is a prefix, so its length gives it
pub front_is : (rest front more : List ℕ) → rest ≡ front ++ more → take (length front) rest ≡ front
front_is rest front more parts = ap (take (length front)) parts ∙ take_at front more (length front) refl

-- no front is shorter than another
not_shorter : (rest f m g n : List ℕ) → IsFront rest f m → IsFront rest g n → length f < length g → ⊥
not_shorter rest f m g n a b less =
    let cut : take (length f) g ≡ f = sym (ap (take (length f)) b.parts ∙ take-append-le (length f) g n (omega arith)) ∙ front_is rest f m a.parts in
    let no : is_blank_ended (take (length f) g) ≡ false = b.shortest (length f) less in
    let yes : is_blank_ended f ≡ true = a.ends in
    let same : is_blank_ended (take (length f) g) ≡ is_blank_ended f = ap is_blank_ended cut in
    cc

pub front_unique : (rest f m g n : List ℕ) → IsFront rest f m → IsFront rest g n → (f ≡ g) × (m ≡ n)
front_unique rest f m g n a b =
    let low : length f ≤ length g = elim (cases_lt (length g) (length f)) [ inl h ↦ absurd (not_shorter rest g n f m b a h) | inr h ↦ h ] in
    let high : length g ≤ length f = elim (cases_lt (length f) (length g)) [ inl h ↦ absurd (not_shorter rest f m g n a b h) | inr h ↦ h ] in
    let long : length f ≡ length g = omega arith in
    let same : f ≡ g = sym (front_is rest f m a.parts) ∙ ap (λ (k : ℕ). take k rest) long ∙ front_is rest g n b.parts in
    let left : drop (length f) rest ≡ m = ap (drop (length f)) a.parts ∙ drop_at f m (length f) refl in
    let right : drop (length g) rest ≡ n = ap (drop (length g)) b.parts ∙ drop_at g n (length g) refl in
    (same, sym left ∙ ap (λ (k : ℕ). drop k rest) long ∙ right)

pub no_front_there : (rest front more : List ℕ) → Fronted rest front more → HasNoFront (take LONGEST_FRONT rest) → ⊥
no_front_there rest front more there none =
    let within : length front ≤ length rest = omega (arith, ap length there.is_front.parts, length-append front more) in
    let no : is_blank_ended (take (length front) (take LONGEST_FRONT rest)) ≡ false = none (length front) (omega (arith, there.short, length-take LONGEST_FRONT rest)) in
    let cut : take (length front) (take LONGEST_FRONT rest) ≡ front = take-take (length front) LONGEST_FRONT rest there.short ∙ front_is rest front more there.is_front.parts in
    let same : is_blank_ended (take (length front) (take LONGEST_FRONT rest)) ≡ is_blank_ended front = ap is_blank_ended cut in
    let yes : is_blank_ended front ≡ true = there.is_front.ends in
    cc

pub headed_unique : (rest : List ℕ) (h k : RequestHead) (m n : List ℕ) → Headed rest h m → Headed rest k n → (h ≡ k) × (m ≡ n)
headed_unique rest h k m n a b =
    let fronts = front_unique rest a.front m b.front n a.fronted.is_front b.fronted.is_front in
    let P : List ℕ → Type 0 = λ xs. IsHead xs k in
    let whole : IsHead a.front k = subst P (sym fronts.0) b.head in
    ((request_unique a.front h k [] [] a.head.reads whole.reads).0, fronts.1)

-- nothing is in front of nothing
no_front_of_nothing : (front more : List ℕ) → IsFront [] front more → ⊥
no_front_of_nothing [] more there = let no : false ≡ true = there.ends in cc
no_front_of_nothing (b ∷ front) more there = let e = there.parts in cc

-- how a rest is seen
data Sight (rest : List ℕ) : Type 0 where
  empty : rest ≡ [] → Sight rest
  unfronted : 0 < length rest → HasNoFront (take LONGEST_FRONT rest) → Sight rest
  headless : NoHead rest → Sight rest
  headed : (h : RequestHead) (more : List ℕ) → Headed rest h more → Sight rest

abbrev by_size : Result ℕ RequestFault → RequestHead → List ℕ → Next
by_size (Err e) h more = refused e
by_size (Ok size) h more = if nat_le size (length more) then one (request_of (head_of h) (take size more)) (drop size more) else refused Cut

abbrev out : (rest : List ℕ) → Sight rest → Next
out rest (empty e) = nothing
out rest (unfronted some none) = if nat_lt (length rest) LONGEST_FRONT then refused Cut else refused BadHead
out rest (headless there) = refused BadHead
out rest (headed h more there) = by_size (body_len (head_of h)) h more

nowhere : (rest front more : List ℕ) → rest ≡ [] → IsFront rest front more → ⊥
nowhere rest front more e there = let P : List ℕ → Type 0 = λ xs. IsFront xs front more in no_front_of_nothing front more (subst P e there)

both : (rest : List ℕ) (h : RequestHead) (more : List ℕ) → NoHead rest → Headed rest h more → ⊥
both rest h more none there =
    let fronts = front_unique rest none.front none.more there.front more none.fronted.is_front there.fronted.is_front in
    let P : List ℕ → Type 0 = λ xs. IsHead xs h in
    none.none h (subst P (sym fronts.0) there.head)

same_out : (rest : List ℕ) (s t : Sight rest) → out rest s ≡ out rest t
same_out rest (empty e) (empty f) = refl
same_out rest (empty e) (unfronted some none) = absurd (omega (arith, ap length e))
same_out rest (empty e) (headless there) = absurd (nowhere rest there.front there.more e there.fronted.is_front)
same_out rest (empty e) (headed h more there) = absurd (nowhere rest there.front more e there.fronted.is_front)
same_out rest (unfronted some none) (empty e) = absurd (omega (arith, ap length e))
same_out rest (unfronted some none) (unfronted some' none') = refl
same_out rest (unfronted some none) (headless there) = absurd (no_front_there rest there.front there.more there.fronted none)
same_out rest (unfronted some none) (headed h more there) = absurd (no_front_there rest there.front more there.fronted none)
same_out rest (headless there) (empty e) = absurd (nowhere rest there.front there.more e there.fronted.is_front)
same_out rest (headless there) (unfronted some none) = absurd (no_front_there rest there.front there.more there.fronted none)
same_out rest (headless there) (headless there') = refl
same_out rest (headless there) (headed h more there') = absurd (both rest h more there there')
same_out rest (headed h more there) (empty e) = absurd (nowhere rest there.front more e there.fronted.is_front)
same_out rest (headed h more there) (unfronted some none) = absurd (no_front_there rest there.front more there.fronted none)
same_out rest (headed h more there) (headless there') = absurd (both rest h more there' there)
same_out rest (headed h more there) (headed k more' there') =
    let same = headed_unique rest h k more more' there there' in
    ap (λ (x : RequestHead). by_size (body_len (head_of x)) x more) same.0 ∙ ap (by_size (body_len (head_of k)) k) same.1

one_out : (h : RequestHead) (more : List ℕ) (size : ℕ) (request : Request) (after : List ℕ) → size ≤ length more
    → request ≡ request_of (head_of h) (take size more) → after ≡ drop size more → one request after ≡ by_size (Ok size) h more
one_out h more size request after whole request_is after_is =
    let yes : nat_le size (length more) ≡ true = le-leb size (length more) whole in
    rw yes (cc)

cut_out : (h : RequestHead) (more : List ℕ) (size : ℕ) → length more < size → refused Cut ≡ by_size (Ok size) h more
cut_out h more size short =
    let no : nat_le size (length more) ≡ false = grind (arith, nat_tests) in
    rw no

few_out : (rest : List ℕ) → length rest < LONGEST_FRONT → refused Cut ≡ (if nat_lt (length rest) LONGEST_FRONT then refused Cut else refused BadHead)
few_out rest few =
    let yes : nat_lt (length rest) LONGEST_FRONT ≡ true = grind (arith, nat_tests) in
    rw yes

many_out : (rest : List ℕ) → LONGEST_FRONT ≤ length rest → refused BadHead ≡ (if nat_lt (length rest) LONGEST_FRONT then refused Cut else refused BadHead)
many_out rest many =
    let no : nat_lt (length rest) LONGEST_FRONT ≡ false = grind (arith, nat_tests) in
    rw no

sight_of : (rest : List ℕ) (n : Next) → Holds rest n → (s : Sight rest) × (n ≡ out rest s)
sight_of rest nothing e = (empty e, refl)
sight_of rest (one request after) begins = (
  headed begins.h begins.more begins.headed,
  one_out begins.h begins.more begins.size request after begins.whole begins.request_is begins.after_is
      ∙ ap (λ (r : Result ℕ RequestFault). by_size r begins.h begins.more) (sym begins.sized),
)
sight_of rest (refused Cut) (inl cut) = (unfronted cut.some (subst HasNoFront (sym (take_all LONGEST_FRONT rest (omega (arith, cut.few)))) cut.none), few_out rest cut.few)
sight_of rest (refused Cut) (inr cut) = (
  headed cut.h cut.more cut.headed,
  cut_out cut.h cut.more cut.size cut.short ∙ ap (λ (r : Result ℕ RequestFault). by_size r cut.h cut.more) (sym cut.sized),
)
sight_of rest (refused BadHead) (inl long) = (unfronted (omega (arith, long.many)) long.none, many_out rest long.many)
sight_of rest (refused BadHead) (inr (inl none)) = (headless none, refl)
sight_of rest (refused BadHead) (inr (inr bad)) = (headed bad.h bad.more bad.headed, ap (λ (r : Result ℕ RequestFault). by_size r bad.h bad.more) (sym bad.refused))
sight_of rest (refused NoLength) bad = (headed bad.h bad.more bad.headed, ap (λ (r : Result ℕ RequestFault). by_size r bad.h bad.more) (sym bad.refused))
sight_of rest (refused TooLarge) bad = (headed bad.h bad.more bad.headed, ap (λ (r : Result ℕ RequestFault). by_size r bad.h bad.more) (sym bad.refused))
sight_of rest (refused ReadFault) never = absurd never
sight_of rest (refused NoMemory) never = absurd never

-- A rest holds one thing.
pub holds_unique : (rest : List ℕ) (a b : Next) → Holds rest a → Holds rest b → a ≡ b
holds_unique rest a b x y =
    let s = sight_of rest a x in
    let t = sight_of rest b y in
    s.1 ∙ same_out rest s.0 t.0 ∙ sym t.1

-- the part of a split that is told by the next request
next_is : (rest : List ℕ) (request other : Request) (after more : List ℕ) → Begins rest request after → Begins rest other more → (request ≡ other) × (after ≡ more)
next_is rest request other after more x y =
    let same = holds_unique rest (one request after) (one other more) x y in
    (cc, cc)

unlike : (a b : Bool) → IsTrue a → IsFalse b → a ≡ b → ⊥
unlike a b is_true is_false same = let t : a ≡ true = is_true in let n : b ≡ false = is_false in cc

-- A list of bytes splits in one way.
pub splits_unique : (rs ss : List Request) (room : ℕ) (bytes : List ℕ) (e f : End) → SplitsWithin rs room bytes e → SplitsWithin ss room bytes f → (rs ≡ ss) × (e ≡ f)
splits_unique [] [] room bytes ended ended x y = (refl, refl)
splits_unique [] [] room bytes ended closed x y = absurd y
splits_unique [] [] room bytes ended limit x y = absurd (omega (arith, x.0, y))
splits_unique [] [] room bytes ended (refused_as fault) x y = let no = holds_unique bytes nothing (refused fault) x.1 y.1 in cc
splits_unique [] [] room bytes closed f x y = absurd x
splits_unique [] [] room bytes limit ended x y = absurd (omega (arith, x, y.0))
splits_unique [] [] room bytes limit closed x y = absurd y
splits_unique [] [] room bytes limit limit x y = (refl, refl)
splits_unique [] [] room bytes limit (refused_as fault) x y = absurd (omega (arith, x, y.0))
splits_unique [] [] room bytes (refused_as fault) ended x y = let no = holds_unique bytes (refused fault) nothing x.1 y.1 in cc
splits_unique [] [] room bytes (refused_as fault) closed x y = absurd y
splits_unique [] [] room bytes (refused_as fault) limit x y = absurd (omega (arith, x.0, y))
splits_unique [] [] room bytes (refused_as fault) (refused_as other) x y = let same = holds_unique bytes (refused fault) (refused other) x.1 y.1 in (refl, cc)
splits_unique [] (s ∷ ss) room bytes ended f x y = let no = holds_unique bytes nothing (one s y.1) x.1 y.2 in cc
splits_unique [] (s ∷ ss) room bytes closed f x y = absurd x
splits_unique [] (s ∷ ss) room bytes limit f x y = absurd (omega (arith, x, y.0))
splits_unique [] (s ∷ ss) room bytes (refused_as fault) f x y = let no = holds_unique bytes (refused fault) (one s y.1) x.1 y.2 in cc
splits_unique (r ∷ rs) [] room bytes e ended x y = let no = holds_unique bytes (one r x.1) nothing x.2 y.1 in cc
splits_unique (r ∷ rs) [] room bytes e closed x y = absurd y
splits_unique (r ∷ rs) [] room bytes e limit x y = absurd (omega (arith, x.0, y))
splits_unique (r ∷ rs) [] room bytes e (refused_as fault) x y = let no = holds_unique bytes (one r x.1) (refused fault) x.2 y.1 in cc
splits_unique (r ∷ rs) (s ∷ ss) room bytes e f x y =
    let same = next_is bytes r s x.1 y.1 x.2 y.2 in
    let closes : r.close ≡ s.close = ap (λ (q : Request). q.close) same.0 in
    elim x.3 as (λ _. (r ∷ rs ≡ s ∷ ss) × (e ≡ f)) [
      | inl a ↦ elim y.3 as (λ _. (r ∷ rs ≡ s ∷ ss) × (e ≡ f)) [
        | inl b ↦ (cc, cc)
        | inr b ↦ absurd (unlike r.close s.close a.0 b.0 closes)
      ]
      | inr a ↦ elim y.3 as (λ _. (r ∷ rs ≡ s ∷ ss) × (e ≡ f)) [
        | inl b ↦ absurd (unlike s.close r.close b.0 a.0 (sym closes))
        | inr b ↦
            let P : List ℕ → Type 0 = λ after. SplitsWithin ss (room - 1) after f in
            let rest = splits_unique rs ss (room - 1) x.1 e f a.1 (subst P (sym same.1) b.1) in
            (cc, rest.1)
      ]
    ]

-- requests that the bytes begin with are the first of their split
pub leads_prefix : (rs all : List Request) (room : ℕ) (bytes : List ℕ) (left : ℕ) (after : List ℕ) (end : End) → Leads rs room bytes left after → SplitsWithin all room bytes end
    → (more : List Request) × (all ≡ rs ++ more) × SplitsWithin more left after end
leads_prefix [] all room bytes left after end leads splits =
    let P : ℕ → Type 0 = λ n. SplitsWithin all n after end in
    let Q : List ℕ → Type 0 = λ xs. SplitsWithin all room xs end in
    (all, refl, subst P (sym leads.0) (subst Q leads.1 splits))
leads_prefix (r ∷ rs) [] room bytes left after ended leads splits = let no = holds_unique bytes (one r leads.1) nothing leads.2 splits.1 in cc
leads_prefix (r ∷ rs) [] room bytes left after closed leads splits = absurd splits
leads_prefix (r ∷ rs) [] room bytes left after limit leads splits = absurd (omega (arith, leads.0, splits))
leads_prefix (r ∷ rs) [] room bytes left after (refused_as fault) leads splits = let no = holds_unique bytes (one r leads.1) (refused fault) leads.2 splits.1 in cc
leads_prefix (r ∷ rs) (s ∷ ss) room bytes left after end leads splits =
    let same = next_is bytes r s leads.1 splits.1 leads.2 splits.2 in
    let closes : r.close ≡ s.close = ap (λ (q : Request). q.close) same.0 in
    elim splits.3 as (λ _. (more : List Request) × (s ∷ ss ≡ (r ∷ rs) ++ more) × SplitsWithin more left after end) [
      | inl last ↦ absurd (unlike s.close r.close last.0 leads.3 (sym closes))
      | inr next ↦
          let P : List ℕ → Type 0 = λ mid. SplitsWithin ss (room - 1) mid end in
          let rest = leads_prefix rs ss (room - 1) leads.1 left after end leads.4 (subst P (sym same.1) next.1) in
          (rest.0, (let tail : ss ≡ rs ++ rest.0 = rest.1 in let head : r ≡ s = same.0 in cc), rest.2)
    ]
