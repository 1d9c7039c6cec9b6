-- The requests that were read so far: what a loop over them keeps, and how it ends.
use Rattle.std.proofs.Common.{ℕ, ◌≡◌, ◌<◌, ◌-◌, List, [], ◌∷◌, ◌++◌, None, Some, Ok, subst, sym, refl, ap, ◌∙◌, arith, append_assoc, length-append, ◌⊎◌, inl, inr}
use Rattle.std.specs.Bool.{IsTrue, IsFalse}
use Rattle.std.specs.declared.option.Option.{Option}
use Rattle.std.proofs.lemmas.List.{append-nil, take-append-le, drop-append-le}
use Rattle.std.proofs.KnownBytes.{Consumes-nil, Consumes-trans}
use Rattle.std.specs.Io.KnownBytes.{Consumes}
use Rattle.httparse.specs.Grammar.{RequestHead}
use Rattle.fd_http.specs.declared.limits.TheConstants.{MOST_REQUESTS}
use Rattle.fd_http.specs.declared.request.Request.{Request}
use Rattle.fd_http.specs.declared.request.Arrived.TheVariants.{One, End as NoMore}
use Rattle.fd_http.specs.declared.request.RequestFault.{RequestFault}
use Rattle.fd_http.specs.declared.request.RequestFault.TheVariants.{Cut}
use Rattle.fd_http.specs.Heads.{head_of}
use Rattle.fd_http.specs.Inputs.{nothing, refused, Holds, Headed, request_of, Begins, HasRequestFault, End, ended, closed, limit, refused_as, SplitsWithin, Splits}
use Rattle.fd_http.specs.Prefixes.{Leads}
use Rattle.fd_http.specs.Remainders.{IfTold, Given, Paced}
use Rattle.fd_http.specs.Arrivals.{Arrives, IsUnfinished}
use Rattle.fd_http.proofs.RemainderLemmas.{told_then}
use Rattle.fd_api.specs.Sessions.{KeepsPace}

-- one reading after another
pub told_trans : (old mid new : Option (List ℕ)) (a b c : List ℕ) (P Q R : List ℕ → List ℕ → Type 0) → IfTold old mid a b P → IfTold mid new b c Q
    → ((x y z : List ℕ) → P (a ++ x) (b ++ y) → Q (b ++ y) (c ++ z) → R (a ++ x) (c ++ z)) → IfTold old new a c R
told_trans None mid new a b c P Q R first second f = tt
told_trans (Some x) None new a b c P Q R first second f = absurd first
told_trans (Some x) (Some y) None a b c P Q R first second f = second
told_trans (Some x) (Some y) (Some z) a b c P Q R first second f = f x y z first second

-- no request yet
pub leads_none : (room : ℕ) (bytes : List ℕ) → Leads [] room bytes room bytes
leads_none room bytes = (refl, refl)

-- one more request, which does not ask to close
pub leads_push : (requests : List Request) (room : ℕ) (bytes : List ℕ) (left : ℕ) (rest after : List ℕ) (request : Request) → Leads requests room bytes left rest
    → 0 < left → Begins rest request after → IsFalse request.close → Leads (requests ++ request ∷ []) room bytes (left - 1) after
leads_push [] room bytes left rest after request leads some begins going =
    let P : ℕ → Type 0 = λ n. 0 < n in
    let Q : List ℕ → Type 0 = λ xs. Begins xs request after in
    (subst P leads.0 some, after, subst Q (sym leads.1) begins, going, (ap (λ (n : ℕ). n - 1) leads.0, refl))
leads_push (first ∷ requests) room bytes left rest after request leads some begins going =
    (leads.0, leads.1, leads.2, leads.3, leads_push requests (room - 1) leads.1 left rest after request leads.4 some begins going)

-- the split of what follows is the rest of the split
pub leads_then : (requests more : List Request) (room : ℕ) (bytes : List ℕ) (left : ℕ) (after : List ℕ) (end : End) → Leads requests room bytes left after
    → SplitsWithin more left after end → SplitsWithin (requests ++ more) room bytes end
leads_then [] more room bytes left after end leads splits =
    let P : ℕ → Type 0 = λ n. SplitsWithin more n after end in
    let Q : List ℕ → Type 0 = λ xs. SplitsWithin more room xs end in
    subst Q (sym leads.1) (subst P leads.0 splits)
leads_then (first ∷ requests) more room bytes left after end leads splits =
    (leads.0, leads.1, leads.2, inr (leads.3, leads_then requests more (room - 1) leads.1 left after end leads.4 splits))

-- one more request, which asks to close
pub leads_close : (requests : List Request) (room : ℕ) (bytes : List ℕ) (left : ℕ) (rest after : List ℕ) (request : Request) → Leads requests room bytes left rest
    → 0 < left → Begins rest request after → IsTrue request.close → SplitsWithin (requests ++ request ∷ []) room bytes closed
leads_close requests room bytes left rest after request leads some begins close =
    leads_then requests (request ∷ []) room bytes left rest closed leads (some, after, begins, inl (close, refl, refl))

-- no further request
pub leads_end : (requests : List Request) (room : ℕ) (bytes : List ℕ) (left : ℕ) (after : List ℕ) (end : End) → Leads requests room bytes left after
    → SplitsWithin [] left after end → SplitsWithin requests room bytes end
leads_end requests room bytes left after end leads splits =
    let P : List Request → Type 0 = λ all. SplitsWithin all room bytes end in
    subst P (append-nil requests) (leads_then requests [] room bytes left after end leads splits)

-- The same of a session's requests, over an inbox and a source: from the rest before to the rest
-- after, with so many requests left of those of a session.
abbrev pub HasRead : Option (List ℕ) → Option (List ℕ) → List ℕ → List ℕ → List Request → ℕ → Type 0
HasRead old new a b requests left = IfTold old new a b (λ rest after. Leads requests MOST_REQUESTS rest left after)

-- the rest before splits into these requests and this end
abbrev pub HasSplit : Option (List ℕ) → Option (List ℕ) → List ℕ → List ℕ → List Request → End → Type 0
HasSplit old new a b requests end = IfTold old new a b (λ rest after. Splits rest requests end)

-- each answer of the next request, by its case
pub has_read_more : (old mid new : Option (List ℕ)) (a b c : List ℕ) (requests : List Request) (left : ℕ) (request : Request) → HasRead old mid a b requests left → 0 < left
    → Arrives mid new b c (Ok (One request)) → IsFalse request.close → HasRead old new a c (requests ++ request ∷ []) (left - 1)
has_read_more old mid new a b c requests left request so_far some next going =
    told_trans old mid new a b c (λ (rest after : List ℕ). Leads requests MOST_REQUESTS rest left after) (λ (rest after : List ℕ). Begins rest request after) (λ (rest after : List ℕ). Leads (requests ++ request ∷ []) MOST_REQUESTS rest (left - 1) after) so_far next
    (λ x y z leads begins. leads_push requests MOST_REQUESTS (a ++ x) left (b ++ y) (c ++ z) request leads some begins going)

pub has_read_close : (old mid new : Option (List ℕ)) (a b c : List ℕ) (requests : List Request) (left : ℕ) (request : Request) → HasRead old mid a b requests left → 0 < left
    → Arrives mid new b c (Ok (One request)) → IsTrue request.close → HasSplit old new a c (requests ++ request ∷ []) closed
has_read_close old mid new a b c requests left request so_far some next close =
    told_trans old mid new a b c (λ (rest after : List ℕ). Leads requests MOST_REQUESTS rest left after) (λ (rest after : List ℕ). Begins rest request after) (λ (rest after : List ℕ). SplitsWithin (requests ++ request ∷ []) MOST_REQUESTS rest closed) so_far next
    (λ x y z leads begins. leads_close requests MOST_REQUESTS (a ++ x) left (b ++ y) (c ++ z) request leads some begins close)

pub has_read_end : (old mid new : Option (List ℕ)) (a b c : List ℕ) (requests : List Request) (left : ℕ) → HasRead old mid a b requests left → 0 < left
    → Arrives mid new b c (Ok NoMore) → HasSplit old new a c requests ended
has_read_end old mid new a b c requests left so_far some next =
    told_trans old mid new a b c (λ (rest after : List ℕ). Leads requests MOST_REQUESTS rest left after) (λ (rest after : List ℕ). Holds rest nothing × (after ≡ [])) (λ (rest after : List ℕ). SplitsWithin requests MOST_REQUESTS rest ended) so_far next
    (λ x y z leads holds. leads_end requests MOST_REQUESTS (a ++ x) left (b ++ y) ended leads (some, holds.0))

pub has_read_refused : (old mid new : Option (List ℕ)) (a b c : List ℕ) (requests : List Request) (left : ℕ) (fault : RequestFault) → HasRead old mid a b requests left → 0 < left
    → IfTold mid new b c (λ rest after. Holds rest (refused fault)) → HasSplit old new a c requests (refused_as fault)
has_read_refused old mid new a b c requests left fault so_far some next =
    told_trans old mid new a b c (λ (rest after : List ℕ). Leads requests MOST_REQUESTS rest left after) (λ (rest after : List ℕ). HasRequestFault rest fault) (λ (rest after : List ℕ). SplitsWithin requests MOST_REQUESTS rest (refused_as fault)) so_far next
    (λ x y z leads refuses. leads_end requests MOST_REQUESTS (a ++ x) left (b ++ y) (refused_as fault) leads (some, refuses))

-- after the last of so many requests
pub has_read_limit : (old new : Option (List ℕ)) (a b : List ℕ) (requests : List Request) (left : ℕ) → HasRead old new a b requests left → left ≡ 0 → HasSplit old new a b requests limit
has_read_limit old new a b requests left so_far none =
    told_then old new a b (λ (rest after : List ℕ). Leads requests MOST_REQUESTS rest left after) (λ (rest after : List ℕ). SplitsWithin requests MOST_REQUESTS rest limit) so_far
    (λ x y leads. leads_end requests MOST_REQUESTS (a ++ x) left (b ++ y) limit leads none)

-- more bytes behind
headed_more : (rest : List ℕ) (h : RequestHead) (more ys : List ℕ) → Headed rest h more → Headed (rest ++ ys) h (more ++ ys)
headed_more rest h more ys headed = record {
  front = headed.front;
  fronted = record {
    is_front = record {
      parts = ap (λ (xs : List ℕ). xs ++ ys) headed.fronted.is_front.parts ∙ append_assoc headed.front more ys;
      ends = headed.fronted.is_front.ends;
      shortest = headed.fronted.is_front.shortest;
    };
    short = headed.fronted.short;
  };
  head = headed.head;
}

begins_more : (rest after ys : List ℕ) (request : Request) → Begins rest request after → Begins (rest ++ ys) request (after ++ ys)
begins_more rest after ys request begins = record {
  h = begins.h;
  more = begins.more ++ ys;
  headed = headed_more rest begins.h begins.more ys begins.headed;
  size = begins.size;
  sized = begins.sized;
  whole = omega (arith, begins.whole, length-append begins.more ys);
  request_is = begins.request_is ∙ ap (request_of (head_of begins.h)) (sym (take-append-le begins.size begins.more ys begins.whole));
  after_is = ap (λ (xs : List ℕ). xs ++ ys) begins.after_is ∙ sym (drop-append-le begins.size begins.more ys begins.whole);
}

leads_more : (requests : List Request) (room : ℕ) (bytes : List ℕ) (left : ℕ) (after ys : List ℕ) → Leads requests room bytes left after → Leads requests room (bytes ++ ys) left (after ++ ys)
leads_more [] room bytes left after ys leads = (leads.0, ap (λ (xs : List ℕ). xs ++ ys) leads.1)
leads_more (request ∷ requests) room bytes left after ys leads =
    (leads.0, leads.1 ++ ys, begins_more bytes leads.1 ys request leads.2, leads.3, leads_more requests (room - 1) leads.1 left after ys leads.4)

-- the bytes given so far, with one more request
pub given_push : (old mid new : Option (List ℕ)) (inbox_mid inbox : List ℕ) (requests : List Request) (room : ℕ) (request : Request)
    → Given old mid [] (λ given. Leads requests MOST_REQUESTS given room inbox_mid) → 0 < room → Given mid new inbox_mid (λ given. Begins given request inbox) → IsFalse request.close
    → Given old new [] (λ given. Leads (requests ++ request ∷ []) MOST_REQUESTS given (room - 1) inbox)
given_push old mid new inbox_mid inbox requests room request so_far some next going = record {
  bytes = so_far.bytes ++ next.bytes;
  consumed = Consumes-trans old mid new so_far.bytes next.bytes so_far.consumed next.consumed;
  holds =
      leads_push requests MOST_REQUESTS (so_far.bytes ++ next.bytes) room (inbox_mid ++ next.bytes) inbox request
      (leads_more requests MOST_REQUESTS so_far.bytes room inbox_mid next.bytes so_far.holds) some next.holds going;
}

-- they end with the last of the requests, or inside another
all_split : (bytes later inbox : List ℕ) (requests : List Request) (room : ℕ) → Leads requests MOST_REQUESTS bytes room inbox → 0 < room → IsUnfinished (inbox ++ later)
    → Splits (bytes ++ later) requests ended ⊎ Splits (bytes ++ later) requests (refused_as Cut)
all_split bytes later inbox requests room so_far some unfinished = by unfinished
  where
    leads : Leads requests MOST_REQUESTS (bytes ++ later) room (inbox ++ later)
    leads = leads_more requests MOST_REQUESTS bytes room inbox later so_far

    by : IsUnfinished (inbox ++ later) → Splits (bytes ++ later) requests ended ⊎ Splits (bytes ++ later) requests (refused_as Cut)
    by (inl nothing_more) = inl (leads_end requests MOST_REQUESTS (bytes ++ later) room (inbox ++ later) ended leads (some, nothing_more))
    by (inr cut) = inr (leads_end requests MOST_REQUESTS (bytes ++ later) room (inbox ++ later) (refused_as Cut) leads (some, cut))

-- they hold no other request
pub given_all : (old mid new : Option (List ℕ)) (inbox : List ℕ) (requests : List Request) (room : ℕ)
    → Given old mid [] (λ given. Leads requests MOST_REQUESTS given room inbox) → 0 < room → Given mid new inbox IsUnfinished
    → Given old new [] (λ given. Splits given requests ended ⊎ Splits given requests (refused_as Cut))
given_all old mid new inbox requests room so_far some next = record {
  bytes = so_far.bytes ++ next.bytes;
  consumed = Consumes-trans old mid new so_far.bytes next.bytes so_far.consumed next.consumed;
  holds = all_split so_far.bytes next.bytes inbox requests room so_far.holds some next.holds;
}

-- nothing was read, and no request was there
pub no_pace : (o : Option (List ℕ)) → KeepsPace o o []
no_pace o = record {
  before = [];
  piece = [];
  consumed = Consumes-nil o;
  small = omega arith;
  handled = [];
  more = [];
  all = refl;
  holds = inl (omega arith, refl);
}

-- one more request of what was read
pub pace_push : (old new : Option (List ℕ)) (requests : List Request) (request : Request) → KeepsPace old new requests → KeepsPace old new (requests ++ request ∷ [])
pace_push old new requests request pace = record {
  before = pace.before;
  piece = pace.piece;
  consumed = pace.consumed;
  small = pace.small;
  handled = pace.handled;
  more = pace.more ++ request ∷ [];
  all = ap (λ (rs : List Request). rs ++ request ∷ []) pace.all ∙ append_assoc pace.handled pace.more (request ∷ []);
  holds = pace.holds;
}

-- the next reading
pub pace_turn : (old mid new : Option (List ℕ)) (inbox : List ℕ) (requests : List Request) (room : ℕ) → KeepsPace old mid requests
    → Given old mid [] (λ given. Leads requests MOST_REQUESTS given room inbox) → 0 < room → Paced mid new inbox IsUnfinished → KeepsPace old new requests
pace_turn old mid new inbox requests room pace so_far some next = by next.holds
  where
    by : (next.before ++ next.piece ≡ []) ⊎ IsUnfinished (inbox ++ next.before) → KeepsPace old new requests
    by (inl nothing_read) =
        let none : Consumes mid new [] = subst (Consumes mid new) nothing_read next.consumed in
        record {
          before = pace.before;
          piece = pace.piece;
          consumed = subst (Consumes old new) (append-nil (pace.before ++ pace.piece)) (Consumes-trans old mid new (pace.before ++ pace.piece) [] pace.consumed none);
          small = pace.small;
          handled = pace.handled;
          more = pace.more;
          all = pace.all;
          holds = pace.holds;
        }
    by (inr unfinished) = record {
      before = so_far.bytes ++ next.before;
      piece = next.piece;
      consumed = subst (Consumes old new) (sym (append_assoc so_far.bytes next.before next.piece)) (Consumes-trans old mid new so_far.bytes (next.before ++ next.piece) so_far.consumed next.consumed);
      small = next.small;
      handled = requests;
      more = [];
      all = sym (append-nil requests);
      holds = all_split so_far.bytes next.before inbox requests room so_far.holds some unfinished;
    }
