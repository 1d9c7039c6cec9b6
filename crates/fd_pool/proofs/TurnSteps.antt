-- A turn that is taken and given back, on plain data.
use Rattle.std.proofs.Common.{◌≡◌, ℕ, zero, suc, ◌+◌, ◌-◌, ◌<◌, ◌≤◌, Bool, true, false, ◌||◌, ◌&&◌, eqb, eq-eqb, List, [], ◌∷◌, ◌++◌, sym, refl, ap, ◌∙◌, subst, inl, inr, arith, append_assoc, Result, Ok, Err, OnOk, IfOk, IfErr}
use mathlib.Core.List.{append-nil}
use Rattle.std.proofs.lemmas.Bool.{lt-ltb}
use Rattle.fd_kinds.specs.declared.limits.TheConstants.{MOST_NUMBERS}
use Rattle.fd_kinds.specs.History.{History}
use Rattle.fd_kinds.specs.Parts.{PartMeaning}
use Rattle.fd_kinds.specs.Stores.{Grows}
use Rattle.fd_shelf.specs.Books.{Book, Shelved, all_parts}
use Rattle.fd_shelf.specs.Histories.{hist, batch_at, batches_from}
use Rattle.fd_shelf.specs.Numbers.{Keeps}
use Rattle.fd_rule.specs.Kinds.TurnReturn.{MayReturn, SameRows, SealsUpto, given_of, with_given}
use Rattle.fd_rule.specs.Kinds.TurnTry.{with_book, with_refusal}
use Rattle.fd_rule.specs.Kinds.DrawnLoad.{with_drawn}
use Rattle.fd_rule.specs.Kinds.LaneLoad.{with_lane}
use Rattle.fd_rule.specs.Kinds.NumberDraw.{MayDraw}
use Rattle.fd_rule.specs.Lists.{AllUpto, In}
use Rattle.fd_rule.specs.Tables.{Seated}
use Rattle.fd_rule.specs.View.{View}
use Rattle.fd_rule.specs.declared.slot.SlotValue.{SlotValue}
use Rattle.fd_rule.specs.declared.slot.SlotValue.TheVariants.{Empty}
use Rattle.fd_pool.specs.Kept.{IsFree, Kept, with_history}
use Rattle.fd_pool.specs.Turns.{InHand, HasWaited, Turned, with_refusals}
use Rattle.fd_pool.proofs.DrawnRows.{taken_drawn}

pub grows_same : (history : History) → Grows history history
grows_same history = record { more = []; joined = sym (append-nil history) }

pub grows_then : (a b c : History) → Grows a b → Grows b c → Grows a c
grows_then a b c f g = record { more = f.more ++ g.more; joined = g.joined ∙ (ap (λ l. l ++ g.more) f.joined ∙ append_assoc a f.more g.more) }

pub keeps_same : (book : Book) → Keeps book book
keeps_same book = record { closed = λ block lo hi h. h; blocks = λ block n h. h; sealed = λ n h. h; numbers = λ n h. h }

pub keeps_then : (a b c : Book) → Keeps a b → Keeps b c → Keeps a c
keeps_then a b c k l = record {
  closed = λ block lo hi h. l.closed block lo hi (k.closed block lo hi h);
  blocks = λ block n h. l.blocks block n (k.blocks block n h);
  sealed = λ n h. l.sealed n (k.sealed n h);
  numbers = λ n h. l.numbers n (k.numbers n h);
}

-- a mark that was loaded before is at most one that is above all of them
pub in_upto : (mark w : ℕ) (ws : List ℕ) → In w ws → AllUpto mark ws → w ≤ mark
in_upto mark w [] h all = absurd h
in_upto mark w (x ∷ xs) (inl is) all = let low = all.0 in omega (arith, is, low)
in_upto mark w (x ∷ xs) (inr h) all = in_upto mark w xs h all.1

-- the turn was just taken
pub in_hand : {P : Type 0} (shelf : Shelved) (v : View) (m : Seated P) → m ≡ (with_book shelf v, (0, Empty) ∷ []) → InHand shelf m
in_hand {P} shelf v m is = subst (λ (x : Seated P). InHand shelf x) (sym is) record { holds = refl; hand = refl; book = refl; mark = refl; slots = refl }

-- the shelf is as it was taken
pub may_give_up : {P : Type 0} (shelf : Shelved) (m : Seated P) → InHand shelf m → MayReturn shelf m.0
may_give_up {P} shelf m r = record {
  holds = r.holds;
  hand = r.hand;
  mark = sym r.mark;
  rows = subst (λ (b : Book). SameRows b shelf.book) (sym r.book) record { history = λ n. refl; forth = λ n h. h; back = λ n h. h };
  keeps = subst (λ (b : Book). Keeps b shelf.book) (sym r.book) (keeps_same shelf.book);
  sealed = subst (λ (b : Book). SealsUpto m.0.pinning.raised b shelf.book) (sym r.book) (λ n h. inl h);
}

pub more_busy : {P : Type 0} (v : View) (busy : List ℕ) (h : ℕ) (m m' : Seated P) → m ≡ (with_refusals busy v, []) → m' ≡ (with_refusal h m.0, m.1) → (all : List ℕ) × (m' ≡ (with_refusals all v, []))
more_busy {P} v busy h m m' was is = (busy ++ h ∷ [], is ∙ ap (λ (x : Seated P). (with_refusal h x.0, x.1)) was ∙ ap (λ l. (record v { tries = record v.tries { refused = l } }, [])) (append_assoc v.tries.refused busy (h ∷ [])))

pub no_busy : {P : Type 0} (v : View) (slots : List (ℕ × SlotValue P)) → slots ≡ [] → (all : List ℕ) × ◌≡◌ {A = Seated P} (v, slots) (with_refusals all v, [])
no_busy {P} v slots none = ([], ap (λ (l : List (ℕ × SlotValue P)). (v, l)) none ∙ ap (λ l. (record v { tries = record v.tries { refused = l } }, [])) (sym (append-nil v.tries.refused)))

-- a turn that was waited for, and given back with some book
pub turned : {P : Type 0} (v : View) (shelf : Shelved) (m : Seated P) (book : Book) (w : HasWaited v shelf m) → hist book shelf.mark ≡ hist shelf.book shelf.mark → Turned v (given_of book m.0) (with_given book m.0)
turned {P} v shelf m book w same = subst (λ (x : Seated P). Turned v (given_of book x.0) (with_given book x.0)) (sym w.me) record {
  kept = record {
    grows = w.later.grows;
    seen = refl;
    own = refl;
    holds = taken_drawn shelf (with_refusals w.busy v) w.later;
    known = book ∷ shelf.book ∷ [];
    books = refl;
    turns = given_of book (with_book shelf (with_refusals w.busy v)) ∷ [];
    given = refl;
    busy = w.busy;
    refused = refl;
    place = refl;
    pinning = refl;
  };
  given = refl;
  seen = sym same;
  others = shelf.book ∷ v.books;
  book = refl;
}

-- .. leaves a seat free
pub turned_free : {P : Type 0} (v : View) (shelf : Shelved) (m m' : Seated P) (book : Book) (w : HasWaited v shelf m) → v.draws.flight ≡ 0 → m' ≡ (with_given book m.0, []) → IsFree m'
turned_free {P} v shelf m m' book w landed is = subst (λ (x : Seated P). IsFree x) (sym is) record { turn = refl; flight = ap (λ (x : Seated P). x.0.draws.flight) w.me ∙ landed; slots = refl }

pub kept_self : (v : View) → Kept v v
kept_self v = record { grows = grows_same v.seen.history; seen = refl; own = refl; holds = λ h. h; known = []; books = refl; turns = []; given = sym (append-nil v.tries.given); busy = []; refused = sym (append-nil v.tries.refused); place = refl; pinning = refl }

pub kept_lane : (v : View) (k n : ℕ) → Kept v (with_lane k n v)
kept_lane v k n = record { grows = grows_same v.seen.history; seen = refl; own = refl; holds = λ h. h; known = []; books = refl; turns = []; given = sym (append-nil v.tries.given); busy = []; refused = sym (append-nil v.tries.refused); place = refl; pinning = refl }

pub kept_refused : (v w : View) (h : ℕ) → w ≡ with_refusal h v → Kept v w
kept_refused v w h is = subst (λ x. Kept v x) (sym is) record { grows = grows_same v.seen.history; seen = refl; own = refl; holds = λ h. h; known = []; books = refl; turns = []; given = sym (append-nil v.tries.given); busy = h ∷ []; refused = refl; place = refl; pinning = refl }

-- calls one after another keep what each keeps
pub kept_then : (a b c : View) → Kept a b → Kept b c → Kept a c
kept_then a b c x y = record {
  grows = grows_then a.seen.history b.seen.history c.seen.history x.grows y.grows;
  seen = y.seen ∙ ap (λ k. with_history c.seen.history k) x.seen;
  own = y.own ∙ x.own;
  holds = λ h. y.holds (x.holds h);
  known = y.known ++ x.known;
  books = y.books ∙ (ap (λ z. y.known ++ z) x.books ∙ sym (append_assoc y.known x.known a.books));
  turns = x.turns ++ y.turns;
  given = y.given ∙ (ap (λ z. z ++ y.turns) x.given ∙ append_assoc a.tries.given x.turns y.turns);
  busy = x.busy ++ y.busy;
  refused = y.refused ∙ (ap (λ z. z ++ y.busy) x.refused ∙ append_assoc a.tries.refused x.busy y.busy);
  place = y.place ∙ x.place;
  pinning = y.pinning ∙ x.pinning;
}

pub ok_then : {A E X Y : Type 0} (r : Result A E) → (X → Y) → OnOk r X → OnOk r Y
ok_then (Ok a) f x = f x
ok_then (Err e) f x = tt

pub ok_both : {A E X Z Y : Type 0} (r : Result A E) → (X → Z → Y) → OnOk r X → OnOk r Z → OnOk r Y
ok_both (Ok a) f x z = f x z
ok_both (Err e) f x z = tt

pub if_ok_then : {A E : Type 0} {X Y : A → Type 0} (r : Result A E) → ((a : A) → X a → Y a) → IfOk r X → IfOk r Y
if_ok_then (Ok a) f x = f a x
if_ok_then (Err e) f x = tt

pub if_err_then : {A E : Type 0} {X Y : E → Type 0} (r : Result A E) → ((e : E) → X e → Y e) → IfErr r X → IfErr r Y
if_err_then (Ok a) f x = tt
if_err_then (Err e) f x = f e x

batches_split : (parts : List PartMeaning) (first a b : ℕ) → batches_from parts first (a + b) ≡ batches_from parts first a ++ batches_from parts (first + a) b
batches_split parts first zero b = let x : zero + b ≡ b = omega arith in let y : first + zero ≡ first = omega arith in ap (batches_from parts first) x ∙ sym (ap (λ z. batches_from parts z b) y)
batches_split parts first (suc a) b = let x : suc a + b ≡ suc (a + b) = omega arith in let y : first + suc a ≡ (first + 1) + a = omega arith in
    ap (batches_from parts first) x ∙ (ap (λ l. batch_at parts first ∷ l) (batches_split parts (first + 1) a b) ∙ sym (ap (λ z. (batch_at parts first ∷ batches_from parts (first + 1) a) ++ batches_from parts z b) y))

-- the history up to a greater mark begins with that up to a less one
pub hist_grows : (book : Book) (m n : ℕ) → m ≤ n → Grows (hist book m) (hist book n)
hist_grows book m n le = let e : n ≡ m + (n - m) = omega arith in record { more = batches_from (all_parts book) (1 + m) (n - m); joined = ap (batches_from (all_parts book) 1) e ∙ batches_split (all_parts book) 1 m (n - m) }

-- the seat has seen the history of the book that was given back
pub seen_now : {P : Type 0} (v new : View) (shelf : Shelved) (m : Seated P) (book : Book) (w : HasWaited v shelf m) → Turned v (given_of book m.0) new → hist book shelf.mark ≡ new.seen.history
seen_now {P} v new shelf m book w t = ap (λ (x : Seated P). hist book x.0.turn.mark) (sym w.me) ∙ sym t.seen

or_true : (a : Bool) → (a || true) ≡ true
or_true true = refl
or_true false = refl

-- a seat that finds its own lane at 0 knows that it is empty
pub own_empty : (v : View) (k n : ℕ) → k ≡ v.place.number → n ≡ 0 → (with_lane k n v).draws.empty ≡ true
own_empty v k n own none = ap (λ b. v.draws.empty || (b && eqb n 0)) (eq-eqb k v.place.number own) ∙ (ap (λ b. v.draws.empty || (true && b)) (eq-eqb n 0 none) ∙ or_true v.draws.empty)

-- a seat that loaded few numbers drawn may draw
pub may_draw : (v : View) (drawn : ℕ) → v.draws.empty ≡ true → v.draws.flight ≡ 0 → drawn < MOST_NUMBERS → MayDraw (with_drawn drawn v).draws
may_draw v drawn empty landed few = record { cleared = lt-ltb drawn MOST_NUMBERS few; empty = empty; landed = landed }
