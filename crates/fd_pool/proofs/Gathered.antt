-- Passes that are split off, made ready and joined, and the end of a pool, on plain data.
use Rattle.std.proofs.Common.{◌≡◌, ℕ, zero, suc, ◌+◌, ◌<◌, ◌≤◌, Bool, true, false, ◌||◌, cond, if◌then◌else◌, List, [], ◌∷◌, ◌++◌, eqb, ne_eqb, sym, refl, inl, inr, ap, ◌∙◌, subst, arith}
use mathlib.Core.List.{append-nil}
use mathlib.Core.Logic.{dite}
use native.Mathlib.Decide.{ℕ_discrete, dec_lt}
use Rattle.atomic_table.specs.Seated.{TableId}
use Rattle.fd_kinds.specs.History.{History}
use Rattle.fd_kinds.specs.Parts.{PartMeaning, IsPart}
use Rattle.fd_kinds.specs.Stores.{Grows, Written}
use Rattle.fd_shelf.specs.Books.{Book, Shelved, Waits, all_parts, settled_parts}
use Rattle.fd_shelf.specs.Books.{Each as AllOf}
use Rattle.fd_shelf.specs.Histories.{hist, batch_at, in_row_order}
use Rattle.fd_shelf.specs.Marks.{IsBook, end_of}
use Rattle.fd_shelf.specs.Numbers.{Holds, IsIn, Keeps}
use Rattle.fd_rule.specs.Closing.{IsClosed}
use Rattle.fd_rule.specs.Kinds.SeatJoin.{join_of}
use Rattle.fd_rule.specs.Kinds.SeatSplit.{split_right}
use Rattle.fd_rule.specs.Rule.{count_in, count_of, one_if, owns, seated, sum}
use Rattle.fd_rule.specs.Seats.{pass_view}
use Rattle.fd_rule.specs.View.{View}
use Rattle.fd_rule.specs.declared.pass.Pass.{Pass}
use Rattle.fd_pool.specs.Finishes.{AllKept, IsFinished, IsRested, absent_of, has_number}
use Rattle.fd_pool.specs.Gathers.{Gathers, HasSeen, IsEnded, IsOneOf, IsReady, books_of, numbers_of, owns_of}
use Rattle.fd_pool.specs.Kept.{Kept}
use Rattle.fd_pool.specs.Pools.{IsPassAt, views_of}
use Rattle.fd_pool.specs.Starts.{split_off, with_next}
use Rattle.fd_pool.proofs.Replaced.{any_back, each_front}
use Rattle.fd_pool.proofs.TurnSteps.{grows_then, hist_grows, kept_self, keeps_then}

pub split_more : (v : View) (n : ℕ) → split_off v n ++ split_right (with_next (v.place.next + n) v) ∷ [] ≡ split_off v (n + 1)
split_more v n = let e : suc n ≡ n + 1 = omega arith in ap (split_off v) e

pub views_end : (passes : List Pass) (pass : Pass) → views_of (passes ++ pass ∷ []) ≡ views_of passes ++ pass_view pass ∷ []
views_end [] pass = refl
views_end (p ∷ ps) pass = ap (λ vs. pass_view p ∷ vs) (views_end ps pass)

pub views_last : (passes : List Pass) (pass : Pass) (vs : List View) → views_of (passes ++ pass ∷ []) ++ vs ≡ views_of passes ++ pass_view pass ∷ vs
views_last [] pass vs = refl
views_last (p ∷ ps) pass vs = ap (λ ws. pass_view p ∷ ws) (views_last ps pass vs)

pub each_push : {A : Type 0} (K : A → Type 0) (xs : List A) (x : A) → AllOf K xs → K x → AllOf K (xs ++ x ∷ [])
each_push K [] x all k = (k, tt)
each_push K (y ∷ ys) x all k = (all.0, each_push K ys x all.1 k)

pub each_back : {A : Type 0} (K : A → Type 0) (xs ys : List A) → AllOf K (xs ++ ys) → AllOf K ys
each_back K [] ys all = all
each_back K (x ∷ xs) ys all = each_back K xs ys all.1

each_map : {A : Type 0} {K L : A → Type 0} (xs : List A) → ((x : A) → K x → L x) → AllOf K xs → AllOf L xs
each_map [] f all = tt
each_map (x ∷ xs) f all = (f x all.0, each_map xs f all.1)

each_both : {A : Type 0} {K L M : A → Type 0} (xs : List A) → ((x : A) → K x → L x → M x) → AllOf K xs → AllOf L xs → AllOf M xs
each_both [] f ks ls = tt
each_both (x ∷ xs) f ks ls = (f x ks.0 ls.0, each_both xs f ks.1 ls.1)

-- the last of a list is taken out
module _ (all left : List Pass) (pass : Pass) (is : all ≡ left ++ pass ∷ []) where
  pub of_left : (K : Pass → Type 0) → AllOf K all → AllOf K left
  of_left K h = each_front K left (pass ∷ []) (subst (λ l. AllOf K l) is h)

  pub of_last : (K : Pass → Type 0) → AllOf K all → K pass
  of_last K h = (each_back K left (pass ∷ []) (subst (λ l. AllOf K l) is h)).0

  pub first_taken : views_of all ≡ views_of left ++ pass_view pass ∷ []
  first_taken = ap views_of is ∙ views_end left pass

  pub more_taken : (vs : List View) → views_of all ++ vs ≡ views_of left ++ pass_view pass ∷ vs
  more_taken vs = ap (λ l. views_of l ++ vs) is ∙ views_last left pass vs

  pub views_left : (K : View → Type 0) → AllOf K (views_of all) → AllOf K (views_of left)
  views_left K h = each_front K (views_of left) (pass_view pass ∷ []) (subst (λ l. AllOf K l) first_taken h)

  pub view_last : (K : View → Type 0) → AllOf K (views_of all) → K (pass_view pass)
  view_last K h = (each_back K (views_of left) (pass_view pass ∷ []) (subst (λ l. AllOf K l) first_taken h)).0

pub all_kept_self : (vs : List View) → AllKept vs vs
all_kept_self [] = tt
all_kept_self (v ∷ vs) = (kept_self v, all_kept_self vs)

-- some of the passes were made ready
pub record Readying (table : TableId) (seats : ℕ) (passes left done : List Pass) (enough : Bool) : Type 0 where
  pub tail : List View
  pub cut : views_of passes ≡ views_of left ++ tail
  pub kept : AllKept tail (views_of done)
  pub left_passes : AllOf (IsPassAt table seats) left
  pub left_rested : AllOf IsRested (views_of left)
  pub passes_done : AllOf (IsPassAt table seats) done
  pub rested : AllOf IsRested (views_of done)
  pub ready : enough ≡ true → AllOf IsReady (views_of done)

pub readying_none : (table : TableId) (seats : ℕ) (passes done : List Pass) → done ≡ [] → AllOf (IsPassAt table seats) passes → AllOf IsRested (views_of passes) → Readying table seats passes passes done true
readying_none table seats passes done none are rested = subst (λ l. Readying table seats passes passes l true) (sym none) record {
  tail = [];
  cut = sym (append-nil (views_of passes));
  kept = tt;
  left_passes = are;
  left_rested = rested;
  passes_done = tt;
  rested = tt;
  ready = λ e. tt;
}

pub not_both : (b : Bool) → b ≡ false → b ≡ true → ⊥
not_both b isnt is = absurd (cc)

pub readying_more : (table : TableId) (seats : ℕ) (passes old left done done' : List Pass) (pass same : Pass) (enough is_ready enough' : Bool) → Readying table seats passes old done enough → old ≡ left ++ pass ∷ [] → done' ≡ same ∷ done
    → IsPassAt table seats same → Kept (pass_view pass) (pass_view same) → IsRested (pass_view same) → (is_ready ≡ true → IsReady (pass_view same)) → (enough' ≡ true → (enough ≡ true) × (is_ready ≡ true)) → Readying table seats passes left done' enough'
readying_more table seats passes old left done done' pass same enough is_ready enough' r is now here kept rested ready both = subst (λ l. Readying table seats passes left l enough') (sym now) record {
  tail = pass_view pass ∷ r.tail;
  cut = r.cut ∙ more_taken old left pass is r.tail;
  kept = (kept, r.kept);
  left_passes = of_left old left pass is (IsPassAt table seats) r.left_passes;
  left_rested = views_left old left pass is IsRested r.left_rested;
  passes_done = (here, r.passes_done);
  rested = (rested, r.rested);
  ready = λ e. let b = both e in (ready b.1, r.ready b.0);
}

pub readying_end : (table : TableId) (seats : ℕ) (passes left done : List Pass) (enough : Bool) → Readying table seats passes left done enough → left ≡ [] → AllKept (views_of passes) (views_of done)
readying_end table seats passes left done enough r none = subst (λ vs. AllKept vs (views_of done)) (sym (r.cut ∙ ap (λ l. views_of l ++ r.tail) none)) r.kept

pub gathers_one : (v : View) → IsReady v → Gathers (v ∷ []) v
gathers_one v ready = record { ready = ready; own = refl; books = refl; numbers = refl; seen = (inl refl, tt) }

pub gathers_more : (vs : List View) (v u : View) → Gathers vs v → IsReady u → Gathers (u ∷ vs) (join_of v u)
gathers_more vs v u g r = record {
  ready = record { rested = record { turn = g.ready.rested.turn; flight = g.ready.rested.flight; idles = g.ready.rested.idles }; empty = g.ready.empty };
  own = ap (λ l. l ++ u.draws.own) g.own;
  books = ap (λ l. l ++ u.books) g.books;
  numbers = ap (λ l. l ++ u.place.number ∷ u.place.joined) g.numbers;
  seen = (inr (inr (inl refl)), each_map vs (λ x h. still x.seen.history h) g.seen);
}
  where
    one_front : (h : History) (xs ys : List History) → IsOneOf h xs → IsOneOf h (xs ++ ys)
    one_front h [] ys is = absurd is
    one_front h (x ∷ xs) ys (inl e) = inl e
    one_front h (x ∷ xs) ys (inr is) = inr (one_front h xs ys is)

    still : (h : History) → HasSeen h v → HasSeen h (join_of v u)
    still h (inl e) = inr (inl e)
    still h (inr is) = inr (inr (inr (one_front h v.seen.others u.seen.others is)))

one_grows : (past h : History) (xs : List History) → AllOf (λ x. Grows x past) xs → IsOneOf h xs → Grows h past
one_grows past h [] all is = absurd is
one_grows past h (x ∷ xs) all (inl e) = subst (λ z. Grows z past) (sym e) all.0
one_grows past h (x ∷ xs) all (inr is) = one_grows past h xs all.1 is

count_append : (n : ℕ) (xs ys : List Written) → count_of n (xs ++ ys) ≡ count_of n xs + count_of n ys
count_append n [] ys = omega arith
count_append n (o ∷ os) ys = let h = count_append n os ys in omega (arith, h)

in_append : (n : ℕ) (xs ys : List ℕ) → count_in n (xs ++ ys) ≡ count_in n xs + count_in n ys
in_append n [] ys = omega arith
in_append n (x ∷ xs) ys = let h = in_append n xs ys in omega (arith, h)

count_has : (k : ℕ) (vs : List View) → has_number k vs ≡ true → 0 < count_in k (numbers_of vs)
count_has k [] h = absurd (cc)
count_has k (v ∷ vs) h = by_first (eqb v.place.number k) refl h (λ t. count_has k vs t)
  where
    by_first : (b : Bool) → eqb v.place.number k ≡ b → (b || has_number k vs) ≡ true → (has_number k vs ≡ true → 0 < count_in k (numbers_of vs)) → 0 < count_in k (numbers_of vs ++ v.place.number ∷ v.place.joined)
    by_first true is t rest = let o : one_if (eqb v.place.number k) ≡ 1 = ap one_if is in let e : count_in k (numbers_of vs ++ v.place.number ∷ v.place.joined) ≡ count_in k (numbers_of vs) + (one_if (eqb v.place.number k) + count_in k v.place.joined) = in_append k (numbers_of vs) (v.place.number ∷ v.place.joined) in omega arith
    by_first false is t rest = let c = rest t in let e : count_in k (numbers_of vs ++ v.place.number ∷ v.place.joined) ≡ count_in k (numbers_of vs) + (one_if (eqb v.place.number k) + count_in k v.place.joined) = in_append k (numbers_of vs) (v.place.number ∷ v.place.joined) in omega arith

abbrev one_absent : Bool → ℕ
one_absent b = if b then 0 else 1

none_absent : (seats k : ℕ) (vs : List View) → absent_of seats vs ≡ 0 → k < seats → has_number k vs ≡ true
none_absent zero k vs e h = absurd (omega arith)
none_absent (suc s) k vs e h = dite (ℕ_discrete k s)
    (λ is. subst (λ n. has_number n vs ≡ true) (sym is) (last_here (has_number s vs) (let z : absent_of s vs + one_absent (has_number s vs) ≡ 0 = e in omega arith)))
    (λ other. none_absent s k vs (let z : absent_of s vs + one_absent (has_number s vs) ≡ 0 = e in omega arith) (omega arith))
  where
    last_here : (b : Bool) → one_absent b ≡ 0 → b ≡ true
    last_here true z = refl
    last_here false z = absurd (omega arith)

pub all_seated : (seats : ℕ) (vs : List View) (v : View) → v.place.spent ≡ false → absent_of seats vs ≡ 0 → Gathers vs v → (k : ℕ) → k < seats → 0 < seated k v
all_seated seats vs v here none g k h = subst (λ b. 0 < cond b 0 (count_in k (v.place.number ∷ v.place.joined))) (sym here) (subst (λ l. 0 < count_in k l) (sym g.numbers) (count_has k vs (none_absent seats k vs none h)))

-- seats that keep what they should have the same numbers, drew the same, and know what they knew
kept_has : (k : ℕ) (vs ws : List View) → AllKept vs ws → has_number k ws ≡ has_number k vs
kept_has k [] [] all = refl
kept_has k [] (w ∷ ws) all = absurd all
kept_has k (v ∷ vs) [] all = absurd all
kept_has k (v ∷ vs) (w ∷ ws) all = ap (λ p. eqb p.number k || has_number k ws) all.0.place ∙ ap (λ b. eqb v.place.number k || b) (kept_has k vs ws all.1)

pub kept_absent : (seats : ℕ) (vs ws : List View) → AllKept vs ws → absent_of seats ws ≡ absent_of seats vs
kept_absent zero vs ws all = refl
kept_absent (suc k) vs ws all = ap (λ n. n + one_absent (has_number k ws)) (kept_absent k vs ws all) ∙ ap (λ b. absent_of k vs + one_absent b) (kept_has k vs ws all)

all_absent : (k : ℕ) → absent_of k [] ≡ k
all_absent zero = refl
all_absent (suc k) = let h = all_absent k in let z : absent_of (suc k) [] ≡ absent_of k [] + 1 = refl in omega (arith, h, z)

-- where there are seats and none is missing, there are passes
pub some_left : (seats : ℕ) (vs ws : List View) (passes : List Pass) → ws ≡ views_of passes → passes ≡ [] → AllKept vs ws → absent_of seats vs ≡ 0 → 0 < seats → ⊥
some_left seats vs ws passes are none kept here some = let e = kept_absent seats vs ws kept in let all = all_absent seats in
    let x : absent_of seats ws ≡ absent_of seats [] = ap (λ l. absent_of seats l) (are ∙ ap views_of none) in omega (arith, e, all, x, here, some)

kept_sum : (n : ℕ) (vs ws : List View) → AllKept vs ws → sum (owns n) ws ≡ sum (owns n) vs
kept_sum n [] [] all = refl
kept_sum n [] (w ∷ ws) all = absurd all
kept_sum n (v ∷ vs) [] all = absurd all
kept_sum n (v ∷ vs) (w ∷ ws) all = ap (λ own. count_of n own + sum (owns n) ws) all.0.own ∙ ap (λ m. owns n v + m) (kept_sum n vs ws all.1)

kept_back : {K L : View → Type 0} (vs ws : List View) → ((v w : View) → Kept v w → L w → K v) → AllKept vs ws → AllOf L ws → AllOf K vs
kept_back [] [] f all ls = tt
kept_back [] (w ∷ ws) f all ls = absurd all
kept_back (v ∷ vs) [] f all ls = absurd all
kept_back (v ∷ vs) (w ∷ ws) f all ls = (f v w all.0 ls.0, kept_back vs ws f all.1 ls.1)

own_sum : (n : ℕ) (vs : List View) → count_of n (owns_of vs) ≡ sum (owns n) vs
own_sum n [] = refl
own_sum n (v ∷ vs) = let h = own_sum n vs in let e : count_of n (owns_of vs ++ v.draws.own) ≡ count_of n (owns_of vs) + count_of n v.draws.own = count_append n (owns_of vs) v.draws.own in omega (arith, h, e)

all_owns : (K : Written → Type 0) (vs : List View) → AllOf K (owns_of vs) → AllOf (λ v. AllOf K v.draws.own) vs
all_owns K [] all = tt
all_owns K (v ∷ vs) all = (each_back K (owns_of vs) v.draws.own all, all_owns K vs (each_front K (owns_of vs) v.draws.own all))

all_books : (K : Book → Type 0) (vs : List View) → AllOf K (books_of vs) → AllOf (λ v. AllOf K v.books) vs
all_books K [] all = tt
all_books K (v ∷ vs) all = (each_back K (books_of vs) v.books all, all_books K vs (each_front K (books_of vs) v.books all))

pub finished : (start : Shelved) (vs ws : List View) (v : View) (shelf : Shelved) → AllKept vs ws → Gathers ws v → IsEnded start v shelf → IsFinished start vs shelf
finished start vs ws v shelf kept g e = record {
  began = e.began;
  once = λ n a b. sym (kept_sum n vs ws kept) ∙ (sym (own_sum n ws) ∙ (ap (count_of n) (sym g.own) ∙ e.once n a b));
  inside = kept_back vs ws (λ u w k h. subst (λ own. AllOf (λ o. (start.mark < o.number) × (o.number ≤ shelf.mark)) own) k.own h) kept (all_owns (λ o. (start.mark < o.number) × (o.number ≤ shelf.mark)) ws (subst (λ own. AllOf (λ o. (start.mark < o.number) × (o.number ≤ shelf.mark)) own) g.own e.inside));
  rows = kept_back vs ws (λ u w k h. subst (λ own. AllOf (λ o. batch_at (all_parts shelf.book) o.number ≡ in_row_order o.rows) own) k.own h) kept (all_owns (λ o. batch_at (all_parts shelf.book) o.number ≡ in_row_order o.rows) ws (subst (λ own. AllOf (λ o. batch_at (all_parts shelf.book) o.number ≡ in_row_order o.rows) own) g.own e.rows));
  seen = kept_back vs ws (λ u w k h. grows_then u.seen.history w.seen.history (hist shelf.book shelf.mark) k.grows h) kept (each_map ws (λ u h. one_grows (hist shelf.book shelf.mark) u.seen.history (v.seen.history ∷ v.seen.others) (e.seen, e.others) h) g.seen);
  kept = kept_back vs ws (λ u w k h. each_back (λ b. Keeps b shelf.book) k.known u.books (subst (λ bs. AllOf (λ b. Keeps b shelf.book) bs) k.books h)) kept (all_books (λ b. Keeps b shelf.book) ws (subst (λ bs. AllOf (λ b. Keeps b shelf.book) bs) g.books e.kept));
  alone = e.alone;
}

one_of : {K : Written → Type 0} (n : ℕ) (own : List Written) → 0 < count_of n own → AllOf K own → (o : Written) × (o.number ≡ n) × K o
one_of n [] h all = absurd (omega (arith, h))
one_of {K} n (o ∷ os) h (k, all) = dite (ℕ_discrete o.number n) (λ is. (o, is, k))
    (λ ne. let z : one_if (eqb o.number n) ≡ 0 = ap one_if (ne_eqb o.number n ne) in one_of n os (omega (arith, h, z)) all)

none : (new : Shelved) → IsBook new.book new.mark → (drawn : ℕ) → ((n : ℕ) → IsIn n (all_parts new.book) → n ≤ drawn) → drawn ≤ new.mark → (ws : List PartMeaning) → new.book.stragglers ≡ ws → new.book.stragglers ≡ []
none new order drawn held up [] is = is
none new order drawn held up (p ∷ ps) is = let waits = subst (λ l. Waits (end_of new.book) l) is order.well_formed.waiting in
    let are = subst (λ l. AllOf IsPart l) is (each_back IsPart (settled_parts new.book) new.book.stragglers order.well_formed.parts) in
    let here : IsIn p.lo (all_parts new.book) = any_back (Holds p.lo) (settled_parts new.book) new.book.stragglers (subst (λ l. IsIn p.lo l) (sym is) (inl (omega arith, are.0.ordered))) in
    let low = held p.lo here in let ends = order.ends in let above = waits.0 in absurd (omega (arith, low, ends, above, up))

-- the shelf of a table that has ended, whose mark advanced
pub ended : (start : Shelved) (v : View) (old new : Shelved) → IsClosed start v old → IsBook new.book new.mark → all_parts new.book ≡ all_parts old.book → old.mark ≤ new.mark → (IsIn (new.mark + 1) (all_parts new.book) → ⊥) → ((m : ℕ) → hist new.book m ≡ hist old.book m) → Keeps old.book new.book
    → ((n : ℕ) → 0 < n → n ≤ new.mark → IsIn n (all_parts new.book)) → IsEnded start v new
ended start v old new c order parts rises gap history keeps held = let low = c.low in
    let up : c.drawn ≤ new.mark = dite (dec_lt new.mark c.drawn)
    (λ yes. let once = c.once (new.mark + 1) (omega arith) (omega arith) in let t = one_of (new.mark + 1) v.draws.own (omega (arith, once)) c.inside in absurd (gap (subst (λ n. IsIn n (all_parts new.book)) t.1 (subst (λ ps. IsIn t.0.number ps) (sym parts) t.2))))
    (λ no. omega arith) in
    let down : new.mark ≤ c.drawn = dite (dec_lt c.drawn new.mark) (λ yes. c.held new.mark (subst (λ ps. IsIn new.mark ps) parts (held new.mark (omega arith) (omega arith)))) (λ no. omega arith) in
    let more : Grows (hist old.book old.mark) (hist new.book new.mark) = subst (λ h. Grows h (hist new.book new.mark)) (history old.mark) (hist_grows new.book old.mark new.mark rises) in record {
      began = grows_then (hist start.book start.mark) (hist old.book old.mark) (hist new.book new.mark) c.began more;
      seen = grows_then v.seen.history (hist old.book old.mark) (hist new.book new.mark) c.seen more;
      others = each_map v.seen.others (λ h q. grows_then h (hist old.book old.mark) (hist new.book new.mark) q more) c.others;
      once = λ n a b. c.once n a (omega (arith, b, down));
      inside = each_both v.draws.own (λ o a h. let x = c.held o.number h in (a, omega (arith, x, up))) c.above c.inside;
      rows = each_map v.draws.own (λ o e. ap (λ ps. batch_at ps o.number) parts ∙ e) c.rows;
      kept = each_map v.books (λ b k. keeps_then b old.book new.book k keeps) c.kept;
      alone = none new order c.drawn (λ n h. c.held n (subst (λ ps. IsIn n ps) parts h)) up new.book.stragglers refl;
    }
