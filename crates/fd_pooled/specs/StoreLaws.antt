-- What the calls of a store that many share tell as those of any store.
use Rattle.std.proofs.Common.{◌≡◌, ℕ, ◌+◌, ◌-◌, ◌<◌, ◌≤◌, List, [], ◌∷◌, ◌++◌, length, Result, Ok, Err, Option, IfSome, refl, sym, ap, ◌∙◌, subst, inl, inr, arith, append_assoc}
use Rattle.std.proofs.lemmas.Option.{slice_get_past}
use mathlib.Core.List.{append-nil}
use Rattle.fd_kinds.specs.declared.row.Row.{Row}
use Rattle.fd_kinds.specs.declared.query.Query.{Query}
use Rattle.fd_kinds.specs.declared.store.WriteRefusal.{WriteRefusal}
use Rattle.fd_kinds.specs.declared.store.WriteRefusal.TheVariants as write
use Rattle.fd_kinds.specs.declared.store.ReadRefusal.{ReadRefusal}
use Rattle.fd_kinds.specs.declared.store.ReadRefusal.TheVariants as read
use Rattle.fd_kinds.specs.declared.store.Seen.{Seen}
use Rattle.fd_kinds.specs.declared.stand.Stand.{Stand}
use Rattle.fd_kinds.specs.History.{History}
use Rattle.fd_kinds.specs.Stores.{Grows, Holds, ReadFacts, StandFacts, Tops, WriteFacts, Written}
use Rattle.fd_shelf.specs.Histories.{in_row_order}
use Rattle.fd_rule.specs.Lists.{AllUpto, In}
use Rattle.fd_rule.specs.Lists.{Tops as IsAbove}
use Rattle.fd_rule.specs.View.{Knowledge, View}
use Rattle.fd_pool.specs.Kept.{HasDrawn, Kept, in_order}
use Rattle.fd_pool.specs.Sweeps.{HasSwept}
use Rattle.fd_pool.specs.Writes.{Took}
use Rattle.fd_pool.specs.declared.sweeps.Sweep.{Sweep}
use Rattle.fd_pool.specs.declared.sweeps.Sweep.TheVariants.{Swept, Busy, NoMemory}
use Rattle.fd_pooled.specs.Calls.{HasWritten, PooledReads, PooledStands, PooledWrites}
use Rattle.fd_pooled.specs.Pooling.{PooledView, most, seen_by}
use Rattle.fd_pooled.specs.Steps.{Later}

grows_same : (history : History) → Grows history history
grows_same history = record { more = []; joined = sym (append-nil history) }

grows_then : (a b c : History) → Grows a b → Grows b c → Grows a c
grows_then a b c f g = record { more = f.more ++ g.more; joined = g.joined ∙ (ap (λ l. l ++ g.more) f.joined ∙ append_assoc a f.more g.more) }

most_more : (xs ys : List ℕ) → most xs ≤ most (xs ++ ys)
most_more [] ys = omega arith
most_more (x ∷ xs) ys = let h = most_more xs ys in omega (arith, h)

most_upto : (m : ℕ) (xs : List ℕ) → AllUpto m xs → most xs ≤ m
most_upto m [] all = omega arith
most_upto m (x ∷ xs) (low, all) = let h = most_upto m xs all in omega (arith, low, h)

-- one of the numbers behind others is at most the greatest
most_in : (w : ℕ) (xs ys : List ℕ) → In w ys → w ≤ most (xs ++ ys)
most_in w [] [] none = absurd none
most_in w [] (y ∷ ys) (inl is) = omega (arith, is)
most_in w [] (y ∷ ys) (inr more) = let h = most_in w [] ys more in omega (arith, h)
most_in w (x ∷ xs) ys here = let h = most_in w xs ys here in omega (arith, h)

pub in_last : (w : ℕ) (xs : List ℕ) → In w (xs ++ w ∷ [])
in_last w [] = inl refl
in_last w (x ∷ xs) = inr (in_last w xs)

-- the last of numbers that are all at most m
last_upto : (m : ℕ) (xs : List ℕ) (x : ℕ) → AllUpto m (xs ++ x ∷ []) → x ≤ m
last_upto m [] x all = all.0
last_upto m (y ∷ xs) x all = last_upto m xs x all.1

least_later : (old new : View) → Later old new → most old.seen.marks ≤ most new.seen.marks
least_later old new later = let e = ap most later.marked in let h = most_more old.seen.marks later.marks in omega (arith, e, h)

in_order_more : (own : List Written) (o : Written) → in_order (own ++ o ∷ []) ≡ in_order own ++ in_order (o ∷ [])
in_order_more [] o = refl
in_order_more (x ∷ xs) o = ap (λ l. record { number = x.number; rows = in_row_order x.rows } ∷ l) (in_order_more xs o)

tops : (number : ℕ) (own : List Written) → IsAbove number own → Tops number (in_order own)
tops number [] above = tt
tops number (o ∷ os) above = (above.0, tops number os above.1)

-- a batch whose number is above the history
holds_more : (history : History) (own : List Written) (o : Written) → 0 < o.number → length history < o.number → Holds history own → Holds history (own ++ o ∷ [])
holds_more history [] o some unseen all = ((some, subst (λ (b : Option (List Row)). IfSome b (λ rows. rows ≡ o.rows)) (sym (slice_get_past history (o.number - 1) (omega (arith, unseen)))) tt), tt)
holds_more history (x ∷ xs) o some unseen all = (all.0, holds_more history xs o some unseen all.1)

-- a number that was drawn
drawn_more : (ready landed : View) (rows : List Row) (number : ℕ) → Took ready rows number landed → HasDrawn ready → HasDrawn landed
drawn_more ready landed rows number t before = subst (λ (v : View). HasDrawn v) (sym t.becomes)
    (subst (λ l. Holds ready.seen.history l) (sym (in_order_more ready.draws.own (record { number = number; rows = rows })))
    (holds_more ready.seen.history (in_order ready.draws.own) (record { number = number; rows = in_row_order rows }) t.some t.unseen before))

-- what a sweep keeps of what the store is seen as
record Sweeps (old new : View) : Type 0 where
  grows : Grows old.seen.history new.seen.history
  own : new.draws.own ≡ old.draws.own
  marks : new.seen.marks ≡ old.seen.marks
  holds : HasDrawn old → HasDrawn new

kept_sweeps : (old new : View) → Kept old new → Sweeps old new
kept_sweeps old new k = record { grows = k.grows; own = k.own; marks = ap (λ (e : Knowledge). e.marks) k.seen; holds = k.holds }

sweeps : (seats : ℕ) (old : View) (sweep : Sweep) (new : View) → HasSwept seats old sweep new → Sweeps old new
sweeps seats old (Swept mark) new s = kept_sweeps old new s.1.turned.kept
sweeps seats old (Busy holder) new s = subst (λ (v : View). Sweeps old v) (sym s) record { grows = grows_same old.seen.history; own = refl; marks = refl; holds = λ h. h }
sweeps seats old NoMemory new s = kept_sweeps old new s.1.turned.kept

wrote : (seats : ℕ) (old : View) (rows : List Row) (number : ℕ) (new : View) → HasWritten seats old rows number new
    → (Grows old.seen.history new.seen.history) × (in_order new.draws.own ≡ in_order old.draws.own ++ record { number = number; rows = rows } ∷ []) × Tops number (in_order old.draws.own) × (new.seen.marks ≡ old.seen.marks) × (HasDrawn old → HasDrawn new)
wrote seats old rows number new w = let a = kept_sweeps old w.ready w.waited in let b = sweeps seats w.landed w.sweep new w.swept in let t = w.took in (
  grows_then old.seen.history w.ready.seen.history new.seen.history a.grows (subst (λ (h : History). Grows h new.seen.history) (ap (λ (v : View). v.seen.history) t.becomes) b.grows),
  ap in_order (b.own ∙ ap (λ (v : View). v.draws.own) t.becomes) ∙ (in_order_more w.ready.draws.own (record { number = number; rows = rows })
      ∙ (ap (λ l. in_order l ++ record { number = number; rows = in_row_order rows } ∷ []) a.own ∙ ap (λ rs. in_order old.draws.own ++ record { number = number; rows = rs } ∷ []) w.sorted)),
  tops number old.draws.own (subst (λ (l : List Written). IsAbove number l) a.own t.above),
  b.marks ∙ (ap (λ (v : View). v.seen.marks) t.becomes ∙ a.marks),
  λ h. b.holds (drawn_more w.ready w.landed rows number t (a.holds h)),
)

pub pooled_write : (old : PooledView) (rows : List Row) (result : Result ℕ WriteRefusal) (new : PooledView) → PooledWrites old rows result new → WriteFacts (seen_by old) rows result (seen_by new)
pooled_write old rows (Ok number) new (same, w) = let t = wrote old.seats old.view rows number new.view w in let e = ap most t.3 in record { grows = t.0; own = t.1; spent = tt; rises = t.2; least = omega (arith, e); holds = t.4 }
pooled_write old rows (Err (write.Spent drawn)) new (same, w) = let a = kept_sweeps old.view w.ready w.waited in let s = w.spent in let marks : new.view.seen.marks ≡ old.view.seen.marks = ap (λ (v : View). v.seen.marks) s.becomes ∙ a.marks in let e = ap most marks in let low = most_upto drawn old.view.seen.marks (subst (AllUpto drawn) a.marks s.loaded.marks) in record {
  grows = subst (λ (v : View). Grows old.view.seen.history v.seen.history) (sym s.becomes) a.grows;
  own = ap in_order (ap (λ (v : View). v.draws.own) s.becomes ∙ a.own);
  spent = (s.many, low);
  rises = tt;
  least = omega (arith, e);
  holds = λ h. subst (λ (v : View). HasDrawn v) (sym s.becomes) (a.holds h);
}
pooled_write old rows (Err write.DiskFault) new (same, never) = absurd never
pooled_write old rows (Err write.NoMemory) new (same, k) = let a = kept_sweeps old.view new.view k in let e = ap most a.marks in record { grows = a.grows; own = ap in_order a.own; spent = tt; rises = tt; least = omega (arith, e); holds = a.holds }

pub pooled_read : (old : PooledView) (after : ℕ) (query : Query) (result : Result Seen ReadRefusal) (new : PooledView) → PooledReads old after query result new → ReadFacts (seen_by old) after query result (seen_by new)
pooled_read old after query (Ok seen) new (same, r) = let later = r.passes.later in let e = ap most r.loaded in let high = most_in seen.watermark old.view.seen.marks (r.before ++ seen.watermark ∷ []) (in_last seen.watermark r.before) in record {
  grows = later.grows;
  own = ap in_order r.passes.own;
  answers = (r.low, r.reaches, r.means);
  climbs = (most_upto seen.watermark old.view.seen.marks r.high, omega (arith, e, high));
  holds = later.holds;
}
pooled_read old after query (Err (read.NotDrawn drawn)) new (same, r) = let e = ap (λ (v : View). most v.seen.marks) r.becomes in record {
  grows = subst (λ (v : View). Grows old.view.seen.history v.seen.history) (sym r.becomes) (grows_same old.view.seen.history);
  own = ap (λ (v : View). in_order v.draws.own) r.becomes;
  answers = (r.below, most_upto drawn old.view.seen.marks r.loaded.marks);
  climbs = omega (arith, e);
  holds = λ h. subst (λ (v : View). HasDrawn v) (sym r.becomes) h;
}
pooled_read old after query (Err read.NoMemory) new (same, r) = record { grows = r.passes.later.grows; own = ap in_order r.passes.own; answers = tt; climbs = least_later old.view new.view r.passes.later; holds = r.passes.later.holds }

pub pooled_stand : (old : PooledView) (stand : Stand) (new : PooledView) → PooledStands old stand new → StandFacts (seen_by old) stand (seen_by new)
pooled_stand old stand new (same, s) = let w = s.watermark in let d = s.drawn in let marks : new.view.seen.marks ≡ old.view.seen.marks ++ stand.watermark ∷ [] = ap (λ (v : View). v.seen.marks) s.becomes in let e = ap most marks in let high = most_in stand.watermark old.view.seen.marks (stand.watermark ∷ []) (inl refl) in record {
  grows = subst (λ (v : View). Grows old.view.seen.history v.seen.history) (sym s.becomes) (grows_same old.view.seen.history);
  own = ap (λ (v : View). in_order v.draws.own) s.becomes;
  synced = last_upto stand.watermark old.view.seen.synceds stand.synced w.synceds;
  drawn = last_upto stand.drawn old.view.seen.marks stand.watermark d.marks;
  least = most_upto stand.watermark old.view.seen.marks w.marks;
  kept = omega (arith, e, high);
  holds = λ h. subst (λ (v : View). HasDrawn v) (sym s.becomes) h;
}
