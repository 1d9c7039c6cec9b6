-- What a lane that is not free says of its number.
use Rattle.std.proofs.Common.{◌≡◌, ◌≢◌, ℕ, ◌+◌, ◌<◌, ◌≤◌, true, length, sym, ap, ◌∙◌, subst, arith}
use mathlib.Core.Logic.{dite}
use mathlib.Core.Option.{some}
use native.Mathlib.Decide.{dec_lt}
use lib.ListN.{get_elem?}
use Rattle.fd_kinds.specs.Parts.{PartMeaning}
use Rattle.fd_kinds.specs.History.{IsSmall}
use Rattle.fd_shelf.specs.Books.{Shelved, all_parts}
use Rattle.fd_shelf.specs.Numbers.{IsIn}
use Rattle.fd_rule.specs.Tables.{TableState}
use Rattle.fd_rule.specs.View.{View}
use Rattle.fd_rule.specs.Rule.{free, LaneOk, owns, Entry, Ruled}
use Rattle.fd_rule.proofs.Stay.{below}
use Rattle.fd_rule.proofs.Sums.{sum_two}
use Rattle.fd_rule.proofs.Keep.{entry_is, by_stage, nth}

module _ (P : Type 0) (means : P → PartMeaning) (start : Shelved) (seats : ℕ) where
  abbrev Rule : TableState P → Type 0
  Rule = Ruled means start seats

  -- the own lane is free where it is known empty and nothing is in flight
  pub is_free : (s : TableState P) (r : Rule s) (id : ℕ) (v : View) → get_elem? s.views id ≡ some v → v.draws.empty ≡ true → v.draws.flight ≡ 0 → (id < seats) × (r.g.stage id ≡ free)
  is_free s r id v at empty rests = let d = r.draws.known id v at in let zero_now = d.empty empty in let here = below s.views id v at in let count = r.roster.count in let inside : id < seats = omega arith in let ok = r.lanes.ok id inside in (
    inside,
    by_stage (r.g.stage id ≡ free) (r.g.stage id) (λ e. e) (λ e. absurd (d.rests rests e))
        (λ e. let q = (subst (LaneOk means r.g.batch_of (r.g.lane id) (get_elem? s.homes (1 + id))) e ok).0 in absurd (omega arith))
        (λ e. let q = subst (LaneOk means r.g.batch_of (r.g.lane id) (get_elem? s.homes (1 + id))) e ok in absurd (omega arith)),
  )

  pub record Lying (s : TableState P) (r : Rule s) (k : ℕ) : Type 0 where
    pub view : View
    pub at : get_elem? s.views k ≡ some view
    pub some_word : 0 < r.g.lane k
    pub entry : Entry (r.g.lane k) view.draws.own
    pub above : start.mark < r.g.lane k
    pub under : r.g.lane k ≤ r.g.drawn
    pub small : IsSmall (r.g.batch_of (r.g.lane k))
    pub outside : IsIn (r.g.lane k) (all_parts r.g.book) → ⊥
    pub over : r.g.mark < r.g.lane k

  -- the number in a lane
  pub lies : (s : TableState P) (r : Rule s) (k : ℕ) → r.g.stage k ≢ free → 0 < r.g.lane k → Lying s r k
  lies s r k taken some_word = let t = nth s.views k (dite (dec_lt k (length s.views)) (λ yes. yes) (λ no. absurd (taken (r.lanes.unsplit k (omega arith))))) in let d = r.draws.known k t.0 t.1 in let l = d.lies some_word in let e = entry_is (r.g.lane k) t.0.draws.own l.0 d.own in let q = e.2 in let a = q.above in let b = q.below in let is = e.1 in record {
    view = t.0;
    at = t.1;
    some_word = some_word;
    entry = l.0;
    above = omega arith;
    under = omega arith;
    small = subst (λ x. IsSmall x) (sym q.rows ∙ ap r.g.batch_of is) q.small;
    outside = l.1;
    over = dite (dec_lt r.g.mark (r.g.lane k)) (λ yes. yes) (λ no. absurd (l.1 (r.booked.marked (r.g.lane k) some_word (omega arith))));
  }

  -- one number is not drawn by two seats
  pub apart : (s : TableState P) (r : Rule s) (j k n : ℕ) (v w : View) → j ≢ k → get_elem? s.views j ≡ some v → get_elem? s.views k ≡ some w → start.mark < n → Entry n v.draws.own → Entry n w.draws.own → ⊥
  apart s r j k n v w other a b above x y = let two = sum_two (owns n) s.views j k v w other a b in let one = r.counts.numbers n above in absurd (omega arith)

  pub flying_above : (s : TableState P) (r : Rule s) (j : ℕ) (v : View) → get_elem? s.views j ≡ some v → v.draws.flight ≢ 0 → start.mark < v.draws.flight
  flying_above s r j v at n = let d = r.draws.known j v at in let e = entry_is v.draws.flight v.draws.own (d.flies n).entry d.own in let a = e.2.above in let is = e.1 in omega arith
