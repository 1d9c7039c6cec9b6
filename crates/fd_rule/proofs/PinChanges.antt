-- What becomes of the pins when one view changes.
use Rattle.std.proofs.Common.{◌≡◌, ℕ, ◌+◌, ◌<◌, ◌≤◌, List, [], ◌∷◌, ◌++◌, length, set, min, sym, refl, subst, arith, inl, inr, length-append}
use mathlib.Core.Option.{some}
use lib.ListN.{get_elem?}
use Rattle.fd_rule.specs.Kinds.TurnTry.{Below}
use Rattle.fd_rule.specs.Lists.{In}
use Rattle.fd_rule.specs.Rule.{PinOk, PinningOk, Pins}
use Rattle.fd_rule.specs.View.{IDLE, NONE, PinState, idle, arriving, settled, Pinning, View, loaded, no_pinning}
use Rattle.fd_rule.proofs.Stay.{below, moves, same, grows}
use Rattle.fd_rule.proofs.Sets.{put, put_both, length_set}

module _ {mark floor : ℕ} {pin pinned : ℕ → ℕ} {vs : List View} (r : Pins mark floor pin pinned vs) where
  pub pins_same : (id : ℕ) (v w : View) → get_elem? vs id ≡ some v → w.pinning ≡ v.pinning → Pins mark floor pin pinned (set vs id w)
  pins_same id v w at e = record { below = r.below; kept = r.kept; beyond = λ k h. let n = length_set vs id w in r.beyond k (omega (arith, h, n)); rests = same id w v at e r.rests }

  pub pins_up : (up : ℕ) → mark ≤ up → Pins up floor pin pinned vs
  pins_up up le = record { below = r.below; kept = r.kept; beyond = r.beyond; rests = record { known = λ j v at. let k = r.rests.known j v at in let l = k.low in record { state = k.state; low = omega (arith, l, le); passed = k.passed; raised = k.raised } } }

  -- how the seat stands is as before, and the floor rises or stays
  pub pins_scan : (id up : ℕ) (v w : View) → get_elem? vs id ≡ some v → floor ≤ up → ((k : ℕ) → up ≤ pinned k) → PinningOk mark up pin pinned id w.pinning → Pins mark up pin pinned (set vs id w)
  pins_scan id up v w at le kept mine = record {
    below = r.below;
    kept = kept;
    beyond = λ k h. let n = length_set vs id w in r.beyond k (omega (arith, h, n));
    rests = moves id w mine (λ j x other at k. let l = k.raised in record { state = k.state; low = k.low; passed = k.passed; raised = omega (arith, l, le) }) r.rests;
  }

  -- the seat stands otherwise, its word is x, and it may rest on y at least
  pub pins_stand : (id x y : ℕ) (v w : View) (new : Pinning) → get_elem? vs id ≡ some v → w.pinning ≡ new → floor ≤ mark → PinOk x y new.state → x ≤ y → floor ≤ y → ((l : ℕ) → l ≤ mark → l ≤ pinned id → l ≤ y)
      → new.limit ≤ mark → ((k : ℕ) → k < new.next → new.limit ≤ pinned k) → new.raised ≤ floor
      → Pins mark floor (put pin id x) (put pinned id y) (set vs id w)
  pins_stand id x y v w new at e low stands xy floor_y keep limit_low passed raised = let inside = below vs id v at in let n = length_set vs id w in
      let keep_all : (l k : ℕ) → l ≤ mark → l ≤ pinned k → l ≤ put pinned id y k =
      λ l k low h. put_both (λ k a b. l ≤ b) pinned pinned id y y k (λ e. keep l low (subst (λ z. l ≤ pinned z) e h)) (λ _. h) in record {
        below = λ k. put_both (λ k a b. a ≤ b) pin pinned id x y k (λ _. xy) (λ _. r.below k);
        kept = λ k. keep_all floor k low (r.kept k);
        beyond = λ k h. put_both (λ k a b. (a ≡ IDLE) × (b ≡ NONE)) pin pinned id x y k (λ e. absurd (omega (arith, h, n, e, inside))) (λ _. r.beyond k (omega (arith, h, n)));
        rests = moves id w
            (subst (PinningOk mark floor (put pin id x) (put pinned id y) id) (sym e) record { state = put_both (λ k a b. PinOk a b new.state) pin pinned id x y id (λ _. stands) (λ ne. absurd (ne refl)); low = limit_low; passed = λ k h. keep_all new.limit k limit_low (passed k h); raised = raised })
            (λ j p other q known. record { state = put_both (λ k a b. PinOk a b p.pinning.state) pin pinned id x y j (λ e. absurd (other e)) (λ _. known.state); low = known.low; passed = λ k h. keep_all p.pinning.limit k known.low (known.passed k h); raised = known.raised })
            r.rests;
      }

  pub at_stand : (id : ℕ) (v : View) (state : PinState) → get_elem? vs id ≡ some v → v.pinning.state ≡ state → PinOk (pin id) (pinned id) state
  at_stand id v state at e = subst (PinOk (pin id) (pinned id)) e (r.rests.known id v at).state

  in_one : (w x : ℕ) (ws : List ℕ) (y : ℕ) → y ≤ x → ((z : ℕ) → In z ws → y ≤ z) → In w (x ∷ ws) → y ≤ w
  in_one w x ws y low all (inl e) = omega (arith, low, e)
  in_one w x ws y low all (inr h) = all w h

  -- a seat that arrives has loaded the mark
  pub pins_load : (id m limit next : ℕ) (v w : View) → get_elem? vs id ≡ some v → m ≡ mark → floor ≤ mark → limit ≤ mark → ((k : ℕ) → k < next → limit ≤ pinned k)
      → (state : PinState) → v.pinning.state ≡ state → w.pinning ≡ record { state = loaded m state; limit = limit; next = next; raised = v.pinning.raised; pins = v.pinning.pins }
      → (q : ℕ → ℕ) × Pins mark floor (put pin id (pin id)) q (set vs id w)
  pins_load id m limit next v w at is low limit_low passed idle e new = let up = (r.rests.known id v at).raised in
      (put pinned id (pinned id), pins_stand id (pin id) (pinned id) v w (record { state = idle; limit = limit; next = next; raised = v.pinning.raised; pins = v.pinning.pins }) at new low (at_stand id v idle at e) (r.below id) (r.kept id) (λ l _ h. h) limit_low passed up)
  pins_load id m limit next v w at is low limit_low passed (settled x) e new = let up = (r.rests.known id v at).raised in
      (put pinned id (pinned id), pins_stand id (pin id) (pinned id) v w (record { state = settled x; limit = limit; next = next; raised = v.pinning.raised; pins = v.pinning.pins }) at new low (at_stand id v (settled x) at e) (r.below id) (r.kept id) (λ l _ h. h) limit_low passed up)
  pins_load id m limit next v w at is low limit_low passed (arriving ws) e new = let up = (r.rests.known id v at).raised in let old = at_stand id v (arriving ws) at e in let zero_pin = old.0 in let k = r.kept id in let y : ℕ = min (pinned id) mark in
      (put pinned id y, pins_stand id (pin id) y v w (record { state = arriving (m ∷ ws); limit = limit; next = next; raised = v.pinning.raised; pins = v.pinning.pins }) at new low (zero_pin, λ w h. in_one w m ws y (omega (arith, is)) (λ z g. let b = old.1 z g in omega (arith, b)) h) (omega (arith, zero_pin)) (omega (arith, k, low)) (λ l low h. omega (arith, low, h)) limit_low passed up)

  below_stand : (x pin pinned : ℕ) (state : PinState) → x ≤ pinned → PinOk pin pinned state → Below x state
  below_stand x pin pinned idle le ok = tt
  below_stand x pin pinned (arriving ws) le ok = λ w h. let b = ok.1 w h in omega (arith, le, b)
  below_stand x pin pinned (settled w) le ok = let b = ok.1 in omega (arith, le, b)

  -- what is at most the floor is at most each watermark that the seat may rest on
  pub below_pin : (x id : ℕ) (v : View) → get_elem? vs id ≡ some v → x ≤ floor → Below x v.pinning.state
  below_pin x id v at le = let k = r.kept id in below_stand x (pin id) (pinned id) v.pinning.state (omega (arith, k, le)) (r.rests.known id v at).state

  pub pins_grow : (o : View) → o.pinning ≡ no_pinning → Pins mark floor pin pinned (vs ++ o ∷ [])
  pins_grow o e = let n : length (vs ++ o ∷ []) ≡ length vs + 1 = length-append vs (o ∷ []) in let free = r.beyond (length vs) (omega arith) in
      record { below = r.below; kept = r.kept; beyond = λ k h. r.beyond k (omega (arith, h, n)); rests = grows o (subst (PinningOk mark floor pin pinned (length vs)) (sym e) record { state = free; low = omega arith; passed = λ k h. absurd (omega (arith, h)); raised = omega arith }) r.rests }
