-- The steps of a seat's own pin keep the rule, and those of a scan.
use Rattle.std.proofs.Common.{◌≡◌, ℕ, ◌+◌, ◌*◌, ◌<◌, false, set, sym, refl, ap, ◌∙◌, subst, arith}
use mathlib.Core.Logic.{dite}
use mathlib.Core.Option.{none}
use native.Mathlib.Decide.{ℕ_discrete}
use Rattle.atomic_table.specs.Table.{step, keeps, Allows}
use Rattle.fd_kinds.specs.Parts.{PartMeaning}
use Rattle.fd_shelf.specs.Books.{Shelved}
use Rattle.fd_shelf.specs.Histories.{hist}
use Rattle.fd_rule.specs.Tables.{TableState, Seated, Sits, after, word}
use Rattle.fd_rule.specs.View.{IDLE, NONE, idle, arriving, settled, TurnView, Draws, Knowledge, View}
use Rattle.fd_rule.specs.Rule.{Drawing, Hands, Saw, Kept, Pins, Ruled}
use Rattle.fd_rule.proofs.Stay.{below}
use Rattle.fd_rule.proofs.Sets.{put, load, store_pin}
use Rattle.fd_rule.proofs.PinChanges.{pins_scan, pins_stand, at_stand}
use Rattle.fd_rule.proofs.Keep.{room_same, looks}
use Rattle.fd_rule.specs.Kinds.PinArrival.{with_arrival}
use Rattle.fd_rule.specs.Kinds.PinArrival.{Happens as Arrives, told as arrival_told}
use Rattle.fd_rule.specs.Kinds.PinSettlement.{MaySettle, with_pin}
use Rattle.fd_rule.specs.Kinds.PinSettlement.{Happens as Settles, told as settlement_told}
use Rattle.fd_rule.specs.Kinds.PinDeparture.{without_pin}
use Rattle.fd_rule.specs.Kinds.PinDeparture.{Happens as Departs, told as departure_told}
use Rattle.fd_rule.specs.Kinds.PinScan.{with_passed}
use Rattle.fd_rule.specs.Kinds.PinScan.{Happens as Scans, told as scan_told}

module _ (P : Type 0) (means : P → PartMeaning) (start : Shelved) (seats : ℕ) where
  abbrev Rule : TableState P → Type 0
  Rule = Ruled means start seats

  inside_of : (s : TableState P) (r : Rule s) (id : ℕ) (v : View) → Sits s id v → id < seats
  inside_of s r id v sits = let a = below s.views id v sits.at in let b = r.roster.count in omega arith

  -- a store to the own pin word
  stores_pin : (s : TableState P) (r : Rule s) (id : ℕ) (v w : View) (x y : ℕ) → Sits s id v → w.place ≡ v.place → w.turn ≡ v.turn → w.draws ≡ v.draws → w.seen ≡ v.seen → w.books ≡ v.books → Pins r.g.mark r.g.floor (put r.g.pin id x) (put r.g.pinned id y) (set s.views id w)
      → Rule (after s (2 * id + 6) x s.homes id w)
  stores_pin s r id v w x y sits same_place same_turn same_draws same_seen same_books pins = let at = sits.at in
      looks P means start seats s r id v w (set s.words (2 * id + 6) x) (put r.g.pin id x) (put r.g.pinned id y) at sits.live same_place (ap (λ (x : TurnView). x.holds) same_turn) (ap (λ (x : Draws). x.own) same_draws) (ap (λ (x : Knowledge). x.announced) same_seen)
      (room_same id v w at r.counts (ap (λ (x : Draws). x.cleared) same_draws)) (store_pin r.words id x (inside_of s r id v sits))
      (subst (Drawing start.mark r.g.drawn r.g.book r.g.batch_of r.g.lane r.g.stage id) (sym same_draws) (r.draws.known id v at))
      (subst (Hands seats r.g.taken r.g.mark r.g.book r.g.batch_of r.g.lane r.g.stage id) (sym same_turn) (r.hands.known id v at))
      (subst (Saw r.g.drawn r.g.mark r.g.synced (hist r.g.book r.g.mark) id) (sym same_seen) (r.saw.known id v at))
      (subst (Kept r.g.book id) (sym same_books) (r.kept.known id v at)) pins

  keeps_arrival : (s : TableState P) (r : Rule s) (id : ℕ) (v : View) → Sits s id v → v.pinning.state ≡ idle → Rule (after s (2 * id + 6) 0 s.homes id (with_arrival v))
  keeps_arrival s r id v sits idles = let old = at_stand r.pins id v idle sits.at idles in let k = r.pins.rests.known id v sits.at in let a = r.order.floor_low in let b = r.order.marks_drawn in let c = r.order.small in
      stores_pin s r id v (with_arrival v) 0 NONE sits refl refl refl refl refl
      (pins_stand r.pins id 0 NONE v (with_arrival v) (with_arrival v).pinning sits.at refl a (refl, λ w h. absurd h) (omega arith) (omega arith) (λ l low h. omega (arith, low)) k.low k.passed k.raised)

  keeps_settlement : (w : ℕ) (s : TableState P) (r : Rule s) (id : ℕ) (v : View) → Sits s id v → MaySettle w v.pinning.state → Rule (after s (2 * id + 6) w s.homes id (with_pin w v))
  keeps_settlement w s r id v sits may = let old = at_stand r.pins id v (arriving may.marks) sits.at may.arrives in let low = old.1 w may.loaded in let f = r.pins.kept id in let k = r.pins.rests.known id v sits.at in
      stores_pin s r id v (with_pin w v) w w sits refl refl refl refl refl
      (pins_stand r.pins id w w v (with_pin w v) (with_pin w v).pinning sits.at refl r.order.floor_low (refl, refl) (omega arith) (omega arith) (λ l _ h. omega (arith, h, low)) k.low k.passed k.raised)

  keeps_departure : (pin : ℕ) (s : TableState P) (r : Rule s) (id : ℕ) (v : View) → Sits s id v → v.pinning.state ≡ settled pin → Rule (after s (2 * id + 6) IDLE s.homes id (without_pin v))
  keeps_departure pin s r id v sits pinned = let k = r.pins.rests.known id v sits.at in let a = r.order.floor_low in let b = r.order.marks_drawn in let c = r.order.small in
      stores_pin s r id v (without_pin v) IDLE NONE sits refl refl refl refl refl
      (pins_stand r.pins id IDLE NONE v (without_pin v) (without_pin v).pinning sits.at refl a (refl, refl) (omega arith) (omega arith) (λ l low h. omega (arith, low)) k.low k.passed k.raised)

  keeps_scan : (n : ℕ) (s : TableState P) (r : Rule s) (id : ℕ) (v : View) → Sits s id v → v.pinning.next ≡ n → n < seats → Rule (after s (2 * n + 6) (word s (2 * n + 6)) s.homes id (with_passed (word s (2 * n + 6)) v))
  keeps_scan n s r id v sits is inside = let at = sits.at in let x : ℕ = word s (2 * n + 6) in let pin : x ≡ r.g.pin n = r.words.pin_is n inside in let old = r.pins.rests.known id v at in let low = old.low in let b = r.pins.below n in let w : View = with_passed x v in
      looks P means start seats s r id v w (set s.words (2 * n + 6) x) r.g.pin r.g.pinned at sits.live refl refl refl refl (room_same id v w at r.counts refl) (load r.words (2 * n + 6)) (r.draws.known id v at) (r.hands.known id v at) (r.saw.known id v at) (r.kept.known id v at)
      (pins_scan r.pins id r.g.floor v w at (omega arith) r.pins.kept record { state = old.state; low = omega arith; passed = λ k h. dite (ℕ_discrete k n) (λ e. let z : r.g.pinned k ≡ r.g.pinned n = ap r.g.pinned e in omega arith) (λ ne. let p = old.passed k (omega arith) in omega arith); raised = old.raised })

  pub pin_arrival_event : (id : ℕ) (s t : TableState P) → Rule s → Arrives id s t → Rule t
  pin_arrival_event id s t r h = subst (λ x. Rule x) (sym h.becomes) (keeps_arrival s r id h.view h.sits h.idles)

  pub pin_settlement_event : (w id : ℕ) (s t : TableState P) → Rule s → Settles w id s t → Rule t
  pin_settlement_event w id s t r h = subst (λ x. Rule x) (sym h.becomes) (keeps_settlement w s r id h.view h.sits h.may)

  pub pin_departure_event : (id : ℕ) (s t : TableState P) → Rule s → Departs id s t → Rule t
  pin_departure_event id s t r h = subst (λ x. Rule x) (sym h.becomes) (keeps_departure h.pin s r id h.view h.sits h.pinned)

  pub pin_scan_event : (id : ℕ) (s t : TableState P) → Rule s → Scans seats id s t → Rule t
  pin_scan_event id s t r h = subst (λ x. Rule x) (sym h.becomes) (keeps_scan h.view.pinning.next s r id h.view h.sits refl h.inside)

  pub allows_arrival : (slots id n : ℕ) (me : Seated P) → n ≡ me.0.place.number → me.0.place.spent ≡ false → me.0.pinning.state ≡ idle → Allows Rule slots id me (2 * n + 6) (λ _. 0) (λ _. arrival_told (step slots (2 * n + 6) 0 0 none) me 0)
  allows_arrival slots id n me is live idles s r deep at small = let v : View = me.0 in let here : n ≡ id = is ∙ (r.roster.places.known id v at).number live in
      (with_arrival v, keeps, tt, subst (λ z. Rule (after s (2 * z + 6) 0 s.homes id (with_arrival v))) (sym here) (keeps_arrival s r id v record { at = at; live = live } idles), refl)

  pub allows_settlement : (slots id n w : ℕ) (me : Seated P) → n ≡ me.0.place.number → me.0.place.spent ≡ false → MaySettle w me.0.pinning.state → Allows Rule slots id me (2 * n + 6) (λ _. w) (λ _. settlement_told (step slots (2 * n + 6) w 0 none) me w)
  allows_settlement slots id n w me is live may s r deep at small = let v : View = me.0 in let here : n ≡ id = is ∙ (r.roster.places.known id v at).number live in
      (with_pin w v, keeps, tt, subst (λ z. Rule (after s (2 * z + 6) w s.homes id (with_pin w v))) (sym here) (keeps_settlement w s r id v record { at = at; live = live } may), refl)

  pub allows_departure : (slots id n pin : ℕ) (me : Seated P) → n ≡ me.0.place.number → me.0.place.spent ≡ false → me.0.pinning.state ≡ settled pin → Allows Rule slots id me (2 * n + 6) (λ _. IDLE) (λ _. departure_told (step slots (2 * n + 6) IDLE 0 none) me IDLE)
  allows_departure slots id n pin me is live pinned s r deep at small = let v : View = me.0 in let here : n ≡ id = is ∙ (r.roster.places.known id v at).number live in
      (without_pin v, keeps, tt, subst (λ z. Rule (after s (2 * z + 6) IDLE s.homes id (without_pin v))) (sym here) (keeps_departure pin s r id v record { at = at; live = live } pinned), refl)

  pub allows_scan : (slots id n : ℕ) (me : Seated P) → me.0.place.spent ≡ false → me.0.pinning.next ≡ n → n < seats → Allows Rule slots id me (2 * n + 6) (λ n. n) (scan_told (step slots (2 * n + 6) 0 0 none) me)
  allows_scan slots id n me live is inside s r deep at small = (with_passed (word s (2 * n + 6)) me.0, keeps, tt, keeps_scan n s r id me.0 record { at = at; live = live } is inside, refl)
