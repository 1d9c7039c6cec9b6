-- A load of the mark keeps the rule.
use Rattle.std.proofs.Common.{◌≡◌, ℕ, ◌<◌, ◌≤◌, Bool, true, false, [], ◌∷◌, ◌++◌, length, set, sym, refl, ap, ◌∙◌, subst, arith, length-append}
use mathlib.Core.Option.{none}
use Rattle.atomic_table.specs.Table.{step, keeps, Allows}
use Rattle.fd_kinds.specs.Parts.{PartMeaning}
use Rattle.fd_shelf.specs.Books.{Book, Shelved}
use Rattle.fd_shelf.specs.Histories.{hist}
use Rattle.fd_rule.specs.Tables.{TableState, Seated, Sits, after, word}
use Rattle.fd_rule.specs.View.{TurnView, Draws, Knowledge, View, loaded}
use Rattle.fd_rule.specs.Rule.{Drawing, Hands, Saw, Kept, Ruled}
use Rattle.fd_rule.proofs.Sets.{put, put_one, load, same_pins}
use Rattle.fd_rule.proofs.PinChanges.{pins_load}
use Rattle.fd_rule.proofs.Keep.{upto_later, upto_more, room_same, looks}
use Rattle.fd_rule.specs.Kinds.MarkLoad.{Happens, Loaded, with_mark, with_scan, with_load, told}

module _ (P : Type 0) (means : P → PartMeaning) (start : Shelved) (seats : ℕ) where
  abbrev Rule : TableState P → Type 0
  Rule = Ruled means start seats

  tells : (counted : (book : Book) (mark : ℕ) → length (hist book mark) ≡ mark) (s : TableState P) (r : Rule s) (id : ℕ) (v : View) → Sits s id v → Loaded (word s 1) v
  tells counted s r id v sits =
      let at = sits.at in let m : ℕ = word s 1 in let k = r.saw.known id v at in let is : m ≡ r.g.mark = r.words.mark_is in let low = r.order.synced_low in record {
        marks = upto_later r.g.mark m v.seen.marks (omega arith) k.marks;
        synceds = upto_later r.g.synced m v.seen.synceds (omega arith) k.synceds;
        seen = let a = ap length k.history.joined in let b = length-append v.seen.history k.history.more in let c = counted r.g.book r.g.mark in omega arith;
        announced = λ first_seat. let number = (r.roster.places.known id v at).number sits.live in let now = (r.lives.known id v at).announced sits.live (omega arith) in omega arith;
        held = λ holds. is ∙ sym (r.hands.known id v at holds).mark_is;
      }

  -- the scan may be opened, with the limit and the next seat so
  keeps_load : (limit next : ℕ) (s : TableState P) (r : Rule s) (id : ℕ) (v w : View) → Sits s id v
      → limit ≤ r.g.mark → ((k : ℕ) → k < next → limit ≤ r.g.pinned k)
      → w.place ≡ v.place → w.turn ≡ v.turn → w.draws ≡ v.draws → w.books ≡ v.books → w.seen ≡ record v.seen { marks = v.seen.marks ++ word s 1 ∷ [] }
      → w.pinning ≡ record { state = loaded (word s 1) v.pinning.state; limit = limit; next = next; raised = v.pinning.raised; pins = v.pinning.pins }
      → Rule (after s 1 (word s 1) s.homes id w)
  keeps_load limit next s r id v w sits limit_low passed same_place same_turn same_draws same_books sees rests =
      let at = sits.at in let live = sits.live in let m : ℕ = word s 1 in let k = r.saw.known id v at in let is : m ≡ r.g.mark = r.words.mark_is in
      let t = pins_load r.pins id m limit next v w at is r.order.floor_low limit_low passed v.pinning.state refl rests in
      looks P means start seats s r id v w (set s.words 1 m) (put r.g.pin id (r.g.pin id)) t.0 at live same_place (ap (λ (x : TurnView). x.holds) same_turn) (ap (λ (x : Draws). x.own) same_draws) (ap (λ (x : Knowledge). x.announced) sees)
      (room_same id v w at r.counts (ap (λ (x : Draws). x.cleared) same_draws))
      (same_pins (load r.words 1) (put r.g.pin id (r.g.pin id)) (λ k. put_one (λ k a. a ≡ r.g.pin k) r.g.pin id (r.g.pin id) k (λ e. ap r.g.pin (sym e)) (λ _. refl)))
      (subst (Drawing start.mark r.g.drawn r.g.book r.g.batch_of r.g.lane r.g.stage id) (sym same_draws) (r.draws.known id v at))
      (subst (Hands seats r.g.taken r.g.mark r.g.book r.g.batch_of r.g.lane r.g.stage id) (sym same_turn) (r.hands.known id v at))
      (subst (Saw r.g.drawn r.g.mark r.g.synced (hist r.g.book r.g.mark) id) (sym sees) record { history = k.history; marks = upto_more r.g.mark m v.seen.marks (omega arith) k.marks; drawns = k.drawns; synceds = k.synceds; others = k.others })
      (subst (Kept r.g.book id) (sym same_books) (r.kept.known id v at)) t.1

  keeps_mark : (scan : Bool) (s : TableState P) (r : Rule s) (id : ℕ) (v : View) → Sits s id v → Rule (after s 1 (word s 1) s.homes id (with_load scan (word s 1) v))
  keeps_mark false s r id v sits = let old = r.pins.rests.known id v sits.at in
      keeps_load v.pinning.limit v.pinning.next s r id v (with_mark (word s 1) v) sits old.low old.passed refl refl refl refl refl refl
  keeps_mark true s r id v sits = let is : word s 1 ≡ r.g.mark = r.words.mark_is in
      keeps_load (word s 1) 0 s r id v (with_scan (word s 1) v) sits (omega arith) (λ k h. absurd (omega arith)) refl refl refl refl refl refl

  pub mark_load_event : (scan : Bool) (id : ℕ) (s t : TableState P) → Rule s → Happens scan id s t → Rule t
  mark_load_event scan id s t r h = subst (λ x. Rule x) (sym h.becomes) (keeps_mark scan s r id h.view h.sits)

  pub allows_mark_load : (counted : (book : Book) (mark : ℕ) → length (hist book mark) ≡ mark) (scan : Bool) (slots id : ℕ) (me : Seated P) → me.0.place.spent ≡ false → Allows Rule slots id me 1 (λ n. n) (told scan (step slots 1 0 0 none) me)
  allows_mark_load counted scan slots id me live s r deep at small = let sits : Sits s id me.0 = record { at = at; live = live } in
      (with_load scan (word s 1) me.0, keeps, tt, keeps_mark scan s r id me.0 sits, (refl, tells counted s r id me.0 sits))
