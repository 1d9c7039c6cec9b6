-- Raising the floor keeps the rule.
use Rattle.std.proofs.Common.{◌≡◌, ℕ, false, max, sym, refl, subst, arith}
use mathlib.Core.Logic.{dite}
use mathlib.Core.Option.{none}
use native.Mathlib.Decide.{dec_lt}
use Rattle.atomic_table.specs.Table.{step, keeps, Allows}
use Rattle.fd_kinds.specs.Parts.{PartMeaning}
use Rattle.fd_shelf.specs.Books.{Shelved}
use Rattle.fd_rule.specs.Tables.{TableState, Seated, Sits, after, word}
use Rattle.fd_rule.specs.View.{View}
use Rattle.fd_rule.specs.Rule.{Ruled}
use Rattle.fd_rule.proofs.Stay.{same}
use Rattle.fd_rule.proofs.Sets.{store_floor}
use Rattle.fd_rule.proofs.PinChanges.{pins_scan}
use Rattle.fd_rule.proofs.Keep.{roster_same, lanes_same, lives_same, counts_same}
use Rattle.fd_rule.specs.Kinds.FloorRaise.{Happens, MayRaiseFloor, with_floor, told}

module _ (P : Type 0) (means : P → PartMeaning) (start : Shelved) (seats : ℕ) where
  abbrev Rule : TableState P → Type 0
  Rule = Ruled means start seats

  keeps_floor : (l : ℕ) (s : TableState P) (r : Rule s) (id : ℕ) (v : View) → Sits s id v → MayRaiseFloor seats l v.pinning → Rule (after s 4 (max (word s 4) l) s.homes id (with_floor l v))
  keeps_floor l s r id v sits may = let at = sits.at in let x : ℕ = word s 4 in let is : x ≡ r.g.floor = r.words.floor_is in let old = r.pins.rests.known id v at in let low = old.low in let within = may.within in let done = may.finished in let top : ℕ = max x l in let w : View = with_floor l v in let o = r.order in let a = o.floor_low in let c = o.marks_drawn in let e = o.small in let count = r.roster.count in record {
    g = record r.g { floor = top };
    words = store_floor r.words top;
    order = record { opening_low = o.opening_low; marks_drawn = c; small = e; synced_low = o.synced_low; floor_low = omega arith };
    home = r.home;
    booked = r.booked;
    sealed = λ n h. let b = r.sealed n h in omega arith;
    lanes = lanes_same s.views id w r.lanes;
    counts = counts_same id v w at r.counts refl refl refl refl;
    roster = roster_same id v w at refl r.roster;
    lives = lives_same id v w at sits.live refl refl r.lives;
    draws = same id w v at refl r.draws;
    hands = same id w v at refl r.hands;
    saw = same id w v at refl r.saw;
    kept = same id w v at refl r.kept;
    pins = pins_scan r.pins id top v w at (omega arith)
        (λ k. let kept = r.pins.kept k in dite (dec_lt k seats) (λ h. let p = old.passed k (omega arith) in omega arith) (λ h. let p = (r.pins.beyond k (omega arith)).1 in omega arith))
        record { state = old.state; low = old.low; passed = old.passed; raised = let q = old.raised in omega arith };
  }

  pub floor_raise_event : (l id : ℕ) (s t : TableState P) → Rule s → Happens seats l id s t → Rule t
  floor_raise_event l id s t r h = subst (λ x. Rule x) (sym h.becomes) (keeps_floor l s r id h.view h.sits h.may)

  pub allows_floor_raise : (slots id l : ℕ) (me : Seated P) → me.0.place.spent ≡ false → MayRaiseFloor seats l me.0.pinning → Allows Rule slots id me 4 (λ n. max n l) (told (step slots 4 l 0 none) me)
  allows_floor_raise slots id l me live may s r deep at small = (with_floor l me.0, keeps, tt, keeps_floor l s r id me.0 record { at = at; live = live } may, refl)
