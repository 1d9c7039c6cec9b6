-- A load of the greatest number reported synced keeps the rule.
use Rattle.std.proofs.Common.{◌≡◌, ℕ, false, set, sym, refl, ◌∙◌, subst, arith}
use mathlib.Core.Option.{none}
use Rattle.atomic_table.specs.Table.{step, keeps, Allows}
use Rattle.fd_kinds.specs.Parts.{PartMeaning}
use Rattle.fd_shelf.specs.Books.{Shelved}
use Rattle.fd_rule.specs.Tables.{TableState, Seated, Sits, after, word}
use Rattle.fd_rule.specs.View.{View}
use Rattle.fd_rule.specs.Rule.{Ruled}
use Rattle.fd_rule.proofs.Sets.{load}
use Rattle.fd_rule.proofs.PinChanges.{pins_same}
use Rattle.fd_rule.proofs.Keep.{upto_later, upto_more, room_same, looks}
use Rattle.fd_rule.specs.Kinds.SyncedLoad.{Happens, with_synced, told}

module _ (P : Type 0) (means : P → PartMeaning) (start : Shelved) (seats : ℕ) where
  abbrev Rule : TableState P → Type 0
  Rule = Ruled means start seats

  keeps_synced : (s : TableState P) (r : Rule s) (id : ℕ) (v : View) → Sits s id v → Rule (after s 3 (word s 3) s.homes id (with_synced (word s 3) v))
  keeps_synced s r id v sits = let at = sits.at in let m : ℕ = word s 3 in let w : View = with_synced m v in let k = r.saw.known id v at in let is : m ≡ r.g.synced = r.words.synced_is in
      looks P means start seats s r id v w (set s.words 3 m) r.g.pin r.g.pinned at sits.live refl refl refl refl (room_same id v w at r.counts refl) (load r.words 3) (r.draws.known id v at) (r.hands.known id v at)
      record { history = k.history; marks = k.marks; drawns = k.drawns; synceds = upto_more r.g.synced m v.seen.synceds (omega arith) k.synceds; others = k.others } (r.kept.known id v at) (pins_same r.pins id v w at refl)

  pub synced_load_event : (id : ℕ) (s t : TableState P) → Rule s → Happens id s t → Rule t
  synced_load_event id s t r h = subst (λ x. Rule x) (sym h.becomes) (keeps_synced s r id h.view h.sits)

  pub allows_synced_load : (slots id : ℕ) (me : Seated P) → me.0.place.spent ≡ false → Allows Rule slots id me 3 (λ n. n) (told (step slots 3 0 0 none) me)
  allows_synced_load slots id me live s r deep at small = let v : View = me.0 in let m : ℕ = word s 3 in let k = r.saw.known id v at in let is : m ≡ r.g.synced = r.words.synced_is in (
    with_synced m v,
    keeps,
    tt,
    keeps_synced s r id v record { at = at; live = live },
    (
      refl,
      record {
        synceds = upto_later r.g.synced m v.seen.synceds (omega arith) k.synceds;
        announced = λ first_seat. let number = (r.roster.places.known id v at).number live in is ∙ sym ((r.lives.known id v at).announced live (omega arith));
      },
    ),
  )
