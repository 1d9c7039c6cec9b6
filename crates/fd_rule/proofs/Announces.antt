-- Announcing a number as synced keeps the rule.
use Rattle.std.proofs.Common.{◌≡◌, ℕ, false, sym, refl, subst, arith}
use mathlib.Core.Option.{none}
use Rattle.atomic_table.specs.Table.{step, keeps, Allows}
use Rattle.fd_kinds.specs.Parts.{PartMeaning}
use Rattle.fd_shelf.specs.Books.{Shelved}
use Rattle.fd_rule.specs.Tables.{TableState, Seated, Sits, after}
use Rattle.fd_rule.specs.View.{View}
use Rattle.fd_rule.specs.Rule.{Ruled}
use Rattle.fd_rule.proofs.Stay.{moves, same}
use Rattle.fd_rule.proofs.Sets.{store_synced}
use Rattle.fd_rule.proofs.PinChanges.{pins_same}
use Rattle.fd_rule.proofs.Keep.{upto_later, in_upto, roster_same, lanes_same, counts_same}
use Rattle.fd_rule.specs.Kinds.Announcement.{Happens, MayAnnounce, with_announced, told}

module _ (P : Type 0) (means : P → PartMeaning) (start : Shelved) (seats : ℕ) where
  abbrev Rule : TableState P → Type 0
  Rule = Ruled means start seats

  keeps_announced : (n : ℕ) (s : TableState P) (r : Rule s) (id : ℕ) (v : View) → Sits s id v → MayAnnounce n v → Rule (after s 3 n s.homes id (with_announced n v))
  keeps_announced n s r id v sits may = let at = sits.at in let live = sits.live in let w : View = with_announced n v in let here : v.place.number ≡ id = (r.roster.places.known id v at).number live in let first_seat = may.number in let k = r.saw.known id v at in let le = in_upto r.g.mark may.mark v.seen.marks may.loaded k.marks in let within = may.within in let rises = may.rises in let old = r.lives.known id v at in let now = old.announced live (omega arith) in let o = r.order in record {
    g = record r.g { synced = n };
    words = store_synced r.words n;
    order = record { opening_low = o.opening_low; marks_drawn = o.marks_drawn; small = o.small; synced_low = omega arith; floor_low = o.floor_low };
    home = r.home;
    booked = r.booked;
    sealed = r.sealed;
    lanes = lanes_same s.views id w r.lanes;
    counts = counts_same id v w at r.counts refl refl refl refl;
    roster = roster_same id v w at refl r.roster;
    lives = moves id w record { gone = λ e. absurd (cc); announced = λ _ _. refl } (λ j x other _ known. record { gone = known.gone; announced = λ _ z. absurd (other (omega arith)) }) r.lives;
    draws = same id w v at refl r.draws;
    hands = same id w v at refl r.hands;
    saw = moves id w record { history = k.history; marks = k.marks; drawns = k.drawns; synceds = upto_later r.g.synced n v.seen.synceds (omega arith) k.synceds; others = k.others }
        (λ j x other _ known. record { history = known.history; marks = known.marks; drawns = known.drawns; synceds = upto_later r.g.synced n x.seen.synceds (omega arith) known.synceds; others = known.others }) r.saw;
    kept = same id w v at refl r.kept;
    pins = pins_same r.pins id v w at refl;
  }

  pub announcement_event : (n id : ℕ) (s t : TableState P) → Rule s → Happens n id s t → Rule t
  announcement_event n id s t r h = subst (λ x. Rule x) (sym h.becomes) (keeps_announced n s r id h.view h.sits h.may)

  pub allows_announcement : (slots id n : ℕ) (me : Seated P) → me.0.place.spent ≡ false → MayAnnounce n me.0 → Allows Rule slots id me 3 (λ _. n) (λ _. told (step slots 3 n 0 none) me n)
  allows_announcement slots id n me live may s r deep at small = (with_announced n me.0, keeps, tt, keeps_announced n s r id me.0 record { at = at; live = live } may, refl)
