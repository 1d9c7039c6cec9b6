-- Each event keeps the rule.
use Rattle.std.proofs.Common.{ℕ, List, [], ◌∷◌, refl, subst}
use Rattle.fd_kinds.specs.Parts.{PartMeaning}
use Rattle.fd_shelf.specs.Books.{Shelved}
use Rattle.fd_rule.specs.Tables.{TableState, empties}
use Rattle.fd_rule.specs.View.{idle_words}
use Rattle.fd_rule.specs.Rule.{Ruled}
use Rattle.fd_rule.specs.declared.slot.SlotValue.TheVariants.{Home}
use Rattle.fd_rule.proofs.BookChanges.{BookLaws, StragglerLaws}
use Rattle.fd_rule.specs.Events.{Event, draw, load_drawn, load_mark, load_synced, load_lane, take_turn, raise_mark, give_turn, land, clear_lane, arrive, settle, leave, scan_pin, raise_floor, announce, split, join, Leads, Reaches, MayOpen, opening_of}
use Rattle.fd_rule.proofs.Announces.{announcement_event}
use Rattle.fd_rule.proofs.BatchLandings.{batch_landing_event}
use Rattle.fd_rule.proofs.DrawnLoads.{drawn_load_event}
use Rattle.fd_rule.proofs.FloorRaises.{floor_raise_event}
use Rattle.fd_rule.proofs.LaneClearances.{lane_clearance_event}
use Rattle.fd_rule.proofs.LaneLoads.{lane_load_event}
use Rattle.fd_rule.proofs.MarkLoads.{mark_load_event}
use Rattle.fd_rule.proofs.MarkRaises.{mark_raise_event}
use Rattle.fd_rule.proofs.NumberDraws.{number_draw_event}
use Rattle.fd_rule.proofs.Opens.{opens}
use Rattle.fd_rule.proofs.PinSteps.{pin_arrival_event, pin_settlement_event, pin_departure_event, pin_scan_event}
use Rattle.fd_rule.proofs.SeatJoins.{seat_join_event}
use Rattle.fd_rule.proofs.SeatSplits.{seat_split_event}
use Rattle.fd_rule.proofs.SyncedLoads.{synced_load_event}
use Rattle.fd_rule.proofs.TurnReturns.{turn_return_event}
use Rattle.fd_rule.proofs.TurnTries.{turn_try_event}

module _ (P : Type 0) (means : P → PartMeaning) (start : Shelved) (seats : ℕ) where
  abbrev Rule : TableState P → Type 0
  Rule = Ruled means start seats

  pub opening_keeps : BookLaws → (synced : ℕ) → MayOpen start synced seats → Rule (opening_of start synced seats)
  opening_keeps laws synced may = opens P means start seats laws synced (start.mark ∷ start.mark ∷ 0 ∷ synced ∷ start.mark ∷ idle_words seats) (Home start ∷ empties seats) may.some may.few may.synced_low may.order may.settled refl refl

  pub event_keeps : StragglerLaws → (id : ℕ) (e : Event P) (s t : TableState P) → Rule s → Leads means seats id e s t → Rule t
  event_keeps laws id (draw rows) s t r h = number_draw_event P means start seats rows id s t r h
  event_keeps laws id load_drawn s t r h = drawn_load_event P means start seats id s t r h
  event_keeps laws id (load_mark scan) s t r h = mark_load_event P means start seats scan id s t r h
  event_keeps laws id load_synced s t r h = synced_load_event P means start seats id s t r h
  event_keeps laws id (load_lane k) s t r h = lane_load_event P means start seats k id s t r h
  event_keeps laws id take_turn s t r h = turn_try_event P means start seats id s t r h
  event_keeps laws id (raise_mark mark) s t r h = mark_raise_event P means start seats mark id s t r h
  event_keeps laws id (give_turn shelf) s t r h = turn_return_event P means start seats shelf id s t r h
  event_keeps laws id (land part) s t r h = batch_landing_event P means start seats part id s t r h
  event_keeps laws id (clear_lane k) s t r h = lane_clearance_event P means start seats laws k id s t r h
  event_keeps laws id arrive s t r h = pin_arrival_event P means start seats id s t r h
  event_keeps laws id (settle w) s t r h = pin_settlement_event P means start seats w id s t r h
  event_keeps laws id leave s t r h = pin_departure_event P means start seats id s t r h
  event_keeps laws id scan_pin s t r h = pin_scan_event P means start seats id s t r h
  event_keeps laws id (raise_floor l) s t r h = floor_raise_event P means start seats l id s t r h
  event_keeps laws id (announce n) s t r h = announcement_event P means start seats n id s t r h
  event_keeps laws id split s t r h = seat_split_event P means start seats id s t r h
  event_keeps laws id (join other) s t r h = seat_join_event P means start seats other id s t r h

  -- .. and so does a list of events
  pub events_keep : StragglerLaws → (events : List (ℕ × Event P)) (s t : TableState P) → Rule s → Reaches means seats s events t → Rule t
  events_keep laws [] s t r h = subst (λ x. Rule x) h r
  events_keep laws (e ∷ es) s t r h = events_keep laws es h.0 t (event_keeps laws e.0 e.1 s h.0 r h.1) h.2
