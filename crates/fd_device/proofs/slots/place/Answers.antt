use Rattle.std.proofs.Common.{List, [], ◌∷◌, ◌++◌, sym, subst, length, ◌≡◌, ℕ, arith}
use Rattle.fd_device.specs.Slots.{IsPlace, IsAbsent}
use Rattle.fd_device.specs.declared.slots.Slot.{Slot}
use Rattle.fd_device.proofs.SlotPlaces.{place_push}
use Rattle.fd_device.proofs.slots.place.Goals as goal

pub returns-clause-place : goal.returns-clause-place
returns-clause-place g c =
    let absent = subst (λ (l : List (Slot g.row.T.Denot)). IsAbsent l c.args.file) c.deref.ensures.value c.in_default.ensures.none in
    let last : length c.args.slots.now.items ≡ c.len-i.result = omega (arith, c.len-i.ensures, c.args.slots.now.ok.0) in
    subst (λ (l : List (Slot g.row.T.Denot)). IsPlace l c.len-i.result c.args.file) (sym c.in_ok-push.ensures.items)
    (subst (λ (k : ℕ). IsPlace (c.args.slots.now.items ++ record { file = c.args.file; held = c.args.empty } ∷ []) k c.args.file) last (place_push c.args.slots.now.items c.args.file c.args.empty absent))
