use Rattle.std.proofs.Common.{◌≡◌, ◌<◌, ℕ, length, subst, arith}
use Rattle.fd_device.specs.MemFiles.{RestartsUpto}
use Rattle.fd_device.proofs.MemSlots.{restarts_more, restarts_length}
use Rattle.fd_device.proofs.recorder.restart_all.Goals as goal

pub index_mut-slot-requires : goal.index_mut-slot-requires
index_mut-slot-requires c =
    omega (arith, restarts_length c.loop-i.i c.args.slots.now.items c.loop-i.slots.items c.loop-i.invariant, c.args.slots.now.ok.0, c.loop-i.slots.ok.0)

pub loop-i-preserved : goal.loop-i-preserved
loop-i-preserved c =
    let below : c.loop-i.i < length c.loop-i.slots.items = omega (arith, restarts_length c.loop-i.i c.args.slots.now.items c.loop-i.slots.items c.loop-i.invariant, c.args.slots.now.ok.0, c.loop-i.slots.ok.0) in
    restarts_more c.loop-i.i c.args.slots.now.items c.loop-i.slots.items c.index_mut-slot.result.now c.restart.new.self below c.loop-i.invariant c.index_mut-slot.ensures.value c.restart.ensures

pub returns : goal.returns
returns c =
    let all : c.loop-i.i ≡ length c.args.slots.now.items = omega (arith, c.args.slots.now.ok.0) in
    subst (λ (k : ℕ). RestartsUpto k c.args.slots.now.items c.loop-i.slots.items) all c.loop-i.invariant
