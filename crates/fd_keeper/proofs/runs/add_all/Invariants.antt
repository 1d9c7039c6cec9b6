use Rattle.std.proofs.Common.{◌≡◌, ◌+◌, ◌-◌, ◌≤◌, ◌↔◌, List, length, take}
use Rattle.fd_device.specs.Disks.{Reaches, Follows, OthersStay, Settled}
use Rattle.fd_device.specs.Moments.{LeavesOnly}
use Rattle.fd_wal.specs.Frames.{Frame}
use Rattle.fd_wal.specs.Runs.{rows_in}
use Rattle.fd_keeper.specs.Blocks.{Block, log_of, recovered, Extends}
use Rattle.fd_keeper.specs.Keepers.{Rests}
use Rattle.fd_keeper.proofs.RunSteps.{GainsSoFar}
use Rattle.fd_keeper.proofs.runs.add_all.Given as goal

abbrev pub decreases-loop-from : goal.decreases-loop-from
decreases-loop-from g l = length l.batches - l.from

abbrev pub invariant-loop-from : goal.invariant-loop-from
invariant-loop-from g l =
    let d = g.D.Disk in
    record {
      within : l.from ≤ length l.batches;
      block : l.tail.block ≡ l.fn.tail.block;
      synced : l.tail.synced ≡ l.fn.tail.synced + l.from;
      honesty : d.honest l.fn.disk ↔ d.honest l.disk;
      any_moment : d.honest l.fn.disk → (closed : List Block) → (active : List Frame) → Rests d.seen d.may_leave l.fn.disk l.fn.tail.block l.fn.tail.gate l.fn.tail.synced closed active
          → LeavesOnly d.moment d.left_since l.fn.disk l.disk (Extends (recovered closed active) (rows_in l.batches));
      others : d.honest l.fn.disk → LeavesOnly d.moment d.left_since l.fn.disk l.disk (Reaches (OthersStay (log_of l.fn.tail.block)) (d.may_leave l.fn.disk));
      crash : d.honest l.fn.disk → Follows (OthersStay (log_of l.fn.tail.block)) (d.may_leave l.fn.disk) (d.may_leave l.disk);
      added : d.honest l.fn.disk → (closed : List Block) → (active : List Frame) → Rests d.seen d.may_leave l.fn.disk l.fn.tail.block l.fn.tail.gate l.fn.tail.synced closed active
          → GainsSoFar d.seen d.may_leave l.disk l.tail.block l.tail.gate l.tail.synced closed active (take l.from (rows_in l.batches));
      settled : d.honest l.fn.disk → Settled (d.seen l.fn.disk) (d.may_leave l.fn.disk) → Settled (d.seen l.disk) (d.may_leave l.disk);
      faults : d.faults l.disk ≡ d.faults l.fn.disk;
      unmoved : l.from ≡ 0 → (l.disk ≡ l.fn.disk) × (l.tail ≡ l.fn.tail);
    }
