use Rattle.std.proofs.lemmas.Result.{on_ok_weaker, on_err_weaker}
use Rattle.fd_device.specs.declared.changes.Change.TheVariants as Changes
use Rattle.fd_device.proofs.ImageSteps.{adds_seen, adds_crash, adds_time, stays_seen, stays_crash, stays_time, either_way}
use Rattle.fd_device.proofs.mem_disk.MemDiskDisk.sync.Goals as goal

pub returns-clause-durable : goal.returns-clause-durable
returns-clause-durable c =
    on_ok_weaker c.settle.result (λ a image left. (adds_crash (Changes.Sync c.args.file) c.args.self.now.recording c.settle.new.self.recording a image left).1) c.settle.ensures.ok

pub returns-clause-seen : goal.returns-clause-seen
returns-clause-seen c =
    either_way c.settle.result _
    (on_ok_weaker c.settle.result (λ a. adds_seen (Changes.Sync c.args.file) c.args.self.now.recording c.settle.new.self.recording a) c.settle.ensures.ok)
    (on_err_weaker c.settle.result (λ s. stays_seen c.args.self.now.recording c.settle.new.self.recording s) c.settle.ensures.err)

pub returns-clause-crash : goal.returns-clause-crash
returns-clause-crash c =
    either_way c.settle.result _
    (on_ok_weaker c.settle.result (λ a image left. (adds_crash (Changes.Sync c.args.file) c.args.self.now.recording c.settle.new.self.recording a image left).0) c.settle.ensures.ok)
    (on_err_weaker c.settle.result (λ s image left. stays_crash c.args.self.now.recording c.settle.new.self.recording s image left) c.settle.ensures.err)

pub returns-clause-time : goal.returns-clause-time
returns-clause-time c =
    either_way c.settle.result _
    (on_ok_weaker c.settle.result (λ a. adds_time (Changes.Sync c.args.file) c.args.self.now.recording c.settle.new.self.recording a) c.settle.ensures.ok)
    (on_err_weaker c.settle.result (λ s. stays_time c.args.self.now.recording c.settle.new.self.recording s) c.settle.ensures.err)
