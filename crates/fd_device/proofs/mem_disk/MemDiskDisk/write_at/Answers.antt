use Rattle.std.proofs.Common.{length, sym, subst}
use Rattle.std.proofs.lemmas.Result.{on_ok_weaker, on_err_weaker}
use Rattle.fd_device.specs.Disks.{Files, Steps, Torn}
use Rattle.fd_device.specs.Images.{recorded}
use Rattle.fd_device.specs.declared.changes.Change.TheVariants as Changes
use Rattle.fd_device.proofs.DiskSteps.{torn_stays}
use Rattle.fd_device.proofs.ImageSteps.{adds_seen, adds_crash, adds_time, stays_seen, stays_crash, stays_time, either_way}
use Rattle.fd_device.proofs.mem_disk.MemDiskDisk.write_at.Goals as goal

pub returns-clause-written : goal.returns-clause-written
returns-clause-written c = on_ok_weaker c.write.result (λ a. adds_seen (Changes.Write c.args.file c.args.at c.args.piece.now) c.args.self.now.recording c.write.new.self.recording a) c.write.ensures.ok

pub returns-clause-failed : goal.returns-clause-failed
returns-clause-failed c =
    on_err_weaker c.write.result
    (λ s. subst (λ (g : Files). Steps c.args.file (Torn c.args.at (length c.args.piece.now)) (recorded c.args.self.now.recording) g) (sym (stays_seen c.args.self.now.recording c.write.new.self.recording s)) (torn_stays c.args.file c.args.at (length c.args.piece.now) (recorded c.args.self.now.recording))) c.write.ensures.err

pub returns-clause-crash : goal.returns-clause-crash
returns-clause-crash c =
    either_way c.write.result _
    (on_ok_weaker c.write.result (λ a image left. adds_crash (Changes.Write c.args.file c.args.at c.args.piece.now) c.args.self.now.recording c.write.new.self.recording a image left) c.write.ensures.ok)
    (on_err_weaker c.write.result (λ s image left. (image, stays_crash c.args.self.now.recording c.write.new.self.recording s image left, torn_stays c.args.file c.args.at (length c.args.piece.now) image)) c.write.ensures.err)

pub returns-clause-time : goal.returns-clause-time
returns-clause-time c =
    either_way c.write.result _
    (on_ok_weaker c.write.result (λ a. adds_time (Changes.Write c.args.file c.args.at c.args.piece.now) c.args.self.now.recording c.write.new.self.recording a) c.write.ensures.ok)
    (on_err_weaker c.write.result (λ s. stays_time c.args.self.now.recording c.write.new.self.recording s) c.write.ensures.err)
