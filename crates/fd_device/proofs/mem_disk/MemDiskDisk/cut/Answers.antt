use Rattle.std.proofs.Common.{sym, subst}
use Rattle.std.proofs.lemmas.Result.{on_ok_weaker, on_err_weaker}
use Rattle.fd_device.specs.Disks.{Files, Steps, Cut}
use Rattle.fd_device.specs.Images.{recorded}
use Rattle.fd_device.specs.declared.changes.Change.TheVariants as Changes
use Rattle.fd_device.proofs.DiskSteps.{cut_stays}
use Rattle.fd_device.proofs.ImageSteps.{adds_seen, adds_crash, adds_time, stays_seen, stays_crash, stays_time, either_way}
use Rattle.fd_device.proofs.mem_disk.MemDiskDisk.cut.Goals as goal

pub returns-clause-cut : goal.returns-clause-cut
returns-clause-cut c = on_ok_weaker c.shorten.result (λ a. adds_seen (Changes.Cut c.args.file c.args.size) c.args.self.now.recording c.shorten.new.self.recording a) c.shorten.ensures.ok

pub returns-clause-failed : goal.returns-clause-failed
returns-clause-failed c =
    on_err_weaker c.shorten.result
    (λ s. subst (λ (g : Files). Steps c.args.file (Cut c.args.size) (recorded c.args.self.now.recording) g) (sym (stays_seen c.args.self.now.recording c.shorten.new.self.recording s)) (cut_stays c.args.file c.args.size (recorded c.args.self.now.recording))) c.shorten.ensures.err

pub returns-clause-crash : goal.returns-clause-crash
returns-clause-crash c =
    either_way c.shorten.result _
    (on_ok_weaker c.shorten.result (λ a image left. adds_crash (Changes.Cut c.args.file c.args.size) c.args.self.now.recording c.shorten.new.self.recording a image left) c.shorten.ensures.ok)
    (on_err_weaker c.shorten.result (λ s image left. (image, stays_crash c.args.self.now.recording c.shorten.new.self.recording s image left, cut_stays c.args.file c.args.size image)) c.shorten.ensures.err)

pub returns-clause-time : goal.returns-clause-time
returns-clause-time c =
    either_way c.shorten.result _
    (on_ok_weaker c.shorten.result (λ a. adds_time (Changes.Cut c.args.file c.args.size) c.args.self.now.recording c.shorten.new.self.recording a) c.shorten.ensures.ok)
    (on_err_weaker c.shorten.result (λ s. stays_time c.args.self.now.recording c.shorten.new.self.recording s) c.shorten.ensures.err)
