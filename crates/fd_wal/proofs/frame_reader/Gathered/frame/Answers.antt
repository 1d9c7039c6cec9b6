use Rattle.std.proofs.Common.{ap}
use Rattle.std.specs.Prelude.{Err}
use Rattle.fd_wal.specs.declared.fault.ReadFault.TheVariants.{Malformed}
use Rattle.fd_wal.proofs.Faults.{one_fault}
use Rattle.fd_wal.proofs.GatheredFrames.{refuses_frame}
use Rattle.fd_wal.proofs.frame_reader.Gathered.frame.Goals as goal

pub returns-in-Err-clause-refused : goal.returns-in-Err-clause-refused
returns-in-Err-clause-refused c malformed =
    refuses_frame c.args.bytes.now c.in-Some.payload.now c.in-Some.behind.now c.args.self.now c.in-Some.ensures.short c.in-Some.ensures.found (c.in-Err.ensures.refused (ap Err (one_fault c.in-Err.fault Malformed malformed)))
