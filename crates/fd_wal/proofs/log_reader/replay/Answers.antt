use Rattle.fd_wal.proofs.Replaying.{only_log, only_damage}
use Rattle.fd_wal.proofs.log_reader.replay.Goals as goal

pub returns-clause-ok_only : goal.returns-clause-ok_only
returns-clause-ok_only c = only_log c.args.bytes.now c.args.first c.read_frames.result c.read_frames.ensures.ok c.read_frames.ensures.damaged

pub returns-clause-damaged_only : goal.returns-clause-damaged_only
returns-clause-damaged_only c = only_damage c.args.bytes.now c.args.first c.read_frames.result c.read_frames.ensures.ok c.read_frames.ensures.damaged
