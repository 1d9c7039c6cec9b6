use Rattle.fd_keeper.proofs.Rotations.{same_history}
use Rattle.fd_keeper.proofs.RecoveryLaws.{kept_images, kept_more}
use Rattle.fd_keeper.proofs.laws.keeping_laws.Goals as goal

pub returns-clause-images : goal.returns-clause-images
returns-clause-images g c = λ kept closed active image stands left. kept_images g.D.Disk.seen g.D.Disk.may_leave kept closed active image stands left

pub returns-clause-synced : goal.returns-clause-synced
returns-clause-synced g c = λ kept closed active stands. stands.rests.count

pub returns-clause-added : goal.returns-clause-added
returns-clause-added g c = λ old new closed active batches has. kept_more g.D.Disk.seen g.D.Disk.may_leave old new closed active batches has

pub returns-clause-ended : goal.returns-clause-ended
returns-clause-ended g c = λ closed active hi. same_history closed active hi
