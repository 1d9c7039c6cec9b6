use Rattle.fd_keeper.proofs.RecoveryLaws.{settled_image, settled_rests}
use Rattle.fd_keeper.proofs.laws.settled_laws.Goals as goal

pub returns-clause-images : goal.returns-clause-images
returns-clause-images g c = λ disk closed active image settled was left. settled_image (g.D.Disk.seen disk) image closed active (settled image left) was

pub returns-clause-rests : goal.returns-clause-rests
returns-clause-rests g c = λ disk gate closed active settled was log last. settled_rests g.D.Disk.seen g.D.Disk.may_leave disk gate closed active settled was log last
