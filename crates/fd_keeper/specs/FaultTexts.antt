-- How faults are printed.
use Rattle.std.specs.Prelude.{ℕ, List, ◌++◌, codes, decimal}
use Rattle.fd_keeper.specs.declared.faults.KeeperFault.{KeeperFault}
use Rattle.fd_keeper.specs.declared.faults.KeeperFault.TheVariants.{DiskFault, Stopped, NoMemory}

abbrev pub fault_text : KeeperFault → List ℕ
fault_text DiskFault = codes "disk fault"
fault_text (Stopped count) = codes "stopped at disk fault " ++ decimal count
fault_text NoMemory = codes "no memory"
