-- What the causes of an answer tell of the files.
use Rattle.std.specs.Prelude.{◌≡◌, ℕ, List, Result, Ok, Err}
use Rattle.fd_device.specs.Causes.{Rose}
use Rattle.fd_device.specs.Disks.{Files}
use Rattle.fd_device.specs.declared.files.FileId.{FileId}
use Rattle.fd_wal.specs.Logs.{IsDamaged}
use Rattle.fd_keeper.specs.Blocks.{log_of, IsDamagedBlock, IsDamagedAt}
use Rattle.fd_open.specs.declared.cause.OpenCause.{OpenCause}
use Rattle.fd_open.specs.declared.cause.OpenCause.TheVariants.{DiskFault, Damaged, NoMemory}

-- a fault of the disk raised the count, and nothing else did
abbrev pub HasCauseOf : ℕ → ℕ → OpenCause → Type 0
HasCauseOf before now DiskFault = Rose before now
HasCauseOf before now (Damaged file at) = now ≡ before
HasCauseOf before now NoMemory = now ≡ before

abbrev pub HasOpenCause : {A : Type 0} → ℕ → ℕ → Result A OpenCause → Type 0
HasOpenCause before now (Ok a) = now ≡ before
HasOpenCause before now (Err cause) = HasCauseOf before now cause

-- the bytes of a block's log are damaged at the place that is told
abbrev pub TellsLog : List ℕ → ℕ → ℕ → OpenCause → Type 0
TellsLog bytes block first (Damaged file at) = (file ≡ log_of block) × IsDamaged bytes first at
TellsLog bytes block first DiskFault = ⊥
TellsLog bytes block first NoMemory = Unit {0}

-- a block is damaged at the place that is told
abbrev pub TellsBlock : Files → ℕ → ℕ → OpenCause → Type 0
TellsBlock files block first (Damaged file at) = IsDamagedBlock files block first file at
TellsBlock files block first DiskFault = Unit {0}
TellsBlock files block first NoMemory = Unit {0}

-- the files are damaged at the place that is told
abbrev pub TellsDamage : Files → OpenCause → Type 0
TellsDamage files (Damaged file at) = IsDamagedAt files file at
TellsDamage files DiskFault = Unit {0}
TellsDamage files NoMemory = Unit {0}

-- this damage is told, unless the disk failed or memory ran out
abbrev pub NamesDamage : FileId → ℕ → OpenCause → Type 0
NamesDamage file at (Damaged other place) = (other ≡ file) × (place ≡ at)
NamesDamage file at DiskFault = Unit {0}
NamesDamage file at NoMemory = Unit {0}

-- no damage is told
abbrev pub NamesNone : OpenCause → Type 0
NamesNone (Damaged other place) = ⊥
NamesNone DiskFault = Unit {0}
NamesNone NoMemory = Unit {0}
