-- Which answers damaged files and others get.
use Rattle.std.proofs.Common.{◌≡◌, ℕ, List, subst}
use Rattle.std.specs.Prelude.{Result, Ok, Err, IfOk, IfErr, MatchResult}
use Rattle.fd_device.specs.declared.files.FileId.{FileId}
use Rattle.fd_device.specs.Disks.{Files}
use Rattle.fd_wal.specs.Frames.{Frame}
use Rattle.fd_keeper.specs.Blocks.{Block, Recovers, IsDamagedAt}
use Rattle.fd_open.specs.declared.cause.OpenCause.{OpenCause}
use Rattle.fd_open.specs.declared.cause.OpenCause.TheVariants.{DiskFault, Damaged, NoMemory}
use Rattle.fd_open.specs.declared.counting.Found.{Found}
use Rattle.fd_open.specs.Causes.{TellsDamage, NamesDamage, NamesNone}
use Rattle.fd_open.specs.Counting.{Counts, IsCountOf}

abbrev pub OneFile : Type 0
OneFile = (files : Files) (file other : FileId) (at place : ℕ) → IsDamagedAt files file at → IsDamagedAt files other place → file ≡ other

abbrev pub OnePlace : Type 0
OnePlace = (files : Files) (file other : FileId) (at place : ℕ) → IsDamagedAt files file at → IsDamagedAt files other place → at ≡ place

abbrev pub NotBoth : Type 0
NotBoth = (files : Files) (closed : List Block) (active : List Frame) (file : FileId) (at : ℕ) → Recovers files closed active → IsDamagedAt files file at → ⊥

pub names_damage : OneFile → OnePlace → (files : Files) (file : FileId) (at : ℕ) (cause : OpenCause) → TellsDamage files cause → IsDamagedAt files file at → NamesDamage file at cause
names_damage one_file one_place files file at (Damaged other place) tells is = (one_file files other file place at tells is, one_place files other file place at tells is)
names_damage one_file one_place files file at DiskFault tells is = tt
names_damage one_file one_place files file at NoMemory tells is = tt

pub names_none : NotBoth → (files : Files) (closed : List Block) (active : List Frame) (cause : OpenCause) → TellsDamage files cause → Recovers files closed active → NamesNone cause
names_none not_both files closed active (Damaged other place) tells is = not_both files closed active other place is tells
names_none not_both files closed active DiskFault tells is = tt
names_none not_both files closed active NoMemory tells is = tt

-- ---- counts

abbrev pub OneClosed : Type 0
OneClosed = (files : Files) (closed others : List Block) (active frames : List Frame) → Recovers files closed active → Recovers files others frames → closed ≡ others

abbrev pub OneActive : Type 0
OneActive = (files : Files) (closed others : List Block) (active frames : List Frame) → Recovers files closed active → Recovers files others frames → active ≡ frames

pub count_told : OneClosed → OneActive → NotBoth → (files : Files) (closed : List Block) (active : List Frame) (answer : Result Found OpenCause) → IfOk answer (Counts files) → IfErr answer (TellsDamage files) → Recovers files closed active
    → MatchResult answer (IsCountOf closed active) NamesNone
count_told one_closed one_active not_both files closed active (Ok found) counts tells is =
    subst (λ (l : List Block). IsCountOf l active found) (one_closed files counts.closed closed counts.active active counts.recovers is)
    (subst (λ (l : List Frame). IsCountOf counts.closed l found) (one_active files counts.closed closed counts.active active counts.recovers is) counts.count)
count_told one_closed one_active not_both files closed active (Err cause) counts tells is = names_none not_both files closed active cause tells is

pub damage_told : OneFile → OnePlace → NotBoth → (files : Files) (file : FileId) (at : ℕ) (answer : Result Found OpenCause) → IfOk answer (Counts files) → IfErr answer (TellsDamage files) → IsDamagedAt files file at
    → MatchResult answer (λ found. ⊥) (NamesDamage file at)
damage_told one_file one_place not_both files file at (Ok found) counts tells is = not_both files counts.closed counts.active file at counts.recovers is
damage_told one_file one_place not_both files file at (Err cause) counts tells is = names_damage one_file one_place files file at cause tells is
