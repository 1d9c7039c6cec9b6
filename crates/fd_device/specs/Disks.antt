-- Files by kind and block, what the calls of a disk do to them, and what a crash may leave.
use Rattle.std.specs.Prelude.{ℕ, ◌≡◌, ◌≤◌, ◌+◌, ◌⊎◌, max, min, Bool, true, false, ◌&&◌, nat_eq, List, [], ◌++◌, length, take, drop, if◌then◌else◌}
use Rattle.fd_device.specs.declared.files.FileId.{FileId}
use Rattle.fd_device.specs.declared.files.FileKind.{FileKind}
use Rattle.fd_device.specs.declared.files.FileKind.TheVariants.{Log, Pages, Seal}

-- The bytes of each file. A file that is not there has none.
abbrev pub Files : Type 0
Files = FileId → List ℕ

abbrev pub no_files : Files
no_files = λ f. []

abbrev pub same_kind : FileKind → FileKind → Bool
same_kind Log Log = true
same_kind Pages Pages = true
same_kind Seal Seal = true
same_kind a b = false

abbrev pub same_file : FileId → FileId → Bool
same_file a b = same_kind a.kind b.kind && nat_eq a.block b.block

-- bytes over what is there, and past the end
abbrev pub written : ℕ → List ℕ → List ℕ → List ℕ
written at piece old = take at old ++ piece ++ drop (at + length piece) old

-- one file is changed
abbrev pub changed : FileId → (List ℕ → List ℕ) → Files → Files
changed file change files = λ f. if same_file f file then change (files f) else files f

-- After a write of n bytes that a crash cuts short: any bytes in the range and past the old end, and the same bytes
-- elsewhere. The length lies between the old one and that after the whole write.
pub record Torn (at n : ℕ) (old new : List ℕ) : Type 0 where
  pub before : take at new ≡ take at old
  pub after : drop (at + n) new ≡ drop (at + n) old
  pub no_shorter : length old ≤ length new
  pub no_longer : length new ≤ max (length old) (at + n)

-- After a cut that a crash cuts short: a front of the file, of some length between.
pub record Cut (n : ℕ) (old new : List ℕ) : Type 0 where
  pub no_shorter : min n (length old) ≤ length new
  pub front : take (length new) old ≡ new

-- one file takes a step, and the others stay
pub record Steps (file : FileId) (step : List ℕ → List ℕ → Type 0) (old new : Files) : Type 0 where
  pub here : step (old file) (new file)
  pub others : (f : FileId) → same_file f file ≡ false → new f ≡ old f

-- files that a step makes of files that were possible before
abbrev pub Reaches : (Files → Files → Type 0) → (Files → Type 0) → Files → Type 0
Reaches step old image = (before : Files) × old before × step before image

-- each new image is an old one after a step
abbrev pub Follows : (Files → Files → Type 0) → (Files → Type 0) → (Files → Type 0) → Type 0
Follows step old new = (image : Files) → new image → Reaches step old image

-- each new image was one before
abbrev pub NoneNew : (Files → Type 0) → (Files → Type 0) → Type 0
NoneNew old new = (image : Files) → new image → old image

-- all files but one are as they were
abbrev pub OthersStay : FileId → Files → Files → Type 0
OthersStay file files image = (f : FileId) → same_file f file ≡ false → image f ≡ files f

-- of this file a crash leaves what a read gives
abbrev pub IsDurable : FileId → Files → (Files → Type 0) → Type 0
IsDurable file files may_leave = (image : Files) → may_leave image → image file ≡ files file

-- Nothing is pending: of each file a crash leaves what a read gives.
abbrev pub Settled : Files → (Files → Type 0) → Type 0
Settled files may_leave = (image : Files) → may_leave image → (f : FileId) → image f ≡ files f

-- Time goes on: a crash since t might have left what it might have left before, or what it may leave now.
pub record Elapses (before now : ℕ) (past since : ℕ → Files → Type 0) (may_leave : Files → Type 0) : Type 0 where
  pub later : before ≤ now
  pub nothing_else : (t : ℕ) (image : Files) → t ≤ before → since t image → past t image ⊎ may_leave image
  pub keeps : (t : ℕ) (image : Files) → t ≤ before → past t image → since t image
