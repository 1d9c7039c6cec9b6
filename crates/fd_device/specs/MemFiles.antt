-- A file of the disk in memory that tears what is not synced.
use Rattle.std.specs.Prelude.{ℕ, ◌≡◌, ◌⊎◌, List, [], ◌∷◌, unwrap_or, if◌then◌else◌}
use Rattle.std.proofs.Common.{zero, suc}
use Rattle.fd_device.specs.Disks.{Files, same_file}
use Rattle.fd_device.specs.declared.files.FileId.{FileId}
use Rattle.fd_device.specs.declared.slots.Slot.{Slot}
use Rattle.fd_device.specs.declared.mem_file.MemFile.{MemFile}

-- what a read gives
abbrev pub now_of : MemFile → List ℕ
now_of m = m.bytes

-- what the file was when the disk began, or began anew
abbrev pub base_of : MemFile → List ℕ
base_of m = unwrap_or m.base m.bytes

-- an image of the file in which nothing is done since the last sync
abbrev pub lost_of : MemFile → List ℕ
lost_of m = unwrap_or m.lost m.bytes

-- an image of the file in which what was done since the last sync is torn
abbrev pub torn_of : MemFile → List ℕ
torn_of m = unwrap_or m.torn m.bytes

-- the files of a list of names and bytes
abbrev pub files_of : List (FileId × List ℕ) → Files
files_of [] f = []
files_of (pair ∷ pairs) f = if same_file f pair.0 then pair.1 else files_of pairs f

-- what the files were when the disk began, or began anew
abbrev pub bases : List (Slot MemFile) → List (FileId × List ℕ)
bases [] = []
bases (slot ∷ slots) = (slot.file, base_of slot.held) ∷ bases slots

-- the file became one of these, and nothing is pending
pub record Restarts (old new : MemFile) : Type 0 where
  pub is : (new.bytes ≡ old.bytes) ⊎ (new.bytes ≡ lost_of old) ⊎ (new.bytes ≡ torn_of old)
  pub base : base_of new ≡ new.bytes
  pub lost : lost_of new ≡ new.bytes
  pub torn : torn_of new ≡ new.bytes

-- the first n of the slots began anew, and the others stay
abbrev pub RestartsUpto : ℕ → List (Slot MemFile) → List (Slot MemFile) → Type 0
RestartsUpto zero old new = new ≡ old
RestartsUpto (suc n) [] new = ⊥
RestartsUpto (suc n) (a ∷ old) [] = ⊥
RestartsUpto (suc n) (a ∷ old) (b ∷ new) = (b.file ≡ a.file) × Restarts a.held b.held × RestartsUpto n old new
