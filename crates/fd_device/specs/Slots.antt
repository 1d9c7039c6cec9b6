-- What a disk in memory holds for each file.
use Rattle.std.specs.Prelude.{ℕ, ◌≡◌, ◌⊎◌, List, [], ◌∷◌, ◌++◌, true, false, if◌then◌else◌}
use Rattle.std.proofs.Common.{zero, suc}
use Rattle.fd_device.specs.Disks.{Files, same_file}
use Rattle.fd_device.specs.declared.files.FileId.{FileId}
use Rattle.fd_device.specs.declared.slots.Slot.{Slot}

-- the bytes that the first slot of each file gives
abbrev pub lookup : {T : Type 0} → (T → List ℕ) → List (Slot T) → Files
lookup get [] f = []
lookup get (slot ∷ slots) f = if same_file f slot.file then get slot.held else lookup get slots f

-- the first slot of a file stands at this place
abbrev pub IsPlace : {T : Type 0} → List (Slot T) → ℕ → FileId → Type 0
IsPlace [] i file = ⊥
IsPlace (slot ∷ slots) zero file = same_file file slot.file ≡ true
IsPlace (slot ∷ slots) (suc i) file = (same_file file slot.file ≡ false) × IsPlace slots i file

-- no slot is that of the file
abbrev pub IsAbsent : {T : Type 0} → List (Slot T) → FileId → Type 0
IsAbsent [] file = Unit {0}
IsAbsent (slot ∷ slots) file = (same_file file slot.file ≡ false) × IsAbsent slots file

-- the slots are the same, or have one more for a file that had none
abbrev pub Grows : {T : Type 0} → FileId → T → List (Slot T) → List (Slot T) → Type 0
Grows file empty old new = (new ≡ old) ⊎ (IsAbsent old file × (new ≡ old ++ record { file = file; held = empty } ∷ []))
