-- What a crash may leave after a list of changes of a disk in memory.
use Rattle.std.specs.Prelude.{ℕ, ◌≡◌, ◌≤◌, ◌⊎◌, List, [], ◌∷◌, ◌++◌, length, take, Contains}
use Rattle.std.proofs.Common.{sym, subst, arith}
use Rattle.std.proofs.Math.Seq.{take-length}
use Rattle.fd_device.specs.Causes.{next_count, Rose}
use Rattle.fd_device.specs.Disks.{Files, Steps, Torn, Cut as CutTo}
use Rattle.fd_device.specs.Changes.{apply, replay}
use Rattle.fd_device.specs.Slots.{lookup}
use Rattle.fd_device.specs.MemFiles.{now_of, base_of, lost_of, torn_of, files_of}
use Rattle.fd_device.specs.declared.files.FileId.{FileId}
use Rattle.fd_device.specs.declared.slots.Slot.{Slot}
use Rattle.fd_device.specs.declared.mem_file.MemFile.{MemFile}
use Rattle.fd_device.specs.declared.changes.Change.{Change}
use Rattle.fd_device.specs.declared.changes.Change.TheVariants.{Write, Cut, Sync}

-- the images after a change, by the files and the images before it
abbrev pub images_after : Change → Files → (Files → Type 0) → Files → Type 0
images_after (Write file at piece) files images = λ image. (before : Files) × images before × Steps file (Torn at (length piece)) before image
images_after (Cut file size) files images = λ image. (before : Files) × images before × Steps file (CutTo size) before image
images_after (Sync file) files images = λ image. images image × (image file ≡ files file)

abbrev pub images_from : List Change → Files → (Files → Type 0) → Files → Type 0
images_from [] files images = images
images_from (change ∷ changes) files images = images_from changes (apply change files) (images_after change files images)

-- the images of a disk that began with these files, of which nothing was pending
abbrev pub images_of : Files → List Change → Files → Type 0
images_of base changes = images_from changes base (λ image. image ≡ base)

-- an image after some number of changes, t at least
pub record WasImage (base : Files) (changes : List Change) (t : ℕ) (image : Files) : Type 0 where
  pub k : ℕ
  pub late : t ≤ k
  pub early : k ≤ length changes
  pub is : images_of base (take k changes) image

pub image_now : (base : Files) (changes : List Change) (t : ℕ) (image : Files) → t ≤ length changes → images_of base changes image → WasImage base changes t image
image_now base changes t image late is = record {
  k = length changes;
  late = late;
  early = omega arith;
  is = subst (λ (l : List Change). images_of base l image) (sym (take-length changes)) is;
}

pub image_only_now : (base : Files) (changes : List Change) (image : Files) → WasImage base changes (length changes) image → images_of base changes image
image_only_now base changes image was =
    let last : was.k ≡ length changes = omega (arith, was.late, was.early) in
    let whole : images_of base (take (length changes) changes) image = subst (λ (k : ℕ). images_of base (take k changes) image) last was.is in
    subst (λ (l : List Change). images_of base l image) (take-length changes) whole

-- Files, and two images of them, after changes of the files at the beginning.
pub record Holds (base now lost torn : Files) (changes : List Change) : Type 0 where
  pub present : now ≡ replay changes base
  pub whole : images_of base changes now
  pub lost_is : images_of base changes lost
  pub torn_is : images_of base changes torn

-- the same of the slots of a disk in memory
abbrev pub HoldsSlots : List (Slot MemFile) → List Change → Type 0
HoldsSlots slots changes = Holds (lookup base_of slots) (lookup now_of slots) (lookup lost_of slots) (lookup torn_of slots) changes

-- the files that a disk began with, and what was done to them since
pub record Recording : Type 0 where
  pub base : List (FileId × List ℕ)
  pub changes : List Change

-- what the files were at the beginning
abbrev pub began : Recording → Files
began r = files_of r.base

-- what a read gives
abbrev pub recorded : Recording → Files
recorded r = replay r.changes (files_of r.base)

-- the same beginning and the same changes
pub record Stays (old new : Recording) : Type 0 where
  pub base : began new ≡ began old
  pub changes : new.changes ≡ old.changes

-- the same beginning and one change more
pub record Adds (change : Change) (old new : Recording) : Type 0 where
  pub base : began new ≡ began old
  pub changes : new.changes ≡ old.changes ++ change ∷ []

-- What contracts see of the disk in memory that tears what is not synced: its recording, the calls that fail, and the
-- calls, faults and refused growths so far.
pub record Pending : Type 0 where
  pub recording : Recording
  pub fails : List ℕ
  pub calls : ℕ
  pub faults : ℕ
  pub starved : ℕ

-- a call that was not listed to fail, and found what memory it wanted
pub record Passes (old new : Pending) : Type 0 where
  pub unlisted : Contains old.fails (next_count old.calls) → ⊥
  pub calls : new.calls ≡ next_count old.calls
  pub fails : new.fails ≡ old.fails
  pub faults : new.faults ≡ old.faults
  pub starved : new.starved ≡ old.starved

-- a call that failed: it was listed, or found no memory
pub record Fails (old new : Pending) : Type 0 where
  pub cause : (Contains old.fails (next_count old.calls) × (new.starved ≡ old.starved)) ⊎ Rose old.starved new.starved
  pub calls : new.calls ≡ next_count old.calls
  pub fails : new.fails ≡ old.fails
  pub faults : Rose old.faults new.faults

-- what a read gives
abbrev pub present : Pending → Files
present d = recorded d.recording

-- what a crash may leave now
abbrev pub pending_images : Pending → Files → Type 0
pending_images d = images_of (began d.recording) d.recording.changes

-- what a crash at some moment from that one on might have left
abbrev pub past_images : Pending → ℕ → Files → Type 0
past_images d t image = WasImage (began d.recording) d.recording.changes t image
