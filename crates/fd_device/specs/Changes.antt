-- What was done to the files of a disk in memory, in order.
use Rattle.std.specs.Prelude.{ℕ, ◌≡◌, ◌≤◌, List, [], ◌∷◌, length, take}
use Rattle.std.proofs.Common.{sym, ◌∙◌, ap, arith}
use Rattle.std.proofs.Math.Seq.{take-length}
use Rattle.fd_device.specs.Disks.{Files, no_files, changed, written}
use Rattle.fd_device.specs.declared.changes.Change.{Change}
use Rattle.fd_device.specs.declared.changes.Change.TheVariants.{Write, Cut, Sync}

-- what a change makes of the files
abbrev pub apply : Change → Files → Files
apply (Write file at piece) files = changed file (written at piece) files
apply (Cut file size) files = changed file (take size) files
apply (Sync file) files = files

abbrev pub replay : List Change → Files → Files
replay [] files = files
replay (change ∷ changes) files = replay changes (apply change files)

-- the files after the first k changes of a disk that began without files
abbrev pub state_at : List Change → ℕ → Files
state_at changes k = replay (take k changes) no_files

-- the files were this after some number of changes, t at least
pub record WasAt (changes : List Change) (t : ℕ) (image : Files) : Type 0 where
  pub k : ℕ
  pub late : t ≤ k
  pub early : k ≤ length changes
  pub is : image ≡ state_at changes k

-- what contracts see of a disk whose calls are done at once: its changes, and how many found no memory
pub record Done : Type 0 where
  pub changes : List Change
  pub starved : ℕ

abbrev pub contents : Done → Files
contents disk = replay disk.changes no_files

pub was_now : (disk : Done) (t : ℕ) (image : Files) → t ≤ length disk.changes → image ≡ contents disk → WasAt disk.changes t image
was_now disk t image late is = record {
  k = length disk.changes;
  late = late;
  early = omega arith;
  is = is ∙ ap (λ (l : List Change). replay l no_files) (sym (take-length disk.changes));
}

pub only_now : (disk : Done) (image : Files) → WasAt disk.changes (length disk.changes) image → image ≡ contents disk
only_now disk image was =
    let last : was.k ≡ length disk.changes = omega (arith, was.late, was.early) in
    was.is ∙ ap (λ (k : ℕ). state_at disk.changes k) last ∙ ap (λ (l : List Change). replay l no_files) (take-length disk.changes)
