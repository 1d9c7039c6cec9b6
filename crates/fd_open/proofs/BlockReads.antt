-- What was read of a block.
use Rattle.std.proofs.Common.{◌≡◌, ℕ, ◌<◌, ◌≤◌, inr, List, [], ◌∷◌, length, take, refl, sym, ◌∙◌, ap, subst, arith}
use Rattle.fd_device.specs.Disks.{Files, IsDurable, NoneNew}
use Rattle.fd_device.specs.declared.files.FileId.{FileId}
use Rattle.fd_device.specs.declared.files.FileKind.{FileKind}
use Rattle.fd_device.specs.declared.files.FileKind.TheVariants as kind
use Rattle.fd_wal.specs.Logs.{IsOpen, IsClosed, IsDamaged}
use Rattle.fd_keeper.specs.Blocks.{log_of, seal_of}
use Rattle.fd_open.specs.declared.cause.OpenCause.{OpenCause}
use Rattle.fd_open.specs.declared.cause.OpenCause.TheVariants.{DiskFault, Damaged, NoMemory}
use Rattle.fd_open.specs.Barriers.{IsDurableAt}
use Rattle.fd_open.specs.Causes.{TellsLog, TellsBlock, NamesNone}

pub short_is_shut : (bytes : List ℕ) → length bytes < 2 → IsOpen bytes → ⊥
short_is_shut [] short opened = opened
short_is_shut (a ∷ []) short opened = opened
short_is_shut (a ∷ b ∷ bytes) short opened = absurd (omega (arith, short))

-- the first byte of two or more tells
pub open_if_one : (bytes : List ℕ) → 2 ≤ length bytes → take 1 bytes ≡ 1 ∷ [] → IsOpen bytes
open_if_one [] long is = absurd (omega (arith, long))
open_if_one (a ∷ []) long is = absurd (omega (arith, long))
open_if_one (a ∷ b ∷ bytes) long is = cc is

pub one_if_open : (bytes : List ℕ) → IsOpen bytes → take 1 bytes ≡ 1 ∷ []
one_if_open [] opened = absurd opened
one_if_open (a ∷ []) opened = absurd opened
one_if_open (a ∷ b ∷ bytes) opened = ap (λ (n : ℕ). n ∷ []) opened

pub not_open : (bytes : List ℕ) → (IsOpen bytes → ⊥) → IsClosed bytes
not_open [] shut = tt
not_open (a ∷ []) shut = tt
not_open (a ∷ b ∷ bytes) shut = shut

pub none_told : (files : Files) (block first : ℕ) (cause : OpenCause) → NamesNone cause → TellsBlock files block first cause
none_told files block first (Damaged file at) none = absurd none
none_told files block first DiskFault none = tt
none_told files block first NoMemory none = tt

pub log_told : (files : Files) (block first : ℕ) (cause : OpenCause) (bytes : List ℕ) → bytes ≡ files (log_of block) → IsClosed (files (seal_of block)) → TellsLog bytes block first cause → TellsBlock files block first cause
log_told files block first (Damaged file at) bytes is unsealed tells = inr (record { unsealed = unsealed; file_is = tells.0; log = subst (λ (l : List ℕ). IsDamaged l first at) is tells.1 })
log_told files block first DiskFault bytes is unsealed tells = absurd tells
log_told files block first NoMemory bytes is unsealed tells = tt

-- of the three files of a block
pub three_files : (block : ℕ) (files : Files) (may_leave : Files → Type 0) → IsDurable (record { kind = kind.Seal; block = block }) files may_leave → IsDurable (record { kind = kind.Pages; block = block }) files may_leave
    → IsDurable (record { kind = kind.Log; block = block }) files may_leave → IsDurableAt block files may_leave
three_files block files may_leave seal pages log image left f is = by f.kind refl
  where
    named : (k : FileKind) → f.kind ≡ k → image (record { kind = k; block = block }) ≡ files (record { kind = k; block = block }) → image f ≡ files f
    named k e same =
        let id : f ≡ record { kind = k; block = block } = ap (λ (j : FileKind). record { kind = j; block = f.block }) e ∙ ap (λ (n : ℕ). record { kind = k; block = n }) is in
        ap image id ∙ same ∙ sym (ap files id)

    by : (k : FileKind) → f.kind ≡ k → image f ≡ files f
    by kind.Log e = named kind.Log e (log image left)
    by kind.Pages e = named kind.Pages e (pages image left)
    by kind.Seal e = named kind.Seal e (seal image left)

-- a file stays on the disk over a call that changes none
pub still_durable : (file : FileId) (files now : Files) (before after : Files → Type 0) → now ≡ files → NoneNew before after → IsDurable file files before → IsDurable file now after
still_durable file files now before after same fewer durable image left = durable image (fewer image left) ∙ sym (ap (λ (g : Files). g file) same)

pub same_durable : (file : FileId) (files now : Files) (after : Files → Type 0) → now ≡ files → IsDurable file now after → IsDurable file files after
same_durable file files now after same durable image left = durable image left ∙ ap (λ (g : Files). g file) same
