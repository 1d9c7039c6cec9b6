-- One call of a disk after another, and what a step of one file leaves.
use Rattle.std.proofs.Common.{◌≡◌, ℕ, List, Bool, true, false, refl, sym, ◌∙◌, ap, subst, arith, eq-eqb}
use Rattle.std.proofs.lemmas.Bool.{eqb-true}
use Rattle.std.proofs.Math.Seq.{take-length}
use Rattle.std.specs.Cmp.{first_so, second_so}
use Rattle.fd_device.specs.Disks.{Files, same_kind, same_file, Torn, Cut, Steps, Reaches, Follows, NoneNew, OthersStay, IsDurable, Settled, Elapses}
use Rattle.fd_device.specs.Moments.{LeavesOnly, moments_begin, moments_more, moments_weaker}
use Rattle.fd_device.specs.declared.files.FileId.{FileId}
use Rattle.fd_device.specs.declared.files.FileKind.{FileKind}
use Rattle.fd_device.specs.declared.files.FileKind.TheVariants.{Log, Pages, Seal}

pub same_kind-eq : (a b : FileKind) → same_kind a b ≡ true → a ≡ b
same_kind-eq Log Log same = refl
same_kind-eq Pages Pages same = refl
same_kind-eq Seal Seal same = refl
same_kind-eq Log Pages same = absurd (cc same)
same_kind-eq Log Seal same = absurd (cc same)
same_kind-eq Pages Log same = absurd (cc same)
same_kind-eq Pages Seal same = absurd (cc same)
same_kind-eq Seal Log same = absurd (cc same)
same_kind-eq Seal Pages same = absurd (cc same)

pub same_kind-refl : (a : FileKind) → same_kind a a ≡ true
same_kind-refl Log = refl
same_kind-refl Pages = refl
same_kind-refl Seal = refl

pub same_file-eq : (a b : FileId) → same_file a b ≡ true → a ≡ b
same_file-eq a b same =
    let kind : a.kind ≡ b.kind = same_kind-eq a.kind b.kind (first_so _ _ same) in
    let block : a.block ≡ b.block = eqb-true a.block b.block (second_so _ _ same) in
    λ i. record { kind = kind i; block = block i }

pub same_file-refl : (a : FileId) → same_file a a ≡ true
same_file-refl a = rw (same_kind-refl a.kind) (eq-eqb a.block a.block refl)

pub Torn-refl : (at n : ℕ) (bytes : List ℕ) → Torn at n bytes bytes
Torn-refl at n bytes = record { before = refl; after = refl; no_shorter = omega arith; no_longer = omega arith }

pub Cut-refl : (n : ℕ) (bytes : List ℕ) → Cut n bytes bytes
Cut-refl n bytes = record { no_shorter = omega arith; front = take-length bytes }

-- files that stay are one outcome of a write that is cut short
pub torn_stays : (file : FileId) (at n : ℕ) (files : Files) → Steps file (Torn at n) files files
torn_stays file at n files = record { here = Torn-refl at n (files file); others = λ f other. refl }

pub cut_stays : (file : FileId) (n : ℕ) (files : Files) → Steps file (Cut n) files files
cut_stays file n files = record { here = Cut-refl n (files file); others = λ f other. refl }

-- a step of files of which nothing was pending
pub steps_settled : (file : FileId) (step : List ℕ → List ℕ → Type 0) (files : Files) (may_leave : Files → Type 0) → Settled files may_leave
    → (image : Files) → Reaches (Steps file step) may_leave image → Steps file step files image
steps_settled file step files may_leave settled image reached =
    let was : (f : FileId) → reached.0 f ≡ files f = settled reached.0 reached.1 in
    record {
      here = subst (λ (l : List ℕ). step l (image file)) (was file) reached.2.here;
      others = λ f other. reached.2.others f other ∙ was f;
    }

-- a step of one file, and a sync of it: nothing is pending
pub settles : (file : FileId) (step : List ℕ → List ℕ → Type 0) (files next : Files) (old new : Files → Type 0) → Settled files old
    → OthersStay file files next → Follows (Steps file step) old new → IsDurable file next new → Settled next new
settles file step files next old new settled others follows durable image left f = go f (same_file f file) refl
  where
    go : (f : FileId) (b : Bool) → same_file f file ≡ b → image f ≡ next f
    go f true is_file = ap image (same_file-eq f file is_file) ∙ durable image left ∙ ap next (sym (same_file-eq f file is_file))
    go f false other = (steps_settled file step files old settled image (follows image left)).others f other ∙ sym (others f other)

module _ {D : Type 0} (moment : D → ℕ) (left_since : D → ℕ → Files → Type 0) (may_leave : D → Files → Type 0) where
  -- a call that changes files
  pub first_call : (old new : D) (step : Files → Files → Type 0) → ((image : Files) → left_since old (moment old) image → may_leave old image) → ((files : Files) → step files files)
      → Elapses (moment old) (moment new) (left_since old) (left_since new) (may_leave new) → Follows step (may_leave old) (may_leave new)
      → LeavesOnly moment left_since old new (Reaches step (may_leave old))
  first_call old new step only_now stays time crash =
      moments_more moment left_since old old new (Reaches step (may_leave old)) (may_leave new)
      (moments_begin moment left_since old (Reaches step (may_leave old)) (λ image left. (image, only_now image left, stays image))) time crash

  -- and one behind it after which a crash leaves nothing new
  pub then_sync : (old mid new : D) (P : Files → Type 0) → LeavesOnly moment left_since old mid P
      → Elapses (moment mid) (moment new) (left_since mid) (left_since new) (may_leave new) → NoneNew (may_leave mid) (may_leave new)
      → ((image : Files) → may_leave mid image → P image) → LeavesOnly moment left_since old new P
  then_sync old mid new P so_far time fewer here =
      moments_more moment left_since old mid new P (may_leave new) so_far time (λ image left. here image (fewer image left))

  -- the same where nothing was pending at first
  pub from_settled : (old new : D) (file : FileId) (step : List ℕ → List ℕ → Type 0) (files : Files) → Settled files (may_leave old)
      → LeavesOnly moment left_since old new (Reaches (Steps file step) (may_leave old)) → LeavesOnly moment left_since old new (Steps file step files)
  from_settled old new file step files settled run =
      moments_weaker moment left_since old new (Reaches (Steps file step) (may_leave old)) (Steps file step files) (steps_settled file step files (may_leave old) settled) run

  pub others_settled : (old new : D) (file : FileId) (step : List ℕ → List ℕ → Type 0) (files : Files) → Settled files (may_leave old)
      → LeavesOnly moment left_since old new (Reaches (Steps file step) (may_leave old)) → LeavesOnly moment left_since old new (OthersStay file files)
  others_settled old new file step files settled run =
      moments_weaker moment left_since old new (Steps file step files) (OthersStay file files) (λ image steps. steps.others) (from_settled old new file step files settled run)
