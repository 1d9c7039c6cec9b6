-- What the steps of the repair of the active log leave.
use Rattle.std.proofs.Common.{◌≡◌, ℕ, ◌+◌, ◌<◌, ◌≤◌, min, ⊎_elim, Bool, true, false, ◌&&◌, nat_eq, List, ◌∷◌, [], length, take, refl, sym, ◌∙◌, ap, subst, arith, eq-eqb}
use Rattle.std.proofs.lemmas.List.{length-take}
use Rattle.std.proofs.lemmas.Bool.{cond-true, eqb-true, cases_lt}
use Rattle.fd_device.specs.declared.files.FileId.{FileId}
use Rattle.fd_device.specs.declared.files.FileKind.{FileKind}
use Rattle.fd_device.specs.declared.files.FileKind.TheVariants as kind
use Rattle.fd_device.specs.Disks.{Files, same_file, same_kind, changed, written, Torn, Cut, Steps, Reaches, Follows, OthersStay, IsDurable, Settled}
use Rattle.fd_wal.specs.Frames.{Frame}
use Rattle.fd_wal.specs.Logs.{IsLog}
use Rattle.fd_keeper.specs.Blocks.{Block, log_of, history_in, Recovers, recovered}
use Rattle.fd_keeper.specs.Keepers.{Rests}
use Rattle.fd_open.specs.declared.tail.Tail.{Tail}
use Rattle.fd_open.specs.Barriers.{IsRead, IsDurableBelow, IsDurableFrom}
use Rattle.fd_open.proofs.LogEnds.{cut_log, torn_log, gate_fits, written_log, written_ends}

-- ---- names of files

both_true : (a b : Bool) → (a && b) ≡ true → (a ≡ true) × (b ≡ true)
both_true true true e = (refl, refl)
both_true true false e = absurd (cc e)
both_true false b e = absurd (cc e)

same_kinds : (a b : FileKind) → same_kind a b ≡ true → a ≡ b
same_kinds kind.Log kind.Log e = refl
same_kinds kind.Log kind.Pages e = absurd (cc e)
same_kinds kind.Log kind.Seal e = absurd (cc e)
same_kinds kind.Pages kind.Log e = absurd (cc e)
same_kinds kind.Pages kind.Pages e = refl
same_kinds kind.Pages kind.Seal e = absurd (cc e)
same_kinds kind.Seal kind.Log e = absurd (cc e)
same_kinds kind.Seal kind.Pages e = absurd (cc e)
same_kinds kind.Seal kind.Seal e = refl

file_is : (f g : FileId) → same_file f g ≡ true → f ≡ g
file_is f g e =
    let both = both_true (same_kind f.kind g.kind) (nat_eq f.block g.block) e in
    let kinds : f.kind ≡ g.kind = same_kinds f.kind g.kind both.0 in
    let blocks : f.block ≡ g.block = eqb-true f.block g.block both.1 in
    ap (λ (k : FileKind). record { kind = k; block = f.block }) kinds ∙ ap (λ (n : ℕ). record { kind = g.kind; block = n }) blocks

-- a file is this one, or another
pub this_or_other : (f g : FileId) (P : Type 0) → (f ≡ g → P) → (same_file f g ≡ false → P) → P
this_or_other f g P this other = by (same_file f g) refl
  where
    by : (b : Bool) → same_file f g ≡ b → P
    by true e = this (file_is f g e)
    by false e = other e

changed_log : (block : ℕ) (change : List ℕ → List ℕ) (files next : Files) → next ≡ changed (log_of block) change files → next (log_of block) ≡ change (files (log_of block))
changed_log block change files next is =
    ap (λ (g : Files). g (log_of block)) is ∙ cond-true (same_file (log_of block) (log_of block)) (change (files (log_of block))) (files (log_of block)) (eq-eqb block block refl)

-- the gate has its place in the log that was cut
pub gate_has_place : (block end gate size : ℕ) (files mid : Files) → mid ≡ changed (log_of block) (take end) files → end ≡ min size (gate + 1) → size ≡ length (files (log_of block)) → gate ≤ size → gate ≤ length (mid (log_of block))
gate_has_place block end gate size files mid one is size_is placed =
    let cut : length (mid (log_of block)) ≡ min end (length (files (log_of block))) = ap length (changed_log block (take end) files mid one) ∙ length-take end (files (log_of block)) in
    omega (arith, cut, is, size_is, placed)

-- a file of another block is no log of this one
pub later_file : (f : FileId) (block : ℕ) → block < f.block → same_file f (log_of block) ≡ false
later_file f block less = by (same_file f (log_of block)) refl
  where
    by : (b : Bool) → same_file f (log_of block) ≡ b → same_file f (log_of block) ≡ false
    by true e = absurd (let same : f.block ≡ block = ap (λ (g : FileId). g.block) (file_is f (log_of block) e) in omega (arith, less, same))
    by false e = e

-- ---- what recovers alike

abbrev pub Alike : Type 0
Alike =
    (files image : Files) (closed : List Block) (active : List Frame) (gate : ℕ) → Recovers files closed active
    → ((f : FileId) → f.block ≤ length closed → same_file f (log_of (length closed)) ≡ false → image f ≡ files f)
    → IsLog (image (log_of (length closed))) (1 + length (history_in closed)) active gate → Recovers image closed active

module _ (alike : Alike) {D : Type 0} (seen : D → Files) (may_leave : D → Files → Type 0) (disk : D) (block : ℕ) (tail : Tail) (closed : List Block) (active : List Frame) (read : IsRead seen may_leave disk block tail closed active) where
  abbrev log : FileId
  log = log_of block

  abbrev first : ℕ
  first = 1 + length (history_in closed)

  alike_here : (image : Files) → ((f : FileId) → f.block ≤ block → same_file f log ≡ false → image f ≡ seen disk f) → IsLog (image log) first active tail.gate → Recovers image closed active
  alike_here image same is =
      subst (λ (n : ℕ). ((f : FileId) → f.block ≤ n → same_file f (log_of n) ≡ false → image f ≡ seen disk f) → IsLog (image (log_of n)) first active tail.gate → Recovers image closed active)
      (sym read.number)
      (alike (seen disk) image closed active tail.gate read.recovers)
      same
      is

  -- each image of the disk recovers
  pub read_images : (image : Files) → may_leave disk image → Recovers image closed active
  read_images image left =
      alike_here image (λ f within other. read.durable image left f (omega (arith, within))) (subst (λ (l : List ℕ). IsLog l first active tail.gate) (sym (read.durable image left log (omega arith))) read.log)

  module _ (end : ℕ) (end_is : end ≡ min tail.size (tail.gate + 1)) where
    end_at : end ≡ min (length (seen disk log)) (tail.gate + 1)
    end_at = end_is ∙ ap (λ (n : ℕ). min n (tail.gate + 1)) read.size

    pub cut_images : (image : Files) → Reaches (Steps log (Cut end)) (may_leave disk) image → Recovers image closed active
    cut_images image r =
        let before = r.0 in
        let was = read.durable before r.1 in
        let here : Cut end (seen disk log) (image log) = subst (λ (l : List ℕ). Cut end l (image log)) (was log (omega arith)) r.2.here in
        alike_here image (λ f within other. r.2.others f other ∙ was f (omega (arith, within))) (cut_log (seen disk log) first tail.gate active read.log end end_at (image log) here)

    module _ (mid : Files) (may_leave_mid : Files → Type 0) (one : mid ≡ changed log (take end) (seen disk)) (durable_mid : IsDurable log mid may_leave_mid) (follows : Follows (Steps log (Cut end)) (may_leave disk) may_leave_mid) where
      mid_log : mid log ≡ take end (seen disk log)
      mid_log = changed_log block (take end) (seen disk) mid one

      pub gate_fits_mid : tail.gate ≤ length (mid log)
      gate_fits_mid = gate_fits (seen disk log) first tail.gate active read.log end end_at (mid log) mid_log

      pub gate_images : (image : Files) → Reaches (Steps log (Torn tail.gate 1)) may_leave_mid image → Recovers image closed active
      gate_images image r =
          let between = r.0 in
          let was = follows between r.1 in
          let seen_before = read.durable was.0 was.1 in
          let here : Torn tail.gate 1 (mid log) (image log) = subst (λ (l : List ℕ). Torn tail.gate 1 l (image log)) (durable_mid between r.1) r.2.here in
          alike_here image (λ f within other. r.2.others f other ∙ was.2.others f other ∙ seen_before f (omega (arith, within))) (torn_log (seen disk log) first tail.gate active read.log end end_at (mid log) mid_log (image log) here)

      pub rests_at_end : (new : D) → seen new ≡ changed log (written tail.gate (0 ∷ [])) mid → OthersStay log (seen disk) (seen new) → IsDurable log (seen new) (may_leave new)
          → Follows (Steps log (Torn tail.gate 1)) may_leave_mid (may_leave new) → Rests seen may_leave new block tail.gate (length (recovered closed active)) closed active
      rests_at_end new two others durable follows_new =
          let last_log : seen new log ≡ written tail.gate (0 ∷ []) (mid log) = changed_log block (written tail.gate (0 ∷ [])) mid (seen new) two in
          let is_log = written_log (seen disk log) first tail.gate active read.log end end_at (mid log) mid_log (seen new log) last_log in
          record {
            number = read.number;
            count = refl;
            log = is_log;
            last = written_ends (seen disk log) first tail.gate active read.log end end_at (mid log) mid_log (seen new log) last_log;
            durable = durable;
            recovers = alike_here (seen new) (λ f within other. others f other) is_log;
            images = λ image left. gate_images image (follows_new image left);
          }

-- ---- which files are on the disk afterwards

pub others_joined : (file : FileId) (files mid last : Files) → OthersStay file files mid → OthersStay file mid last → OthersStay file files last
others_joined file files mid last one two f other = two f other ∙ one f other

pub others_followed : (file : FileId) (step next : List ℕ → List ℕ → Type 0) (old between new : Files → Type 0) → Follows (Steps file step) old between → Follows (Steps file next) between new → Follows (OthersStay file) old new
others_followed file step next old between new one two image left =
    let last = two image left in
    let before = one last.0 last.1 in
    (before.0, before.1, λ f other. last.2.others f other ∙ before.2.others f other)

pub durable_after : (block : ℕ) (files last : Files) (old new : Files → Type 0) → OthersStay (log_of block) files last → Follows (OthersStay (log_of block)) old new → IsDurable (log_of block) last new
    → IsDurableBelow (block + 1) files old → IsDurableBelow (block + 1) last new
durable_after block files last old new others follows durable was image left f below =
    this_or_other f (log_of block) (image f ≡ last f)
    (λ same. ap image same ∙ durable image left ∙ sym (ap last same))
    (λ other. (let before = follows image left in before.2 f other ∙ was before.0 before.1 f below ∙ sym (others f other)))

pub settled_after : (block : ℕ) (files last : Files) (old new : Files → Type 0) → OthersStay (log_of block) files last → Follows (OthersStay (log_of block)) old new → IsDurableBelow (block + 1) last new
    → IsDurableFrom (block + 1) files old → Settled last new
settled_after block files last old new others follows durable was image left f =
    ⊎_elim
    (λ (below : f.block < block + 1). durable image left f below)
    (λ (above : block + 1 ≤ f.block). (let before = follows image left in let other = later_file f block (omega (arith, above)) in before.2 f other ∙ was before.0 before.1 f above ∙ sym (others f other)))
    (cases_lt f.block (block + 1))
