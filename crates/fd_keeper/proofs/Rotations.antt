-- What a disk stands for while a log is ended and the next one is made.
use Rattle.std.proofs.Common.{◌≡◌, ℕ, ◌+◌, ◌<◌, ◌≤◌, ◌^◌, ◌⊎◌, inl, inr, ⊎_elim, Bool, true, false, nat_eq, List, [], ◌∷◌, ◌++◌, length, take, refl, sym, ◌∙◌, ap, subst, arith, length-append, eq-eqb}
use Rattle.std.proofs.lemmas.List.{append-nil}
use Rattle.std.proofs.lemmas.Bool.{cond-true, eqb-true}
use Rattle.fd_kinds.specs.History.{History}
use Rattle.fd_device.specs.declared.files.FileId.{FileId}
use Rattle.fd_device.specs.Disks.{Files, same_file, changed, written, Torn, Cut, Steps, Reaches, Follows, OthersStay, IsDurable}
use Rattle.fd_wal.specs.Frames.{Frame, Rotation, frame_bytes}
use Rattle.fd_wal.specs.Logs.{history_of, is_rotated, IsClosed, IsLog}
use Rattle.fd_keeper.specs.Blocks.{Block, Logged, log_of, seal_of, history_in, IsLogged, LeadOn, Recovers, RecoversTo, recovered}
use Rattle.fd_keeper.specs.Keepers.{EndsWithClosedGate, Appends, OthersOf, OthersAt, Rests, IsEmptyBlock, IsLast, ended}
use Rattle.fd_keeper.proofs.Recovery.{SameBelow, earlier_file, same_log, same_blocks, lead_more, history_append, history_in_append, rotated_append, new_log}
use Rattle.fd_keeper.proofs.Growth.{Opens, grown_log, logged_anew, same_before, recovers_anew}

-- ---- the seal and the log of the next block are emptied

changed_seal : (block : ℕ) (change : List ℕ → List ℕ) (files next : Files) → next ≡ changed (seal_of block) change files → next (seal_of block) ≡ change (files (seal_of block))
changed_seal block change files next is =
    ap (λ (g : Files). g (seal_of block)) is ∙ cond-true (same_file (seal_of block) (seal_of block)) (change (files (seal_of block))) (files (seal_of block)) (eq-eqb block block refl)

changed_log : (block : ℕ) (change : List ℕ → List ℕ) (files next : Files) → next ≡ changed (log_of block) change files → next (log_of block) ≡ change (files (log_of block))
changed_log block change files next is =
    ap (λ (g : Files). g (log_of block)) is ∙ cond-true (same_file (log_of block) (log_of block)) (change (files (log_of block))) (files (log_of block)) (eq-eqb block block refl)

module _ (block : ℕ) (first mid last : Files) (old between new : Files → Type 0) where
  abbrev seal : FileId
  seal = seal_of block

  abbrev log : FileId
  log = log_of block

  pub cut_seal_images : (image : Files) → Reaches (Steps seal (Cut 0)) old image → Reaches (OthersOf block) old image
  cut_seal_images image r = (r.0, r.1, λ f apart other. r.2.others f apart)

  pub cut_log_images : Follows (Steps seal (Cut 0)) old between → (image : Files) → Reaches (Steps log (Cut 0)) between image → Reaches (OthersOf block) old image
  cut_log_images follows image r = let was = follows r.0 r.1 in (was.0, was.1, λ f apart other. r.2.others f other ∙ was.2.others f apart)

  pub both_cut : OthersStay seal first mid → OthersStay log mid last → OthersOf block first last
  both_cut one two f apart other = two f other ∙ one f apart

  pub seal_is_cut : mid ≡ changed seal (take 0) first → OthersStay log mid last → last seal ≡ []
  seal_is_cut one two = two seal refl ∙ changed_seal block (take 0) first mid one

  pub seal_images_cut : mid ≡ changed seal (take 0) first → IsDurable seal mid between → Follows (Steps log (Cut 0)) between new → (image : Files) → new image → image seal ≡ []
  seal_images_cut one durable follows image left = let was = follows image left in was.2.others seal refl ∙ durable was.0 was.1 ∙ changed_seal block (take 0) first mid one

  pub log_is_cut : last ≡ changed log (take 0) mid → last log ≡ []
  log_is_cut two = changed_log block (take 0) mid last two

  pub log_images_cut : last ≡ changed log (take 0) mid → IsDurable log last new → (image : Files) → new image → image log ≡ []
  log_images_cut two durable image left = durable image left ∙ changed_log block (take 0) mid last two

-- ---- the blocks up to the active one stay

others_below : (block : ℕ) (old new : Files) → OthersOf (block + 1) old new → SameBelow (block + 1) old new
others_below block old new others f less = others f (earlier_file f _ (block + 1) less) (earlier_file f _ (block + 1) less)

pub same_recovers : (block : ℕ) (old new : Files) (closed : List Block) (active : List Frame) → block ≡ length closed → OthersOf (block + 1) old new → Recovers old closed active → Recovers new closed active
same_recovers block old new closed active number others was =
    let same = others_below block old new others in
    record {
      before = same_blocks old new 0 1 closed (λ f less. same f (omega (arith, less, number))) was.before;
      last = same_log old new (length closed) (1 + length (history_in closed)) active (same (seal_of (length closed)) (omega (arith, number))) (same (log_of (length closed)) (omega (arith, number))) was.last;
      unended = was.unended;
    }

-- ---- the next block

unlike : (a b : ℕ) (t : Bool) → nat_eq a b ≡ t → (a ≡ b → ⊥) → nat_eq a b ≡ false
unlike a b true is other = absurd (other (eqb-true a b is))
unlike a b false is other = is

-- a rotated log, and an empty next one
turned : (block : ℕ) (files : Files) (closed : List Block) (active : List Frame) (hi : ℕ) → block ≡ length closed → is_rotated active ≡ false → LeadOn files 0 1 closed → IsLogged files (length closed) (1 + length (history_in closed)) (active ++ Rotation hi ∷ [])
    → files (seal_of (block + 1)) ≡ [] → length (files (log_of (block + 1))) ≤ 1 → Recovers files (ended closed active hi) []
turned block files closed active hi number un lead last seal short =
    let grown = active ++ Rotation hi ∷ [] in
    let long : length (ended closed active hi) ≡ length closed + 1 = length-append closed (Logged grown ∷ []) in
    let at : block + 1 ≡ length (ended closed active hi) = omega (arith, long, number) in
    record {
      before = lead_more files 0 1 closed grown lead (subst (λ (n : ℕ). IsLogged files n (1 + length (history_in closed)) grown) (omega arith) last) (rotated_append active (Rotation hi ∷ []) un);
      last = subst (λ (n : ℕ). IsLogged files n (1 + length (history_in (ended closed active hi))) []) at (record {
        unsealed = subst IsClosed (sym seal) tt;
        gate = 0;
        log = new_log (files (log_of (block + 1))) (1 + length (history_in (ended closed active hi))) short;
      });
      unended = refl;
    }

pub same_history : (closed : List Block) (active : List Frame) (hi : ℕ) → recovered (ended closed active hi) [] ≡ recovered closed active
same_history closed active hi =
    append-nil (history_in (ended closed active hi))
    ∙ history_in_append closed (Logged (active ++ Rotation hi ∷ []) ∷ [])
    ∙ ap (λ (l : History). history_in closed ++ l) (append-nil (history_of (active ++ Rotation hi ∷ [])) ∙ history_append active (Rotation hi ∷ []) ∙ append-nil (history_of active))

pub recovers_same : (closed : List Block) (active : List Frame) (image : Files) → Recovers image closed active → RecoversTo (recovered closed active) image
recovers_same closed active image is = record { closed = closed; active = active; blocks = is; is = refl }

module _ {D : Type 0} (seen : D → Files) (may_leave : D → Files → Type 0) (block gate synced : ℕ) (closed : List Block) (active : List Frame) where
  -- the images while the next block is emptied
  pub cleared_images : (disk : D) → Rests seen may_leave disk block gate synced closed active → (image : Files) → Reaches (OthersOf (block + 1)) (may_leave disk) image → RecoversTo (recovered closed active) image
  cleared_images disk rests image r = recovers_same closed active image (same_recovers block r.0 image closed active rests.number r.2 (rests.images r.0 r.1))

  pub rests_cleared : (disk new : D) → Rests seen may_leave disk block gate synced closed active → OthersOf (block + 1) (seen disk) (seen new) → Follows (OthersOf (block + 1)) (may_leave disk) (may_leave new) → Rests seen may_leave new block gate synced closed active
  rests_cleared disk new rests others crash =
      let same : seen new (log_of block) ≡ seen disk (log_of block) = others_below block (seen disk) (seen new) others (log_of block) (omega arith) in
      record {
        number = rests.number;
        count = rests.count;
        log = subst (λ (l : List ℕ). IsLog l (1 + length (history_in closed)) active gate) (sym same) rests.log;
        last = subst (EndsWithClosedGate gate) (sym same) rests.last;
        durable = λ image left. let was = crash image left in others_below block was.0 image was.2 (log_of block) (omega arith) ∙ rests.durable was.0 was.1 ∙ sym same;
        recovers = same_recovers block (seen disk) (seen new) closed active rests.number others rests.recovers;
        images = λ image left. let was = crash image left in same_recovers block was.0 image closed active rests.number was.2 (rests.images was.0 was.1);
      }

  -- ---- the log is ended

  module _ (disk : D) (rests : Rests seen may_leave disk block gate synced closed active) (empty : IsEmptyBlock seen may_leave disk (block + 1)) (opens : Opens) (frame : List ℕ) (hi : ℕ) (last : IsLast closed active frame hi) where
    abbrev grown : List Frame
    grown = active ++ Rotation hi ∷ []

    next_log_other : same_file (log_of (block + 1)) (log_of block) ≡ false
    next_log_other = unlike (block + 1) block (nat_eq (block + 1) block) refl (λ e. omega (arith, e))

    -- an image where the frame stands behind the gate, by what it was before
    turned_or_not : (before image : Files) → Recovers before closed active → IsLog (before (log_of block)) (1 + length (history_in closed)) active gate → before (seal_of (block + 1)) ≡ [] → before (log_of (block + 1)) ≡ []
        → Steps (log_of block) (Appends gate frame) before image → Recovers image closed active ⊎ Recovers image (ended closed active hi) []
    turned_or_not before image was log seal next steps =
        elim (grown_log opens gate (1 + length (history_in closed)) active (Rotation hi) (before (log_of block)) (image (log_of block)) last.right log (subst (λ (l : List ℕ). Appends gate l (before (log_of block)) (image (log_of block))) last.spelled steps.here)) [
          | inl l ↦ inl (recovers_anew block closed rests.number before image active active l.0 steps.others was l.1 was.unended)
          | inr l ↦ inr (turned block image closed active hi rests.number was.unended (same_before block closed rests.number before image steps.others was.before)
              (logged_anew block closed rests.number before image active grown l.0 steps.others was l.1) (steps.others (seal_of (block + 1)) refl ∙ seal)
              (let e : length (image (log_of (block + 1))) ≡ 0 = ap length (steps.others (log_of (block + 1)) next_log_other ∙ next) in omega (arith, e)))
        ]

    log_in : (image : Files) → may_leave disk image → IsLog (image (log_of block)) (1 + length (history_in closed)) active gate
    log_in image left = subst (λ (l : List ℕ). IsLog l (1 + length (history_in closed)) active gate) (sym (rests.durable image left)) rests.log

    recovers_turned : (image : Files) → Recovers image (ended closed active hi) [] → RecoversTo (recovered closed active) image
    recovers_turned image is = record { closed = ended closed active hi; active = []; blocks = is; is = same_history closed active hi }

    -- the images while it is
    pub ending_images : (image : Files) → Reaches (Steps (log_of block) (Appends gate frame)) (may_leave disk) image → RecoversTo (recovered closed active) image
    ending_images image r =
        ⊎_elim (recovers_same closed active image) (recovers_turned image)
        (turned_or_not r.0 image (rests.images r.0 r.1) (log_in r.0 r.1) (empty.seal_images r.0 r.1) (empty.log_images r.0 r.1) r.2)

    -- ---- the next log is made

    module _ (mid : D) (done : seen mid (log_of block) ≡ take gate (seen disk (log_of block)) ++ 1 ∷ frame) (others : OthersStay (log_of block) (seen disk) (seen mid)) (durable : IsDurable (log_of block) (seen mid) (may_leave mid)) (crash : Follows (Steps (log_of block) (Appends gate frame)) (may_leave disk) (may_leave mid)) where
      abbrev place : ℕ
      place = gate + 1 + length (frame_bytes (Rotation hi))

      mid_log : IsLog (seen mid (log_of block)) (1 + length (history_in closed)) grown place
      mid_log =
          subst (λ (l : List ℕ). IsLog l (1 + length (history_in closed)) grown place) (ap (λ (l : List ℕ). take gate (seen disk (log_of block)) ++ 1 ∷ l) (sym last.spelled) ∙ sym done)
          (opens (seen disk (log_of block)) [] (1 + length (history_in closed)) active gate (Rotation hi) rests.log last.right)

      -- files that are the present ones but for the log of the next block
      mid_turned : (before image : Files) → Recovers before closed active → OthersStay (log_of block) before image → image (log_of block) ≡ seen mid (log_of block) → before (seal_of (block + 1)) ≡ [] → before (log_of (block + 1)) ≡ [] → Recovers image (ended closed active hi) []
      mid_turned before image was stay same seal next =
          turned block image closed active hi rests.number was.unended (same_before block closed rests.number before image stay was.before)
          (logged_anew block closed rests.number before image active grown place stay was (subst (λ (l : List ℕ). IsLog l (1 + length (history_in closed)) grown place) (sym same) mid_log))
          (stay (seal_of (block + 1)) refl ∙ seal)
          (let e : length (image (log_of (block + 1))) ≡ 0 = ap length (stay (log_of (block + 1)) next_log_other ∙ next) in omega (arith, e))

      mid_images : (image : Files) → may_leave mid image → Recovers image (ended closed active hi) []
      mid_images image left = let was = crash image left in mid_turned was.0 image (rests.images was.0 was.1) was.2.others (durable image left) (empty.seal_images was.0 was.1) (empty.log_images was.0 was.1)

      mid_next : seen mid (log_of (block + 1)) ≡ []
      mid_next = others (log_of (block + 1)) next_log_other ∙ empty.log

      mid_next_images : (image : Files) → may_leave mid image → image (log_of (block + 1)) ≡ []
      mid_next_images image left = let was = crash image left in was.2.others (log_of (block + 1)) next_log_other ∙ empty.log_images was.0 was.1

      counted : block + 1 ≡ length (ended closed active hi)
      counted = let long : length (ended closed active hi) ≡ length closed + 1 = length-append closed (Logged grown ∷ []) in let n = rests.number in omega (arith, long, n)

      -- files whose next log has at most one byte
      made : (before image : Files) → Recovers before (ended closed active hi) [] → OthersStay (log_of (block + 1)) before image → length (image (log_of (block + 1))) ≤ 1 → Recovers image (ended closed active hi) []
      made before image was stay short = recovers_anew (block + 1) (ended closed active hi) counted before image [] [] 0 stay was (new_log (image (log_of (block + 1))) (1 + length (history_in (ended closed active hi))) short) refl

      pub making_images : (image : Files) → Reaches (Steps (log_of (block + 1)) (Torn 0 1)) (may_leave mid) image → RecoversTo (recovered closed active) image
      making_images image r =
          let torn = r.2.here.no_longer in
          let e : length (r.0 (log_of (block + 1))) ≡ 0 = ap length (mid_next_images r.0 r.1) in
          recovers_turned image (made r.0 image (mid_images r.0 r.1) r.2.others (omega (arith, torn, e)))

      module _ (new : D) (two : seen new ≡ changed (log_of (block + 1)) (written 0 (0 ∷ [])) (seen mid)) (stay : OthersStay (log_of (block + 1)) (seen mid) (seen new)) (settled : IsDurable (log_of (block + 1)) (seen new) (may_leave new)) (follows : Follows (Steps (log_of (block + 1)) (Torn 0 1)) (may_leave mid) (may_leave new)) where
        one_byte : seen new (log_of (block + 1)) ≡ 0 ∷ []
        one_byte = changed_log (block + 1) (written 0 (0 ∷ [])) (seen mid) (seen new) two ∙ ap (λ (l : List ℕ). written 0 (0 ∷ []) l) mid_next

        pub rests_turned : Rests seen may_leave new (block + 1) 0 synced (ended closed active hi) []
        rests_turned = record {
          number = counted;
          count = rests.count ∙ sym (ap length (same_history closed active hi));
          log = new_log (seen new (log_of (block + 1))) (1 + length (history_in (ended closed active hi))) (let e : length (seen new (log_of (block + 1))) ≡ 1 = ap length one_byte in omega (arith, e));
          last = record { front = []; place = refl; whole = one_byte };
          durable = settled;
          recovers = made (seen mid) (seen new) (mid_turned (seen disk) (seen mid) rests.recovers others refl empty.seal empty.log) stay (let e : length (seen new (log_of (block + 1))) ≡ 1 = ap length one_byte in omega (arith, e));
          images = λ image left.
              let was = follows image left in
              let torn = was.2.here.no_longer in
              let e : length (was.0 (log_of (block + 1))) ≡ 0 = ap length (mid_next_images was.0 was.1) in
              made was.0 image (mid_images was.0 was.1) was.2.others (omega (arith, torn, e));
        }

-- ---- what a file that stays keeps

pub log_kept : (block gate : ℕ) (old new : Files) → OthersOf (block + 1) old new → EndsWithClosedGate gate (old (log_of block)) → EndsWithClosedGate gate (new (log_of block))
log_kept block gate old new others ends = subst (EndsWithClosedGate gate) (sym (others_below block old new others (log_of block) (omega arith))) ends

pub durable_kept : (block : ℕ) (old new : Files) (may_leave may_leave_new : Files → Type 0) → OthersOf (block + 1) old new → Follows (OthersOf (block + 1)) may_leave may_leave_new → IsDurable (log_of block) old may_leave → IsDurable (log_of block) new may_leave_new
durable_kept block old new may_leave may_leave_new others crash durable image left =
    let was = crash image left in
    others_below block was.0 image was.2 (log_of block) (omega arith) ∙ durable was.0 was.1 ∙ sym (others_below block old new others (log_of block) (omega arith))

-- ---- the other files stay

pub clearing_others : (block : ℕ) (old : Files → Type 0) (image : Files) → Reaches (OthersOf (block + 1)) old image → Reaches (OthersAt block) old image
clearing_others block old image r = (r.0, r.1, λ f log seal next. r.2 f seal next)

pub ending_others : (block gate : ℕ) (frame : List ℕ) (old cleared : Files → Type 0) → Follows (OthersOf (block + 1)) old cleared → (image : Files) → Reaches (Steps (log_of block) (Appends gate frame)) cleared image → Reaches (OthersAt block) old image
ending_others block gate frame old cleared crash image r = let was = crash r.0 r.1 in (was.0, was.1, λ f log seal next. r.2.others f log ∙ was.2 f seal next)

pub making_others : (block gate : ℕ) (frame : List ℕ) (old cleared appended : Files → Type 0) → Follows (OthersOf (block + 1)) old cleared → Follows (Steps (log_of block) (Appends gate frame)) cleared appended → (image : Files) → Reaches (Steps (log_of (block + 1)) (Torn 0 1)) appended image
    → Reaches (OthersAt block) old image
making_others block gate frame old cleared appended crash follows image r =
    let was = follows r.0 r.1 in
    let before = crash was.0 was.1 in
    (before.0, before.1, λ f log seal next. r.2.others f next ∙ was.2.others f log ∙ before.2 f seal next)

-- the rotation goes on behind the active block's frames
pub last_is : {D : Type 0} (seen : D → Files) (may_leave : D → Files → Type 0) (disk : D) (block gate synced : ℕ) (closed : List Block) (active : List Frame) → Rests seen may_leave disk block gate synced closed active → 0 < length (history_of active) → synced < 2 ^ 63
    → (frame bytes : List ℕ) → frame ≡ frame_bytes (Rotation synced) → bytes ≡ frame ++ 0 ∷ [] → IsLast closed active bytes synced
last_is seen may_leave disk block gate synced closed active rests used below frame bytes spelled same = record {
  spelled = same ∙ ap (λ (l : List ℕ). l ++ 0 ∷ []) spelled;
  right =
      let was = rests.count in
      let long : length (recovered closed active) ≡ length (history_in closed) + length (history_of active) = length-append (history_in closed) (history_of active) in
      record { unended = rests.recovers.unended; some = used; next = omega (arith, was, long); below = below };
}
