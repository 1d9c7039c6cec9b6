-- Files stand for one history, or are damaged at one place.
use Rattle.std.proofs.Common.{◌≡◌, ℕ, suc, ◌+◌, ◌-◌, ◌≤◌, inl, inr, true, false, List, [], ◌∷◌, ◌++◌, length, take, refl, sym, ◌∙◌, ap, subst, arith, length-append}
use Rattle.std.proofs.lemmas.List.{append-nil}
use Rattle.fd_kinds.specs.History.{History}
use Rattle.fd_device.specs.declared.files.FileId.{FileId}
use Rattle.fd_device.specs.Disks.{Files, Settled, same_file}
use Rattle.fd_wal.specs.Frames.{Frame}
use Rattle.fd_wal.specs.Logs.{history_of, is_rotated, IsOpen, IsClosed, IsLog, IsDamaged}
use Rattle.fd_keeper.specs.Blocks.{Block, Logged, log_of, seal_of, history_in, IsLogged, LeadOn, Recovers, RecoversTo, recovered, IsDamagedBlock, IsDamagedAt}
use Rattle.fd_keeper.specs.Keepers.{EndsWithClosedGate, Kept, Rests, Stands, HasAdded}
use Rattle.fd_keeper.proofs.Recovery.{same_log, same_blocks, earlier_file, lead_more, history_in_append}
use Rattle.fd_keeper.proofs.Growth.{recovered_append}

abbrev pub OneLog : Type 0
OneLog = (bytes : List ℕ) (first : ℕ) (frames others : List Frame) (gate place : ℕ) → IsLog bytes first frames gate → IsLog bytes first others place → frames ≡ others

abbrev pub LogOrDamage : Type 0
LogOrDamage = (bytes : List ℕ) (first : ℕ) (frames : List Frame) (gate at : ℕ) → IsLog bytes first frames gate → IsDamaged bytes first at → ⊥

abbrev pub OneDamage : Type 0
OneDamage = (bytes : List ℕ) (first at place : ℕ) → IsDamaged bytes first at → IsDamaged bytes first place → at ≡ place

-- no gate is both open and closed
open_and_closed : (bytes : List ℕ) → IsOpen bytes → IsClosed bytes → ⊥
open_and_closed [] opened closed = opened
open_and_closed (gate ∷ []) opened closed = opened
open_and_closed (gate ∷ next ∷ more) opened closed = closed opened

module _ (one_log : OneLog) (files : Files) where
  same_frames : (number first : ℕ) (frames others : List Frame) → IsLogged files number first frames → IsLogged files number first others → frames ≡ others
  same_frames number first frames others a b = one_log (files (log_of number)) first frames others a.gate b.gate a.log b.log

  -- what stands at a block where no ended log does
  abbrev Stops : (ℕ → ℕ → Type 0) → Type 0
  Stops E = (number first : ℕ) (frames : List Frame) → E number first → IsLogged files number first frames → is_rotated frames ≡ true → ⊥

  moved : (E : ℕ → ℕ → Type 0) (a b c d : ℕ) → a ≡ b → c ≡ d → E a c → E b d
  moved E a b c d one two e = subst (λ (n : ℕ). E n d) one (subst (λ (n : ℕ). E a n) two e)

  -- the blocks that lead on to such a one are the same
  same_closed : (E F : ℕ → ℕ → Type 0) → Stops E → Stops F → (number first : ℕ) (closed others : List Block) → LeadOn files number first closed → E (number + length closed) (first + length (history_in closed)) → LeadOn files number first others
      → F (number + length others) (first + length (history_in others)) → closed ≡ others
  same_closed E F stop_e stop_f number first [] [] lead e lead_other f = refl
  same_closed E F stop_e stop_f number first [] (Logged frames ∷ others) lead e lead_other f =
      absurd (stop_e number first frames (moved E (number + 0) number (first + 0) first (omega arith) (omega arith) e) lead_other.0 lead_other.1)
  same_closed E F stop_e stop_f number first (Logged frames ∷ closed) [] lead e lead_other f =
      absurd (stop_f number first frames (moved F (number + 0) number (first + 0) first (omega arith) (omega arith) f) lead.0 lead.1)
  same_closed E F stop_e stop_f number first (Logged frames ∷ closed) (Logged more ∷ others) lead e lead_other f =
      let same : frames ≡ more = same_frames number first frames more lead.0 lead_other.0 in
      let size : length (history_of more) ≡ length (history_of frames) = ap (λ (l : List Frame). length (history_of l)) (sym same) in
      let one : length (history_of frames ++ history_in closed) ≡ length (history_of frames) + length (history_in closed) = length-append (history_of frames) (history_in closed) in
      let two : length (history_of more ++ history_in others) ≡ length (history_of more) + length (history_in others) = length-append (history_of more) (history_in others) in
      let e_next = moved E (number + suc (length closed)) (number + 1 + length closed) (first + length (history_of frames ++ history_in closed)) (first + length (history_of frames) + length (history_in closed)) (omega arith) (omega (arith, one)) e in
      let f_next = moved F (number + suc (length others)) (number + 1 + length others) (first + length (history_of more ++ history_in others)) (first + length (history_of frames) + length (history_in others)) (omega arith) (omega (arith, two, size)) f in
      let lead_next : LeadOn files (number + 1) (first + length (history_of frames)) others = subst (λ (l : ℕ). LeadOn files (number + 1) (first + l) others) size lead_other.2 in
      ap (λ (l : List Frame). Logged l ∷ closed) same ∙ ap (λ (l : List Block). Logged more ∷ l) (same_closed E F stop_e stop_f (number + 1) (first + length (history_of frames)) closed others lead.2 e_next lead_next f_next)

  -- ---- the active block

  abbrev Active : List Frame → ℕ → ℕ → Type 0
  Active active number first = IsLogged files number first active

  active_stops : (active : List Frame) → is_rotated active ≡ false → Stops (Active active)
  active_stops active un number first frames is log rotated = no (sym rotated ∙ ap is_rotated (same_frames number first frames active log is) ∙ un)
    where
      no : true ≡ false → ⊥
      no e = cc e

  pub same_blocks_recovered : (closed others : List Block) (active frames : List Frame) → Recovers files closed active → Recovers files others frames → closed ≡ others
  same_blocks_recovered closed others active frames a b =
      same_closed (Active active) (Active frames) (active_stops active a.unended) (active_stops frames b.unended) 0 1 closed others a.before
      (moved (Active active) (length closed) (0 + length closed) (1 + length (history_in closed)) (1 + length (history_in closed)) (omega arith) refl a.last) b.before
      (moved (Active frames) (length others) (0 + length others) (1 + length (history_in others)) (1 + length (history_in others)) (omega arith) refl b.last)

  pub same_active_recovered : (closed others : List Block) (active frames : List Frame) → Recovers files closed active → Recovers files others frames → active ≡ frames
  same_active_recovered closed others active frames a b =
      let same = same_blocks_recovered closed others active frames a b in
      same_frames (length others) (1 + length (history_in others)) active frames (subst (λ (l : List Block). IsLogged files (length l) (1 + length (history_in l)) active) same a.last) b.last

  pub same_history_recovered : (history other : History) → RecoversTo history files → RecoversTo other files → history ≡ other
  same_history_recovered history other a b =
      let blocks = same_blocks_recovered a.closed b.closed a.active b.active a.blocks b.blocks in
      let last = same_active_recovered a.closed b.closed a.active b.active a.blocks b.blocks in
      sym a.is ∙ ap (λ (l : List Block). recovered l a.active) blocks ∙ ap (λ (l : List Frame). recovered b.closed l) last ∙ b.is

  -- ---- the damaged block

  module _ (log_or_damage : LogOrDamage) where
    abbrev Damaged : FileId → ℕ → ℕ → ℕ → Type 0
    Damaged file at number first = IsDamagedBlock files number first file at

    damage_stops : (file : FileId) (at : ℕ) → Stops (Damaged file at)
    damage_stops file at number first frames (inl seal) log rotated = open_and_closed (files (seal_of number)) seal.opened log.unsealed
    damage_stops file at number first frames (inr is) log rotated = log_or_damage (files (log_of number)) first frames log.gate at log.log is.log

    damage_in : (file : FileId) (at : ℕ) (is : IsDamagedAt files file at) → Damaged file at (0 + length is.closed) (1 + length (history_in is.closed))
    damage_in file at is = moved (Damaged file at) (length is.closed) (0 + length is.closed) (1 + length (history_in is.closed)) (1 + length (history_in is.closed)) (omega arith) refl is.damage

    same_blocks_damaged : (file other : FileId) (at place : ℕ) (a : IsDamagedAt files file at) (b : IsDamagedAt files other place) → a.closed ≡ b.closed
    same_blocks_damaged file other at place a b =
        same_closed (Damaged file at) (Damaged other place) (damage_stops file at) (damage_stops other place) 0 1 a.closed b.closed a.before (damage_in file at a) b.before (damage_in other place b)

    damage_at : (closed others : List Block) (file : FileId) (at : ℕ) → closed ≡ others → Damaged file at (length closed) (1 + length (history_in closed)) → Damaged file at (length others) (1 + length (history_in others))
    damage_at closed others file at same is = subst (λ (l : List Block). Damaged file at (length l) (1 + length (history_in l))) same is

    same_file_in : (file other : FileId) (at place number first : ℕ) → Damaged file at number first → Damaged other place number first → file ≡ other
    same_file_in file other at place number first (inl a) (inl b) = a.file_is ∙ sym b.file_is
    same_file_in file other at place number first (inl a) (inr b) = absurd (open_and_closed (files (seal_of number)) a.opened b.unsealed)
    same_file_in file other at place number first (inr a) (inl b) = absurd (open_and_closed (files (seal_of number)) b.opened a.unsealed)
    same_file_in file other at place number first (inr a) (inr b) = a.file_is ∙ sym b.file_is

    pub same_file_damaged : (file other : FileId) (at place : ℕ) → IsDamagedAt files file at → IsDamagedAt files other place → file ≡ other
    same_file_damaged file other at place a b =
        same_file_in file other at place (length b.closed) (1 + length (history_in b.closed)) (damage_at a.closed b.closed file at (same_blocks_damaged file other at place a b) a.damage) b.damage

    same_place_in : OneDamage → (file other : FileId) (at place number first : ℕ) → Damaged file at number first → Damaged other place number first → at ≡ place
    same_place_in one_damage file other at place number first (inl a) (inl b) = a.at_is ∙ sym b.at_is
    same_place_in one_damage file other at place number first (inl a) (inr b) = absurd (open_and_closed (files (seal_of number)) a.opened b.unsealed)
    same_place_in one_damage file other at place number first (inr a) (inl b) = absurd (open_and_closed (files (seal_of number)) b.opened a.unsealed)
    same_place_in one_damage file other at place number first (inr a) (inr b) = one_damage (files (log_of number)) first at place a.log b.log

    pub same_place_damaged : OneDamage → (file other : FileId) (at place : ℕ) → IsDamagedAt files file at → IsDamagedAt files other place → at ≡ place
    same_place_damaged one_damage file other at place a b =
        same_place_in one_damage file other at place (length b.closed) (1 + length (history_in b.closed)) (damage_at a.closed b.closed file at (same_blocks_damaged file other at place a b) a.damage) b.damage

    logged_and_damaged : (active : List Frame) (file : FileId) (at number first : ℕ) → IsLogged files number first active → Damaged file at number first → ⊥
    logged_and_damaged active file at number first log (inl seal) = open_and_closed (files (seal_of number)) seal.opened log.unsealed
    logged_and_damaged active file at number first log (inr is) = log_or_damage (files (log_of number)) first active log.gate at log.log is.log

    pub not_both : (closed : List Block) (active : List Frame) (file : FileId) (at : ℕ) → Recovers files closed active → IsDamagedAt files file at → ⊥
    not_both closed active file at a b =
        let same = same_closed (Active active) (Damaged file at) (active_stops active a.unended) (damage_stops file at) 0 1 closed b.closed a.before
        (moved (Active active) (length closed) (0 + length closed) (1 + length (history_in closed)) (1 + length (history_in closed)) (omega arith) refl a.last) b.before (damage_in file at b) in
        let log : IsLogged files (length b.closed) (1 + length (history_in b.closed)) active = subst (λ (l : List Block). IsLogged files (length l) (1 + length (history_in l)) active) same a.last in
        logged_and_damaged active file at (length b.closed) (1 + length (history_in b.closed)) log b.damage

-- ---- other files that recover to the same

-- all files of the blocks that recovery reaches are the same, but the log of the active one
abbrev pub SameReached : List Block → Files → Files → Type 0
SameReached closed files image = (f : FileId) → f.block ≤ length closed → same_file f (log_of (length closed)) ≡ false → image f ≡ files f

pub recovers_alike : (files image : Files) (closed : List Block) (active : List Frame) (gate : ℕ) → Recovers files closed active → SameReached closed files image
    → IsLog (image (log_of (length closed))) (1 + length (history_in closed)) active gate → Recovers image closed active
recovers_alike files image closed active gate was same log = record {
  before = same_blocks files image 0 1 closed (λ f less. same f (omega (arith, less)) (earlier_file f _ (length closed) (omega (arith, less)))) was.before;
  last = record { unsealed = subst IsClosed (sym (same (seal_of (length closed)) (omega arith) refl)) was.last.unsealed; gate = gate; log = log };
  unended = was.unended;
}

pub leads_further : (files : Files) (closed : List Block) (frames : List Frame) → LeadOn files 0 1 closed → IsLogged files (length closed) (1 + length (history_in closed)) frames → is_rotated frames ≡ true → LeadOn files 0 1 (closed ++ Logged frames ∷ [])
leads_further files closed frames lead is rotated = lead_more files 0 1 closed frames lead (subst (λ (n : ℕ). IsLogged files n (1 + length (history_in closed)) frames) (omega arith) is) rotated

pub history_further : (closed : List Block) (frames : List Frame) → history_in (closed ++ Logged frames ∷ []) ≡ history_in closed ++ history_of frames
history_further closed frames = history_in_append closed (Logged frames ∷ []) ∙ ap (λ (l : History). history_in closed ++ l) (append-nil (history_of frames))

-- ---- settled disks

pub settled_image : (files image : Files) (closed : List Block) (active : List Frame) → ((f : FileId) → image f ≡ files f) → Recovers files closed active → Recovers image closed active
settled_image files image closed active same was = record {
  before = same_blocks files image 0 1 closed (λ f less. same f) was.before;
  last = same_log files image (length closed) (1 + length (history_in closed)) active (same (seal_of (length closed))) (same (log_of (length closed))) was.last;
  unended = was.unended;
}

module _ {D : Type 0} (seen : D → Files) (may_leave : D → Files → Type 0) where
  pub settled_rests : (disk : D) (gate : ℕ) (closed : List Block) (active : List Frame) → Settled (seen disk) (may_leave disk) → Recovers (seen disk) closed active → IsLog (seen disk (log_of (length closed))) (1 + length (history_in closed)) active gate
      → EndsWithClosedGate gate (seen disk (log_of (length closed))) → Rests seen may_leave disk (length closed) gate (length (recovered closed active)) closed active
  settled_rests disk gate closed active settled was log last = record {
    number = refl;
    count = refl;
    log = log;
    last = last;
    durable = λ image left. settled image left (log_of (length closed));
    recovers = was;
    images = λ image left. settled_image (seen disk) image closed active (settled image left) was;
  }

  -- ---- what a keeper stands for

  pub kept_images : (kept : Kept D) (closed : List Block) (active : List Frame) (image : Files) → Stands seen may_leave kept closed active → may_leave kept.disk image → RecoversTo (recovered closed active) image
  kept_images kept closed active image stands left = record { closed = closed; active = active; blocks = stands.rests.images image left; is = refl }

  pub kept_more : (old new : Kept D) (closed : List Block) (active : List Frame) (batches : History) → HasAdded seen may_leave old closed active batches new
      → (frames : List Frame) × Stands seen may_leave new closed frames × (recovered closed frames ≡ recovered closed active ++ take (new.synced - old.synced) batches)
  kept_more old new closed active batches has =
      let gains = has.gains in
      let counts = gains.counts in
      let count : gains.count ≡ new.synced - old.synced = omega (arith, counts) in (
        active ++ gains.more,
        record { healthy = has.healthy; rests = gains.rests },
        recovered_append closed active gains.more ∙ ap (λ (l : History). recovered closed active ++ l) (gains.added ∙ ap (λ (k : ℕ). take k batches) count),
      )
