-- Going from block to block, and counting.
use Rattle.std.proofs.Common.{◌≡◌, ℕ, ◌+◌, ◌<◌, ◌≤◌, ◌^◌, Bool, true, false, List, [], ◌∷◌, ◌++◌, length, sym, ◌∙◌, ap, subst, arith, length-append}
use Rattle.std.specs.List.{sum_by}
use Rattle.std.proofs.lemmas.List.{length-map}
use Rattle.std.proofs.lemmas.List.Sums.{sum_by-append}
use Rattle.fd_kinds.specs.History.{History}
use Rattle.fd_device.specs.Disks.{Files}
use Rattle.fd_wal.specs.Frames.{Frame}
use Rattle.fd_wal.specs.Logs.{history_of, is_rotated, IsClosed, IsLog}
use Rattle.fd_wal.specs.Runs.{rows_in}
use Rattle.fd_keeper.specs.Blocks.{Block, Logged, log_of, seal_of, history_in, IsLogged, LeadOn, IsDamagedBlock}
use Rattle.fd_open.specs.declared.cause.OpenCause.{OpenCause}
use Rattle.fd_open.specs.declared.cause.OpenCause.TheVariants.{DiskFault, Damaged, NoMemory}
use Rattle.fd_open.specs.declared.reading.LogFound.{LogFound}
use Rattle.fd_open.specs.declared.counting.Found.{Found}
use Rattle.fd_open.specs.Causes.{TellsBlock, TellsDamage}
use Rattle.fd_open.specs.Counting.{IsFoundIn, CountsUpto, CountsBlock, Counts}
use Rattle.fd_open.specs.Barriers.{Quiet}
use Rattle.fd_open.proofs.Calls.{quiet_then}
use Rattle.fd_open.proofs.LogLimits.{found_numbered}

abbrev pub Further : Type 0
Further =
    (files : Files) (closed : List Block) (frames : List Frame) → LeadOn files 0 1 closed → IsLogged files (length closed) (1 + length (history_in closed)) frames → is_rotated frames ≡ true
    → LeadOn files 0 1 (closed ++ Logged frames ∷ [])

abbrev pub HistoryLaw : Type 0
HistoryLaw = (closed : List Block) (frames : List Frame) → history_in (closed ++ Logged frames ∷ []) ≡ history_in closed ++ history_of frames

pub counts_block : (files : Files) (old new : Found) (found : LogFound) → IsClosed (files (seal_of old.blocks)) → IsFoundIn (files (log_of old.blocks)) (old.numbers + 1) found → new.numbers ≡ old.numbers + length found.replayed.batches
    → new.rows ≡ old.rows + sum_by length (rows_in found.replayed.batches) → CountsBlock files old new found.replayed.rotated
counts_block files old new found unsealed is numbers rows =
    let numbered = found_numbered (files (log_of old.blocks)) (old.numbers + 1) found is in
    let count : length found.replayed.batches ≡ length (history_of is.frames) = sym (length-map found.replayed.batches _) ∙ ap length numbered.rows in
    record {
      frames = is.frames;
      gate = found.replayed.gate;
      unsealed = unsealed;
      log = is.log;
      ended = is.tells.rotated;
      numbers = numbers ∙ ap (λ (n : ℕ). old.numbers + n) count;
      rows = rows ∙ ap (λ (h : History). old.rows + sum_by length h) numbered.rows;
    }

-- ---- counts

pub counts_begin : (files : Files) (found : Found) → found.blocks ≡ 0 → found.numbers ≡ 0 → found.rows ≡ 0 → CountsUpto files [] found
counts_begin files found blocks numbers rows = record { lead = tt; blocks = blocks; numbers = numbers; rows = rows }

module _ (files : Files) (closed : List Block) (old new : Found) (upto : CountsUpto files closed old) where
  first_is : old.numbers + 1 ≡ 1 + length (history_in closed)
  first_is = let numbers = upto.numbers in omega (arith, numbers)

  counted : (more : Bool) (counts : CountsBlock files old new more) → IsLogged files (length closed) (1 + length (history_in closed)) counts.frames
  counted more counts = subst (λ (n : ℕ). IsLogged files n (1 + length (history_in closed)) counts.frames) upto.blocks (record {
    unsealed = counts.unsealed;
    gate = counts.gate;
    log = subst (λ (n : ℕ). IsLog (files (log_of old.blocks)) n counts.frames counts.gate) first_is counts.log;
  })

  pub counts_more : Further → HistoryLaw → new.blocks ≡ old.blocks + 1 → (counts : CountsBlock files old new true) → CountsUpto files (closed ++ Logged counts.frames ∷ []) new
  counts_more further history_law blocks counts =
      let long = ap length (history_law closed counts.frames) ∙ length-append (history_in closed) (history_of counts.frames) in
      let count = length-append closed (Logged counts.frames ∷ []) in
      let was = upto.blocks in
      let before = upto.numbers in
      let numbers = counts.numbers in
      record {
        lead = further files closed counts.frames upto.lead (counted true counts) (sym counts.ended);
        blocks = omega (arith, blocks, was, count);
        numbers = omega (arith, numbers, before, long);
        rows =
            counts.rows
            ∙ ap (λ (n : ℕ). n + sum_by length (history_of counts.frames)) upto.rows
            ∙ sym (ap (sum_by length) (history_law closed counts.frames) ∙ sum_by-append length (history_in closed) (history_of counts.frames));
      }

  pub counts_end : new.blocks ≡ old.blocks + 1 → CountsBlock files old new false → Counts files new
  counts_end blocks counts =
      let long = length-append (history_in closed) (history_of counts.frames) in
      let was = upto.blocks in
      let before = upto.numbers in
      let numbers = counts.numbers in
      record {
        closed = closed;
        active = counts.frames;
        recovers = record { before = upto.lead; last = counted false counts; unended = sym counts.ended };
        count = record {
          blocks = omega (arith, blocks, was);
          numbers = omega (arith, numbers, before, long);
          rows =
              counts.rows
              ∙ ap (λ (n : ℕ). n + sum_by length (history_of counts.frames)) upto.rows
              ∙ sym (sum_by-append length (history_in closed) (history_of counts.frames));
        };
      }

  pub counts_damage : (cause : OpenCause) → TellsBlock files old.blocks (old.numbers + 1) cause → TellsDamage files cause
  counts_damage (Damaged file at) tells = record {
    closed = closed;
    before = upto.lead;
    damage = subst (λ (n : ℕ). IsDamagedBlock files (length closed) n file at) first_is (subst (λ (n : ℕ). IsDamagedBlock files n (old.numbers + 1) file at) upto.blocks tells);
  }
  counts_damage DiskFault tells = tt
  counts_damage NoMemory tells = tt

-- ---- over a disk

pub record IsCounted (files : Files) (found : Found) : Type 0 where
  pub closed : List Block
  pub upto : CountsUpto files closed found

module _ {D : Type 0} (honest : D → Type 0) (seen : D → Files) (may_leave : D → Files → Type 0) (moment : D → ℕ) (left_since : D → ℕ → Files → Type 0) where
  -- Blocks of the disk, each of which leads on to the next, are counted.
  pub record CountWalked (old now : D) (found : Found) : Type 0 where
    pub quiet : Quiet honest seen may_leave moment left_since old now
    pub below : found.numbers < 2 ^ 63
    pub within : found.blocks ≤ found.numbers
    pub counted : honest old → IsCounted (seen old) found

  pub count_begins : (disk : D) (found : Found) → Quiet honest seen may_leave moment left_since disk disk → found.blocks ≡ 0 → found.numbers ≡ 0 → found.rows ≡ 0 → CountWalked disk disk found
  count_begins disk found quiet blocks numbers rows = record {
    quiet = quiet;
    below = omega (arith, numbers);
    within = omega (arith, numbers, blocks);
    counted = λ h. record { closed = []; upto = counts_begin (seen disk) found blocks numbers rows };
  }

  module _ (old now next : D) (found after : Found) (so_far : CountWalked old now found) (quiet : Quiet honest seen may_leave moment left_since now next) (blocks : after.blocks ≡ found.blocks + 1) where
    counts_before : (more : Bool) → (honest now → CountsBlock (seen now) found after more) → honest old → CountsBlock (seen old) found after more
    counts_before more counts h = subst (λ (files : Files). CountsBlock files found after more) (so_far.quiet.same h) (counts (so_far.quiet.honesty.0 h))

    pub count_on : Further → HistoryLaw → after.numbers < 2 ^ 63 → found.numbers < after.numbers → (honest now → CountsBlock (seen now) found after true) → CountWalked old next after
    count_on further history_law below more counts = record {
      quiet = quiet_then honest seen may_leave moment left_since old now next so_far.quiet quiet;
      below = below;
      within = (let was = so_far.within in omega (arith, was, more, blocks));
      counted = λ h.
          let counted = so_far.counted h in
          let block = counts_before true counts h in
          record { closed = counted.closed ++ Logged block.frames ∷ []; upto = counts_more (seen old) counted.closed found after counted.upto further history_law blocks block };
    }

    pub count_ends : (honest now → CountsBlock (seen now) found after false) → honest old → Counts (seen old) after
    count_ends counts h =
        let counted = so_far.counted h in
        counts_end (seen old) counted.closed found after counted.upto blocks (counts_before false counts h)

  pub count_damaged : (old now : D) (found : Found) → CountWalked old now found → (cause : OpenCause) → (honest now → TellsBlock (seen now) found.blocks (found.numbers + 1) cause) → honest old → TellsDamage (seen old) cause
  count_damaged old now found so_far cause tells h =
      let counted = so_far.counted h in
      counts_damage (seen old) counted.closed found found counted.upto cause
      (subst (λ (files : Files). TellsBlock files found.blocks (found.numbers + 1) cause) (so_far.quiet.same h) (tells (so_far.quiet.honesty.0 h)))
