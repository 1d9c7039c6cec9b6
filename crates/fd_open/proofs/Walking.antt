-- Going from block to block.
use Rattle.std.proofs.Common.{◌≡◌, ℕ, ◌+◌, ◌<◌, ◌≤◌, ⊎_elim, Bool, true, false, List, [], ◌∷◌, ◌++◌, length, refl, sym, ◌∙◌, ap, subst, arith, length-append}
use Rattle.std.specs.Prelude.{Option, Some, None}
use Rattle.std.proofs.lemmas.Bool.{cases_lt}
use Rattle.fd_kinds.specs.History.{History}
use Rattle.fd_kinds.specs.Parts.{PartMeaning}
use Rattle.fd_device.specs.Disks.{Files}
use Rattle.fd_shelf.specs.Books.{Book, Shelved}
use Rattle.fd_shelf.specs.Histories.{hist}
use Rattle.fd_wal.specs.Frames.{Frame}
use Rattle.fd_wal.specs.Logs.{history_of, is_rotated, IsClosed, IsLog}
use Rattle.fd_wal.specs.Runs.{rows_in}
use Rattle.fd_keeper.specs.Blocks.{Block, Logged, log_of, seal_of, history_in, IsLogged, Recovers, IsDamagedBlock}
use Rattle.fd_open.specs.declared.cause.OpenCause.{OpenCause}
use Rattle.fd_open.specs.declared.cause.OpenCause.TheVariants.{DiskFault, Damaged, NoMemory}
use Rattle.fd_open.specs.declared.reading.LogFound.{LogFound}
use Rattle.fd_open.specs.declared.tail.Tail.{Tail}
use Rattle.fd_open.specs.Barriers.{IsDurableAt, IsDurableBelow, Quiet}
use Rattle.fd_open.specs.Causes.{TellsBlock, TellsDamage}
use Rattle.fd_open.specs.Counting.{IsFoundIn}
use Rattle.fd_open.specs.Shelving.{parts_from, blocks_from, book_of, with_parts, Shelves, IsShelfOf, IsUpto, tail_if, tail_of, EndsAt, AddsBlock, Reads}
use Rattle.fd_open.proofs.Calls.{quiet_then}
use Rattle.fd_open.proofs.LogLimits.{found_numbered}
use Rattle.fd_open.proofs.CountWalks.{Further, HistoryLaw}

-- ---- one block

ends_if : (bytes : List ℕ) (frames : List Frame) (found : LogFound) (b : Bool) → b ≡ is_rotated frames → found.size ≡ length bytes → EndsAt bytes frames found.replayed.gate (tail_if b found)
ends_if bytes frames found true is size = sym is
ends_if bytes frames found false is size = (sym is, refl, size)

pub adds_block : (files : Files) (old new : Shelved) (found : LogFound) (tail : Option Tail) → IsClosed (files (seal_of (length old.book.closed))) → IsFoundIn (files (log_of (length old.book.closed))) (old.mark + 1) found
    → Shelves (rows_in found.replayed.batches) found.replayed.rotated old new → tail ≡ tail_of found → AddsBlock files old new tail
adds_block files old new found tail unsealed is shelves tail_is =
    let bytes = files (log_of (length old.book.closed)) in
    let numbered = found_numbered bytes (old.mark + 1) found is in
    record {
      frames = is.frames;
      gate = found.replayed.gate;
      unsealed = unsealed;
      log = is.log;
      ends = subst (EndsAt bytes is.frames found.replayed.gate) (sym tail_is) (ends_if bytes is.frames found found.replayed.rotated is.tells.rotated is.size);
      shelves =
          subst (λ (b : Bool). Shelves (history_of is.frames) b old new) is.tells.rotated
          (subst (λ (h : History). Shelves h found.replayed.rotated old new) numbered.rows shelves);
    }

-- what is behind the blocks of a shelf stays
pub alone_with : (rotated : Bool) (parts : List PartMeaning) (book : Book) → (with_parts rotated parts book).stragglers ≡ book.stragglers
alone_with true parts book = refl
alone_with false parts book = refl

pub shelves_alone : (batches : History) (rotated : Bool) (old new : Shelved) → Shelves batches rotated old new → old.book.stragglers ≡ [] → new.book.stragglers ≡ []
shelves_alone batches rotated old new shelves alone = ap (λ (b : Book). b.stragglers) shelves.book ∙ alone_with rotated (parts_from (old.mark + 1) batches) old.book ∙ alone

module _ {D : Type 0} (honest : D → Type 0) (seen : D → Files) (may_leave : D → Files → Type 0) (moment : D → ℕ) (left_since : D → ℕ → Files → Type 0)
    (old mid : D) (quiet : Quiet honest seen may_leave moment left_since old mid) (shelf : Shelved) (block first : ℕ) (block_is : block ≡ length shelf.book.closed) where
  -- the files of a block that were synced are on the disk after the calls that read them
  pub durable_here : (new : D) → Quiet honest seen may_leave moment left_since mid new → honest old → IsDurableAt block (seen old) (may_leave mid) → IsDurableAt (length shelf.book.closed) (seen old) (may_leave new)
  durable_here new next h durable image left f is = durable image (next.fewer (quiet.honesty.0 h) image left) f (is ∙ sym block_is)

  module _ (first_is : first ≡ shelf.mark + 1) where
    pub adds_here : (new : Shelved) (found : LogFound) (tail : Option Tail) → honest old → (honest mid → IsClosed (seen mid (seal_of block))) → (honest mid → IsFoundIn (seen mid (log_of block)) first found)
        → Shelves (rows_in found.replayed.batches) found.replayed.rotated shelf new → tail ≡ tail_of found → AddsBlock (seen old) shelf new tail
    adds_here new found tail h unsealed is shelves tail_is =
        let h_mid = quiet.honesty.0 h in
        subst (λ (files : Files). AddsBlock files shelf new tail) (quiet.same h)
        (adds_block (seen mid) shelf new found tail
        (subst (λ (n : ℕ). IsClosed (seen mid (seal_of n))) block_is (unsealed h_mid))
        (subst (λ (n : ℕ). IsFoundIn (seen mid (log_of n)) (shelf.mark + 1) found) block_is (subst (λ (n : ℕ). IsFoundIn (seen mid (log_of block)) n found) first_is (is h_mid)))
        shelves
        tail_is)

    pub told_here : (cause : OpenCause) → honest old → (honest mid → TellsBlock (seen mid) block first cause) → TellsBlock (seen old) (length shelf.book.closed) (shelf.mark + 1) cause
    told_here cause h tells =
        subst (λ (files : Files). TellsBlock files (length shelf.book.closed) (shelf.mark + 1) cause) (quiet.same h)
        (subst (λ (n : ℕ). TellsBlock (seen mid) n (shelf.mark + 1) cause) block_is
        (subst (λ (n : ℕ). TellsBlock (seen mid) block n cause) first_is (tells (quiet.honesty.0 h))))

-- ---- block after block

length_blocks : (first : ℕ) (blocks : List Block) → length (blocks_from first blocks) ≡ length blocks
length_blocks first [] = refl
length_blocks first (Logged frames ∷ blocks) = let rest = length_blocks (first + length (history_of frames)) blocks in omega (arith, rest)

blocks_more : (first : ℕ) (blocks : List Block) (frames : List Frame) → blocks_from first (blocks ++ Logged frames ∷ []) ≡ blocks_from first blocks ++ parts_from (first + length (history_in blocks)) (history_of frames) ∷ []
blocks_more first [] frames = ap (λ (n : ℕ). parts_from n (history_of frames) ∷ []) (omega arith)
blocks_more first (Logged before ∷ blocks) frames =
    let long : length (history_of before ++ history_in blocks) ≡ length (history_of before) + length (history_in blocks) = length-append (history_of before) (history_in blocks) in
    let at : first + length (history_of before) + length (history_in blocks) ≡ first + length (history_of before ++ history_in blocks) = omega (arith, long) in
    ap (λ (l : List (List PartMeaning)). parts_from first (history_of before) ∷ l) (blocks_more (first + length (history_of before)) blocks frames)
    ∙ ap (λ (n : ℕ). parts_from first (history_of before) ∷ (blocks_from (first + length (history_of before)) blocks ++ parts_from n (history_of frames) ∷ [])) at

pub length_closed : (closed : List Block) (active : List Frame) (book : Book) → book ≡ book_of closed active → length book.closed ≡ length closed
length_closed closed active book is = ap (λ (b : Book). length b.closed) is ∙ length_blocks 1 closed

-- a walk begins
pub upto_begins : (files : Files) (shelf : Shelved) → shelf.book ≡ record { closed = []; active = []; stragglers = [] } → shelf.mark ≡ 0 → IsUpto files [] shelf
upto_begins files shelf book mark = record {
  lead = tt;
  book = book;
  mark = mark;
  history = ap (hist shelf.book) mark;
}

module _ (files : Files) (closed : List Block) (old new : Shelved) (upto : IsUpto files closed old) where
  count : length old.book.closed ≡ length closed
  count = length_closed closed [] old.book upto.book

  next_first : old.mark + 1 ≡ 1 + length (history_in closed)
  next_first = let mark = upto.mark in omega (arith, mark)

  logged : (tail : Option Tail) (adds : AddsBlock files old new tail) → IsLogged files (length closed) (1 + length (history_in closed)) adds.frames
  logged tail adds = subst (λ (n : ℕ). IsLogged files n (1 + length (history_in closed)) adds.frames) count (record {
    unsealed = adds.unsealed;
    gate = adds.gate;
    log = subst (λ (n : ℕ). IsLog (files (log_of (length old.book.closed))) n adds.frames adds.gate) next_first adds.log;
  })

  pub upto_more : Further → HistoryLaw → (adds : AddsBlock files old new None) → IsUpto files (closed ++ Logged adds.frames ∷ []) new
  upto_more further history_law adds =
      let shelves : Shelves (history_of adds.frames) true old new = subst (λ (b : Bool). Shelves (history_of adds.frames) b old new) adds.ends adds.shelves in
      let long = ap length (history_law closed adds.frames) ∙ length-append (history_in closed) (history_of adds.frames) in
      let mark = shelves.mark in
      let was = upto.mark in
      record {
        lead = further files closed adds.frames upto.lead (logged None adds) adds.ends;
        book =
            shelves.book
            ∙ ap (with_parts true (parts_from (old.mark + 1) (history_of adds.frames))) upto.book
            ∙ ap (λ (n : ℕ). with_parts true (parts_from n (history_of adds.frames)) (book_of closed [])) next_first
            ∙ ap (λ (l : List (List PartMeaning)). record { closed = l; active = []; stragglers = [] }) (sym (blocks_more 1 closed adds.frames));
        mark = omega (arith, mark, was, long);
        history = shelves.history ∙ ap (λ (h : History). h ++ history_of adds.frames) upto.history ∙ sym (history_law closed adds.frames);
      }

  module _ (tail : Tail) (adds : AddsBlock files old new (Some tail)) where
    pub ends_recover : Recovers files closed adds.frames
    ends_recover = record { before = upto.lead; last = logged (Some tail) adds; unended = adds.ends.0 }

    ends_shelves : Shelves (history_of adds.frames) false old new
    ends_shelves = subst (λ (b : Bool). Shelves (history_of adds.frames) b old new) adds.ends.0 adds.shelves

    pub ends_shelf : IsShelfOf closed adds.frames new
    ends_shelf =
        let mark = ends_shelves.mark in
        let was = upto.mark in
        let long = length-append (history_in closed) (history_of adds.frames) in
        record {
          book =
              ends_shelves.book
              ∙ ap (with_parts false (parts_from (old.mark + 1) (history_of adds.frames))) upto.book
              ∙ ap (λ (n : ℕ). with_parts false (parts_from n (history_of adds.frames)) (book_of closed [])) next_first;
          mark = omega (arith, mark, was, long);
          history = ends_shelves.history ∙ ap (λ (h : History). h ++ history_of adds.frames) upto.history;
        }

    pub ends_log : IsLog (files (log_of (length closed))) (1 + length (history_in closed)) adds.frames tail.gate
    ends_log =
        subst (λ (n : ℕ). IsLog (files (log_of n)) (1 + length (history_in closed)) adds.frames tail.gate) count
        (subst (λ (n : ℕ). IsLog (files (log_of (length old.book.closed))) n adds.frames tail.gate) next_first
        (subst (λ (n : ℕ). IsLog (files (log_of (length old.book.closed))) (old.mark + 1) adds.frames n) (sym adds.ends.1) adds.log))

    pub ends_size : tail.size ≡ length (files (log_of (length closed)))
    ends_size = adds.ends.2 ∙ ap (λ (n : ℕ). length (files (log_of n))) count

  -- the next block is damaged
  pub damage_told : (cause : OpenCause) → TellsBlock files (length old.book.closed) (old.mark + 1) cause → TellsDamage files cause
  damage_told (Damaged file at) tells = record {
    closed = closed;
    before = upto.lead;
    damage = subst (λ (n : ℕ). IsDamagedBlock files (length closed) n file at) next_first (subst (λ (n : ℕ). IsDamagedBlock files n (old.mark + 1) file at) count tells);
  }
  damage_told DiskFault tells = tt
  damage_told NoMemory tells = tt

  -- the files of one block more are on the disk
  pub durable_more : (before now : Files → Type 0) → ((image : Files) → now image → before image) → IsDurableBelow (length old.book.closed) files before → IsDurableAt (length old.book.closed) files now
      → (number : ℕ) → number ≡ length closed + 1 → IsDurableBelow number files now
  durable_more before now fewer below here number is image left f less =
      ⊎_elim
      (λ (under : f.block < length old.book.closed). below image (fewer image left) f under)
      (λ (over : length old.book.closed ≤ f.block). here image left f (omega (arith, over, less, is, count)))
      (cases_lt f.block (length old.book.closed))

-- ---- over a disk

pub record IsWalked (files : Files) (shelf : Shelved) : Type 0 where
  pub closed : List Block
  pub upto : IsUpto files closed shelf

module _ {D : Type 0} (honest : D → Type 0) (seen : D → Files) (may_leave : D → Files → Type 0) (moment : D → ℕ) (left_since : D → ℕ → Files → Type 0) where
  -- Blocks of the disk are on the shelf, each of which leads on to the next, and their files are on the disk.
  pub record Walked (old now : D) (shelf : Shelved) : Type 0 where
    pub quiet : Quiet honest seen may_leave moment left_since old now
    pub empty : shelf.book.active ≡ []
    pub alone : shelf.book.stragglers ≡ []
    pub walked : honest old → IsWalked (seen old) shelf
    pub durable : honest old → IsDurableBelow (length shelf.book.closed) (seen old) (may_leave now)

  pub walk_begins : (disk : D) (shelf : Shelved) → Quiet honest seen may_leave moment left_since disk disk → shelf.book ≡ record { closed = []; active = []; stragglers = [] } → shelf.mark ≡ 0 → Walked disk disk shelf
  walk_begins disk shelf quiet book mark = record {
    quiet = quiet;
    empty = ap (λ (b : Book). b.active) book;
    alone = ap (λ (b : Book). b.stragglers) book;
    walked = λ h. record { closed = []; upto = upto_begins (seen disk) shelf book mark };
    durable = λ h image left f less. absurd (let none = ap (λ (b : Book). length b.closed) book in omega (arith, less, none));
  }

  module _ (old now next : D) (shelf after : Shelved) (so_far : Walked old now shelf) (quiet : Quiet honest seen may_leave moment left_since now next)
      (here : honest now → IsDurableAt (length shelf.book.closed) (seen now) (may_leave next)) where
    here_before : honest old → IsDurableAt (length shelf.book.closed) (seen old) (may_leave next)
    here_before h image left f is = here (so_far.quiet.honesty.0 h) image left f is ∙ ap (λ (files : Files). files f) (so_far.quiet.same h)

    fewer : honest old → (image : Files) → may_leave next image → may_leave now image
    fewer h = quiet.fewer (so_far.quiet.honesty.0 h)

    durable_to : (h : honest old) → IsDurableBelow (length (so_far.walked h).closed + 1) (seen old) (may_leave next)
    durable_to h =
        let walked = so_far.walked h in
        durable_more (seen old) walked.closed shelf after walked.upto (may_leave now) (may_leave next) (fewer h) (so_far.durable h) (here_before h) (length walked.closed + 1) refl

    pub walk_on : Further → HistoryLaw → after.book.active ≡ [] → after.book.stragglers ≡ [] → (honest now → AddsBlock (seen now) shelf after None) → Walked old next after
    walk_on further history_law empty alone adds = record {
      quiet = quiet_then honest seen may_leave moment left_since old now next so_far.quiet quiet;
      empty = empty;
      alone = alone;
      walked = λ h. let walked = so_far.walked h in
          let block = adds_before h in
          record { closed = walked.closed ++ Logged block.frames ∷ []; upto = upto_more (seen old) walked.closed shelf after walked.upto further history_law block };
      durable = λ h.
          let walked = so_far.walked h in
          let block = adds_before h in
          let upto = upto_more (seen old) walked.closed shelf after walked.upto further history_law block in
          let long = length-append walked.closed (Logged block.frames ∷ []) in
          let count = length_closed (walked.closed ++ Logged block.frames ∷ []) [] after.book upto.book in
          subst (λ (n : ℕ). IsDurableBelow n (seen old) (may_leave next)) (sym (count ∙ long)) (durable_to h);
    }
      where
        adds_before : honest old → AddsBlock (seen old) shelf after None
        adds_before h = subst (λ (files : Files). AddsBlock files shelf after None) (so_far.quiet.same h) (adds (so_far.quiet.honesty.0 h))

    pub walk_ends : (tail : Tail) → (honest now → AddsBlock (seen now) shelf after (Some tail)) → honest old → Reads seen may_leave old next after tail
    walk_ends tail adds h =
        let walked = so_far.walked h in
        let h_now = so_far.quiet.honesty.0 h in
        let block : AddsBlock (seen old) shelf after (Some tail) = subst (λ (files : Files). AddsBlock files shelf after (Some tail)) (so_far.quiet.same h) (adds h_now) in
        let same : seen old ≡ seen next = sym (quiet.same h_now ∙ so_far.quiet.same h) in
        record {
          closed = walked.closed;
          active = block.frames;
          shelf_is = ends_shelf (seen old) walked.closed shelf after walked.upto tail block;
          read = record {
            number = refl;
            recovers = subst (λ (files : Files). Recovers files walked.closed block.frames) same (ends_recover (seen old) walked.closed shelf after walked.upto tail block);
            log = subst (λ (files : Files). IsLog (files (log_of (length walked.closed))) (1 + length (history_in walked.closed)) block.frames tail.gate) same (ends_log (seen old) walked.closed shelf after walked.upto tail block);
            size = ends_size (seen old) walked.closed shelf after walked.upto tail block ∙ ap (λ (files : Files). length (files (log_of (length walked.closed)))) same;
            durable = subst (λ (files : Files). IsDurableBelow (length walked.closed + 1) files (may_leave next)) same (durable_to h);
          };
        }

  pub walk_damaged : (old now : D) (shelf : Shelved) → Walked old now shelf → (cause : OpenCause) → (honest now → TellsBlock (seen now) (length shelf.book.closed) (shelf.mark + 1) cause) → honest old → TellsDamage (seen old) cause
  walk_damaged old now shelf so_far cause tells h =
      let walked = so_far.walked h in
      damage_told (seen old) walked.closed shelf shelf walked.upto cause
      (subst (λ (files : Files). TellsBlock files (length shelf.book.closed) (shelf.mark + 1) cause) (so_far.quiet.same h) (tells (so_far.quiet.honesty.0 h)))
