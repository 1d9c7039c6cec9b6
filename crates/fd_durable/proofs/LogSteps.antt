-- A shelf and its logs, before and after what a write does to them.
use Rattle.std.specs.Prelude.{◌≡◌, ◌⊎◌, ℕ, zero, suc, ◌+◌, ◌-◌, ◌<◌, ◌≤◌, Bool, true, false, if◌then◌else◌, List, [], ◌∷◌, ◌++◌, length, map, flat_map, filter, take, IsPermutation, All, Result, Ok, Err, is_err, refl}
use Rattle.std.proofs.Common.{arith, ap, sym, ◌∙◌, subst, inl, inr, ⊎_elim, true≢false}
use Rattle.std.proofs.lemmas.List.{append-nil, append_assoc, length-append, length-map, map-append, take_all}
use Rattle.std.proofs.lemmas.List.Concat.{flat_map-cons}
use Rattle.std.proofs.lemmas.List.Elements.{All-head}
use Rattle.std.proofs.lemmas.List.Sums.{sum_by-append}
use Rattle.fd_kinds.specs.declared.row.Row.{Row}
use Rattle.fd_kinds.specs.declared.batch.NumberedBatch.{NumberedBatch}
use Rattle.fd_kinds.specs.declared.limits.TheConstants.{MOST_BATCH_BYTES}
use Rattle.fd_kinds.specs.History.{History, upto}
use Rattle.fd_kinds.specs.Parts.{PartMeaning, rows_of}
use Rattle.fd_device.specs.Disks.{Files}
use Rattle.fd_shelf.specs.declared.limits.TheConstants.{FULL_BYTES, FULL_ROWS}
use Rattle.fd_shelf.specs.Books.{Book, Shelved, Each, Follows, IsUsed, settled_parts, rows_in, bytes_of}
use Rattle.fd_shelf.specs.Histories.{hist}
use Rattle.fd_shelf.specs.Marks.{IsBook}
use Rattle.fd_shelf.specs.Steps.{highest, is_full, is_upto, IsWholeAt}
use Rattle.fd_wal.specs.declared.limits.TheConstants.{MOST_LOG_BYTES}
use Rattle.fd_wal.specs.Frames.{Frame, Transactions, Rotation, rows_size, batches_size}
use Rattle.fd_wal.specs.Logs.{history_of}
use Rattle.fd_wal.specs.Runs.{rows_in as rows_of_batches, IsSmallBatch}
use Rattle.fd_keeper.specs.Blocks.{Block, Logged, batches_in, history_in, recovered}
use Rattle.fd_keeper.specs.Keepers.{Kept, Stands, HasRoom, ended}
use Rattle.fd_keeper.specs.declared.faults.KeeperFault.{KeeperFault}
use Rattle.fd_keeper.specs.declared.faults.KeeperFault.TheVariants.{NoMemory, DiskFault, Stopped}
use Rattle.fd_durable.specs.Logs.{ends_behind, HasBlocks, IsLevel, IsAhead, IsReady, StandsFor, IsReadyFor, HasLogged}
use Rattle.fd_durable.proofs.BlockEnds.{IsCut, last_behind, cut_follows, logs_end, logs_pushed, blocks_end, used_ends, used_reaches, reaches}
use Rattle.fd_durable.proofs.LogRoom.{back_size}

ends_counted : (before : ℕ) (closed : List Block) → length (ends_behind before closed) ≡ length closed
ends_counted before [] = refl
ends_counted before (b ∷ bs) = ap suc (ends_counted (before + length (batches_in b)) bs)

-- as many logs as blocks
pub as_many_blocks : (closed : List Block) (blocks : List (List PartMeaning)) → HasBlocks closed blocks → length blocks ≡ length closed
as_many_blocks closed blocks has = sym (length-map blocks highest) ∙ ap length has ∙ ends_counted 0 closed

full_used : (block : List PartMeaning) → is_full block ≡ true → IsUsed block
full_used [] full = grind (arith, full)
full_used (p ∷ ps) full = tt

history_joined : (front back : List Frame) → history_of (front ++ back) ≡ history_of front ++ history_of back
history_joined [] back = refl
history_joined (Transactions first batches ∷ front) back = ap (λ h. batches ++ h) (history_joined front back) ∙ sym (append_assoc batches (history_of front) (history_of back))
history_joined (Rotation hi ∷ front) back = history_joined front back

-- a log that is ended has the batches that it had
pub ended_history : (active : List Frame) (hi : ℕ) → history_of (active ++ Rotation hi ∷ []) ≡ history_of active
ended_history active hi = history_joined active (Rotation hi ∷ []) ∙ append-nil (history_of active)

same_behind : {A : Type 0} (front a b : List A) → front ++ a ≡ front ++ b → a ≡ b
same_behind [] a b same = same
same_behind (x ∷ front) a b same = same_behind front a b (tail_same x (front ++ a) (front ++ b) same)
  where
    tail_same : {A : Type 0} (x : A) (xs ys : List A) → x ∷ xs ≡ x ∷ ys → xs ≡ ys
    tail_same x xs ys same = ap (rest_of xs) same
      where
        rest_of : {A : Type 0} → List A → List A → List A
        rest_of other [] = other
        rest_of other (y ∷ ys) = ys

-- ---- the blocks of a shelf whose active blocks are level with the logs

module _ (shelf : Shelved) (order : IsBook shelf.book shelf.mark) (follows : Follows 1 (settled_parts shelf.book) shelf.mark) (used : Each IsUsed shelf.book.closed)
    (closed : List Block) (active : List Frame) (level : IsLevel closed shelf.book)
    (history : recovered closed active ≡ hist shelf.book shelf.mark) (counted : length (hist shelf.book shelf.mark) ≡ shelf.mark) where
  abbrev pub flat : List PartMeaning
  flat = flat_map (λ (block : List PartMeaning). block) shelf.book.closed

  abbrev pub cut : IsCut 1 shelf.mark flat shelf.book.active
  cut = cut_follows 1 shelf.mark flat shelf.book.active (omega arith) follows

  -- the closed logs end where the closed blocks do
  pub ends_there : length (history_in closed) ≡ cut.mid
  ends_there =
      let logs = logs_end 0 closed in
      let blocks : last_behind 0 (map highest shelf.book.closed) ≡ cut.mid = blocks_end 0 cut.mid shelf.book.closed used cut.begins in
      sym (logs ∙ omega arith) ∙ ap (λ ends. last_behind 0 ends) (sym level) ∙ blocks

  both : length (history_in closed) + length (history_of active) ≡ shelf.mark
  both = sym (length-append (history_in closed) (history_of active)) ∙ ap length history ∙ counted

  -- a full block has a number, and so has its log
  pub log_is_used : is_full shelf.book.active ≡ true → 0 < length (history_of active)
  log_is_used full =
      let reach = used_reaches (cut.mid + 1) shelf.mark shelf.book.active cut.goes_on (full_used shelf.book.active full) in
      let there = ends_there in
      let sum = both in
      omega (arith, reach, there, sum)

  -- its log is ended, and the logs are ahead
  pub ended_is_ahead : (hi : ℕ) → is_full shelf.book.active ≡ true → IsAhead (ended closed active hi) shelf.book
  ended_is_ahead hi full =
      let last : highest shelf.book.active ≡ shelf.mark = used_ends (cut.mid + 1) shelf.mark shelf.book.active cut.goes_on (full_used shelf.book.active full) in
      let sum = both in
      let pushed = logs_pushed 0 closed (Logged (active ++ Rotation hi ∷ [])) in
      let same : length (history_of (active ++ Rotation hi ∷ [])) ≡ length (history_of active) = ap length (ended_history active hi) in (
        full,
        map-append highest shelf.book.closed (shelf.book.active ∷ [])
            ∙ ap (λ ends. ends ++ highest shelf.book.active ∷ []) level
            ∙ ap (λ n. ends_behind 0 closed ++ n ∷ []) (last ∙ omega (arith, sum, same))
            ∙ sym pushed,
      )

  -- the log of a block has as many bytes as its rows
  pub log_size : IsPermutation (rows_of (rows_in (settled_parts shelf.book))) (upto (hist shelf.book shelf.mark) shelf.mark)
      → ((v : ℕ) → v ≤ shelf.mark → Each (IsWholeAt v) (settled_parts shelf.book) → IsPermutation (rows_of (rows_in (filter (is_upto v) (settled_parts shelf.book)))) (upto (hist shelf.book shelf.mark) v))
      → batches_size (history_of active) ≡ bytes_of (rows_in shelf.book.active)
  log_size all upto_is = back_size flat shelf.book.active cut.mid shelf.mark (history_in closed) (history_of active) (hist shelf.book shelf.mark) cut.begins cut.goes_on (sym history) ends_there counted all upto_is

-- ---- room for one batch

one_small : (batches : List NumberedBatch) → length batches ≡ 1 → All IsSmallBatch batches → batches_size (rows_of_batches batches) ≤ MOST_BATCH_BYTES
one_small [] one small = absurd (omega (arith, one))
one_small (b ∷ []) one small = let here = All-head IsSmallBatch b [] small in omega (arith, here)
one_small (b ∷ c ∷ batches) one small = absurd (omega (arith, one))

not_full_light : (block : List PartMeaning) → is_full block ≡ false → bytes_of (rows_in block) < FULL_BYTES
not_full_light block room = grind (arith, room)

pub has_room : (active : List Frame) (batches : List NumberedBatch) → batches_size (history_of active) < FULL_BYTES → length batches ≡ 1 → All IsSmallBatch batches → HasRoom active (rows_of_batches batches)
has_room active batches few one small =
    let both : batches_size (history_of active ++ rows_of_batches batches) ≡ batches_size (history_of active) + batches_size (rows_of_batches batches) = sum_by-append rows_size (history_of active) (rows_of_batches batches) in
    let more = one_small batches one small in
    omega (arith, both, more, few)

-- the log to which the next number goes has few bytes
pub few_bytes : (active : List Frame) (book : Book) (closed : List Block) → IsReady closed active book → (IsLevel closed book → batches_size (history_of active) ≡ bytes_of (rows_in book.active)) → batches_size (history_of active) < FULL_BYTES
few_bytes active book closed (inl level) sized = let few = not_full_light book.active level.0 in let same = sized level.1 in omega (arith, few, same)
few_bytes active book closed (inr ahead) sized = let none : batches_size (history_of active) ≡ 0 = ap batches_size ahead.1 in omega (arith, none)

-- ---- after the batch was added

module _ {D : Type 0} (seen : D → Files) (may_leave : D → Files → Type 0) where
  -- the batches that were added, or none
  pub logged : (kept : Kept D) (shelf : Shelved) (closed : List Block) (active frames : List Frame) (batches : History) (k : ℕ)
      → Stands seen may_leave kept closed frames → recovered closed frames ≡ recovered closed active ++ take k batches → length batches ≤ k
      → recovered closed active ≡ hist shelf.book shelf.mark → IsReady closed active shelf.book → HasLogged seen may_leave batches kept shelf
  logged kept shelf closed active frames batches k stands is all history ready = record {
    closed = closed;
    active = frames;
    keeper = stands;
    history = is ∙ ap (λ h. h ++ take k batches) history ∙ ap (λ more. hist shelf.book shelf.mark ++ more) (take_all k batches (omega (arith, all)));
    blocks = ⊎_elim (λ (level : (is_full shelf.book.active ≡ false) × IsLevel closed shelf.book). inl level) (λ (ahead : IsAhead closed shelf.book × (history_of active ≡ [])). inr ahead.0) ready;
  }

  -- a shelf that took the batch
  pub admitted : (kept : Kept D) (old new : Shelved) (rows : List Row) → HasLogged seen may_leave (rows ∷ []) kept old
      → hist new.book new.mark ≡ hist old.book old.mark ++ rows ∷ []
      → new.book.closed ≡ (if is_full old.book.active then old.book.closed ++ old.book.active ∷ [] else old.book.closed)
      → StandsFor seen may_leave kept new
  admitted kept old new rows has history is_closed = record {
    closed = has.closed;
    active = has.active;
    keeper = has.keeper;
    history = has.history ∙ sym history;
    blocks = inl (level_by (is_full old.book.active) refl);
  }
    where
      level_by : (full : Bool) → is_full old.book.active ≡ full → IsLevel has.closed new.book
      level_by true full =
          let closed_is : new.book.closed ≡ old.book.closed ++ old.book.active ∷ [] = is_closed ∙ rw full refl in
          subst (λ (blocks : List (List PartMeaning)). HasBlocks has.closed blocks) (sym closed_is)
          (⊎_elim (λ (level : (is_full old.book.active ≡ false) × IsLevel has.closed old.book). absurd (true≢false (sym full ∙ level.0))) (λ (ahead : IsAhead has.closed old.book). ahead.1) has.blocks)
      level_by false room =
          let closed_is : new.book.closed ≡ old.book.closed = is_closed ∙ rw room refl in
          subst (λ (blocks : List (List PartMeaning)). HasBlocks has.closed blocks) (sym closed_is)
          (⊎_elim (λ (level : (is_full old.book.active ≡ false) × IsLevel has.closed old.book). level.1) (λ (ahead : IsAhead has.closed old.book). absurd (true≢false (sym ahead.0 ∙ room))) has.blocks)

-- ---- when the log is ended

pub level_not_full : (full : Bool) (n next block : ℕ) → next ≡ (if full then n + 1 else n) → next ≤ block → block ≡ n → full ≡ false
level_not_full true n next block is low same = absurd (omega (arith, is, low, same))
level_not_full false n next block is low same = refl

pub level_full : (full : Bool) (n next block : ℕ) → next ≡ (if full then n + 1 else n) → block < next → block ≡ n → full ≡ true
level_full true n next block is high same = refl
level_full false n next block is high same = absurd (omega (arith, is, high, same))

pub not_ahead : (full : Bool) (n next block : ℕ) → next ≡ (if full then n + 1 else n) → block < next → full ≡ true → block ≡ n + 1 → ⊥
not_ahead true n next block is high filled same = omega (arith, is, high, same)
not_ahead false n next block is high filled same = absurd (true≢false (sym filled))

pub pushed_count : {A : Type 0} (xs : List A) (x : A) → length (xs ++ x ∷ []) ≡ length xs + 1
pushed_count xs x = length-append xs (x ∷ [])

first_counts : (p : PartMeaning) (ps : List PartMeaning) (mark : ℕ) → Follows 1 (p ∷ ps) mark → 0 < mark
first_counts p ps mark follows = let later = reaches (p.hi + 1) mark ps follows.2 in omega (arith, later, follows.0, follows.1)

-- where the next number goes to another block than the first, there is a number
pub mark_counts : (closed : List (List PartMeaning)) (active stragglers : List PartMeaning) (mark next block : ℕ) → Follows 1 (flat_map (λ (b : List PartMeaning). b) closed ++ active) mark → Each IsUsed closed
    → next ≡ (if is_full active then length closed + 1 else length closed) → block < next → 0 < mark
mark_counts [] [] stragglers mark next block follows used is high = absurd (no_block (is_full []) refl is high)
  where
    no_block : (full : Bool) → is_full [] ≡ full → next ≡ (if full then 0 + 1 else 0) → block < next → ⊥
    no_block true full is high = full_used [] full
    no_block false room is high = omega (arith, is, high)
mark_counts [] (p ∷ ps) stragglers mark next block follows used is high = first_counts p ps mark follows
mark_counts ([] ∷ bs) active stragglers mark next block follows used is high = absurd used.0
mark_counts ((p ∷ ps) ∷ bs) active stragglers mark next block follows used is high =
    let flat = flat_map (λ (b : List PartMeaning). b) bs in
    first_counts p ((ps ++ flat) ++ active) mark
    (subst (λ (parts : List PartMeaning). Follows 1 (parts ++ active) mark) (flat_map-cons (λ (b : List PartMeaning). b) (p ∷ ps) bs) follows)

pub ok_is_no_fault : {A E : Type 0} (r : Result A E) (a : A) (e : E) → r ≡ Ok a → r ≡ Err e → ⊥
ok_is_no_fault r a e ok err = true≢false (sym (ap is_err (sym ok ∙ err)))

is_memory : KeeperFault → Bool
is_memory NoMemory = true
is_memory DiskFault = false
is_memory (Stopped count) = false

memory_of : {A : Type 0} → Result A KeeperFault → Bool
memory_of (Ok a) = false
memory_of (Err fault) = is_memory fault

pub no_memory_is_no_fault : {A : Type 0} (r : Result A KeeperFault) → r ≡ Err NoMemory → r ≡ Err DiskFault → ⊥
unfolding memory_of is_memory
no_memory_is_no_fault r wanting failed = true≢false (ap memory_of (sym wanting ∙ failed))

-- where the next number goes to the keeper's log, the logs stand for the shelf
pub ready_stands : {D : Type 0} (seen : D → Files) (may_leave : D → Files → Type 0) (old new : Kept D) (shelf : Shelved) → new ≡ old → IsReadyFor seen may_leave old shelf → StandsFor seen may_leave new shelf
ready_stands seen may_leave old new shelf same is =
    subst (λ (kept : Kept _). StandsFor seen may_leave kept shelf) (sym same)
    (record {
      closed = is.closed;
      active = is.active;
      keeper = is.keeper;
      history = is.history;
      blocks = ⊎_elim (λ (level : (is_full shelf.book.active ≡ false) × IsLevel is.closed shelf.book). inl level.1) (λ (ahead : IsAhead is.closed shelf.book × (history_of is.active ≡ [])). inr ahead) is.ready;
    })
