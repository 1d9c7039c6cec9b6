-- What a store is seen as: its history, cut behind the batches that it was opened with, its disk, and whether that failed.
use Rattle.std.specs.Prelude.{◌≡◌, ◌⊎◌, ◌↔◌, ℕ, zero, suc, ◌+◌, ◌≤◌, ◌<◌, Bool, true, false, List, [], ◌∷◌, ◌++◌, take, drop, length, refl, Option, Some, None, is_some, Ok, Err, Result, OnOk, is_err}
use Rattle.std.proofs.Common.{arith, ap, sym, ◌∙◌, subst, inl, inr, true≢false}
use Rattle.fd_kinds.specs.declared.limits.TheConstants.{MOST_LOOSE_PARTS, MOST_NUMBERS}
use Rattle.fd_kinds.specs.declared.row.Row.{Row}
use Rattle.fd_kinds.specs.declared.store.WriteRefusal.{WriteRefusal}
use Rattle.fd_kinds.specs.declared.store.WriteRefusal.TheVariants as write
use Rattle.fd_kinds.specs.History.{History, LocalView, Adds, history_of}
use Rattle.fd_kinds.specs.Parts.{rows_of, with_number}
use Rattle.fd_device.specs.Disks.{Files, Settled}
use Rattle.fd_device.specs.Moments.{LeavesOnly}
use Rattle.fd_shelf.specs.Books.{Book, Shelved}
use Rattle.fd_shelf.specs.Histories.{hist}
use Rattle.fd_keeper.specs.Blocks.{RecoversTo}
use Rattle.fd_keeper.specs.Keepers.{Kept}
use Rattle.fd_durable.specs.Durable.{Held, Whole, Moved, WritesThrough, pending_of}
use Rattle.fd_wal.specs.Logs.{history_of as logged_history}
use Rattle.fd_durable.specs.Logs.{StandsFor, HasLogged, IsLevel, IsAhead}
use Rattle.fd_durable.proofs.Moving.{wrote, failed, left_out}

-- the first batches and the others
abbrev pub view_of : ℕ → History → ℕ → Bool → LocalView
view_of opened history loose wanting = record { opening = take opened history; added = drop opened history; loose = loose; wanting = wanting }

abbrev pub held_of : {D : Type 0} → LocalView → D → Bool → Held D
held_of local disk fault = record { local = local; disk = disk; failed = fault }

pub joined : {A : Type 0} (k : ℕ) (xs : List A) → take k xs ++ drop k xs ≡ xs
joined zero xs = refl
joined (suc k) [] = refl
joined (suc k) (x ∷ xs) = ap (λ ys. x ∷ ys) (joined k xs)

take_gained : {A : Type 0} (k : ℕ) (xs : List A) (x : A) → k ≤ length xs → take k (xs ++ x ∷ []) ≡ take k xs
take_gained zero xs x below = refl
take_gained (suc k) [] x below = absurd (omega (arith, below))
take_gained (suc k) (y ∷ xs) x below = ap (λ ys. y ∷ ys) (take_gained k xs x (omega (arith, below)))

drop_gained : {A : Type 0} (k : ℕ) (xs : List A) (x : A) → k ≤ length xs → drop k (xs ++ x ∷ []) ≡ drop k xs ++ x ∷ []
drop_gained zero xs x below = refl
drop_gained (suc k) [] x below = absurd (omega (arith, below))
drop_gained (suc k) (y ∷ xs) x below = drop_gained k xs x (omega (arith, below))

-- a history that gains a batch
adds : (opened : ℕ) (history gained : History) (loose old_loose : ℕ) (wanting old_wanting : Bool) (rows : List Row)
    → opened ≤ length history → gained ≡ history ++ rows ∷ [] → (wanting ≡ false → loose < MOST_LOOSE_PARTS)
    → Adds (view_of opened history old_loose old_wanting) rows (view_of opened gained loose wanting)
adds opened history gained loose old_loose wanting old_wanting rows below more few = record {
  opening = ap (take opened) more ∙ take_gained opened history rows below;
  added = ap (drop opened) more ∙ drop_gained opened history rows below;
  compacted = few;
}

-- what is so after success, where the answer is told to be one
pub few_left : {A E : Type 0} {P : Type 0} (result : Result A E) → is_err result ≡ false → OnOk result P → P
few_left (Ok a) told held = held
few_left (Err e) told held = absurd (true≢false told)

is_fault : WriteRefusal → Bool
is_fault write.DiskFault = true
is_fault (write.Spent drawn) = false
is_fault write.NoMemory = false

fault_of : {A : Type 0} → Result A WriteRefusal → Bool
fault_of (Ok a) = false
fault_of (Err refusal) = is_fault refusal

-- want of memory is no fault of the disk, and neither is success
pub wanting_is_no_fault : {A : Type 0} (r : Result A WriteRefusal) → r ≡ Err write.NoMemory → r ≡ Err write.DiskFault → ⊥
unfolding fault_of is_fault
wanting_is_no_fault r wanting fault = true≢false (ap fault_of (sym fault ∙ wanting))

pub ok_is_no_fault : {A : Type 0} (r : Result A WriteRefusal) (a : A) → r ≡ Ok a → r ≡ Err write.DiskFault → ⊥
unfolding fault_of is_fault
ok_is_no_fault r a ok fault = true≢false (ap fault_of (sym fault ∙ ok))

module _ {D : Type 0} (seen : D → Files) (may_leave : D → Files → Type 0) where
  -- what a crash leaves where logs stand for a shelf ..
  pub stands_images : (kept : Kept D) (shelf : Shelved) → StandsFor seen may_leave kept shelf → (image : Files) → may_leave kept.disk image → RecoversTo (hist shelf.book shelf.mark) image
  stands_images kept shelf stands image left = record { closed = stands.closed; active = stands.active; blocks = stands.keeper.rests.images image left; is = stands.history }

  -- .. and once they have a batch more
  pub logged_images : (kept : Kept D) (shelf : Shelved) (batches : History) → HasLogged seen may_leave batches kept shelf → (image : Files) → may_leave kept.disk image → RecoversTo (hist shelf.book shelf.mark ++ batches) image
  logged_images kept shelf batches has image left = record { closed = has.closed; active = has.active; blocks = has.keeper.rests.images image left; is = has.history }

-- ---- what a write gives

module _ {D : Type 0} (honest : D → Type 0) (seen : D → Files) (may_leave : D → Files → Type 0) (moment : D → ℕ) (left_since : D → ℕ → Files → Type 0)
    (opened : ℕ) (history : History) (loose : ℕ) (wanting : Bool) (old new : D) (fault : Bool) (healthy : fault ≡ false) (honesty : honest old ↔ honest new) (rows : List Row) where
  abbrev before : Held D
  before = held_of (view_of opened history loose wanting) old fault

  is_whole : history_of before.local ≡ history
  is_whole = joined opened history

  pub gives_ok : (count number : ℕ) (gained : History) (now_loose : ℕ) (now_wanting now_fault : Bool)
      → count ≡ length history → opened ≤ length history → count < MOST_NUMBERS → number ≡ count + 1
      → gained ≡ history ++ rows ∷ []
      → (now_wanting ≡ false → now_loose < MOST_LOOSE_PARTS)
      → (honest old → LeavesOnly moment left_since old new (Whole history (rows ∷ [])))
      → (honest old → (image : Files) → may_leave new image → RecoversTo (history ++ rows ∷ []) image)
      → (honest old → Settled (seen old) (may_leave old) → Settled (seen new) (may_leave new))
      → WritesThrough honest seen may_leave moment left_since before rows (Ok number) (held_of (view_of opened gained now_loose now_wanting) new now_fault)
  gives_ok count number gained now_loose now_wanting now_fault counted below room number_is more few moments now settled =
      let same : count ≡ length (history_of before.local) = counted ∙ sym (ap length is_whole) in
      let after : Held D = held_of (view_of opened gained now_loose now_wanting) new now_fault in
      record {
        numbers = (omega (arith, same, room), number_is ∙ ap (λ n. n + 1) same, adds opened history gained now_loose loose now_wanting wanting rows below more few);
        images = inr (wrote honest seen may_leave moment left_since before after history is_whole healthy honesty rows (joined opened gained ∙ more) moments now settled);
      }

  pub gives_fault : (now_fault : Bool) → now_fault ≡ true
      → (counts_now : (disk : D) (t : ℕ) (image : Files) → honest disk → t ≤ moment disk → may_leave disk image → left_since disk t image)
      → (honest old → LeavesOnly moment left_since old new (Whole history (rows ∷ [])))
      → WritesThrough honest seen may_leave moment left_since before rows (Err write.DiskFault) (held_of (view_of opened history loose wanting) new now_fault)
  gives_fault now_fault met counts_now moments =
      let after : Held D = held_of (view_of opened history loose wanting) new now_fault in
      record {
        numbers = refl;
        images = inr (failed honest seen may_leave moment left_since before after history is_whole healthy honesty rows is_whole met counts_now moments);
      }

  pub gives_wanting : (now_fault : Bool)
      → (honest old → LeavesOnly moment left_since old new (RecoversTo history))
      → (honest old → (image : Files) → may_leave new image → RecoversTo history image)
      → (honest old → Settled (seen old) (may_leave old) → Settled (seen new) (may_leave new))
      → WritesThrough honest seen may_leave moment left_since before rows (Err write.NoMemory) (held_of (view_of opened history loose wanting) new now_fault)
  gives_wanting now_fault moments now settled =
      let after : Held D = held_of (view_of opened history loose wanting) new now_fault in
      record {
        numbers = refl;
        images = inr (left_out honest seen may_leave moment left_since before after history is_whole healthy honesty is_whole moments now settled);
      }

  -- why a batch was not logged: the disk failed, or memory ran out
  pub gives_err : (refusal : WriteRefusal) (now_fault : Bool)
      → ((drawn : ℕ) → refusal ≡ write.Spent drawn → ⊥)
      → (refusal ≡ write.DiskFault → now_fault ≡ true)
      → (counts_now : (disk : D) (t : ℕ) (image : Files) → honest disk → t ≤ moment disk → may_leave disk image → left_since disk t image)
      → (honest old → LeavesOnly moment left_since old new (Whole history (rows ∷ [])))
      → (honest old → refusal ≡ write.NoMemory → LeavesOnly moment left_since old new (RecoversTo history))
      → (honest old → refusal ≡ write.NoMemory → (image : Files) → may_leave new image → RecoversTo history image)
      → (honest old → refusal ≡ write.NoMemory → Settled (seen old) (may_leave old) → Settled (seen new) (may_leave new))
      → WritesThrough honest seen may_leave moment left_since before rows (Err refusal) (held_of (view_of opened history loose wanting) new now_fault)
  gives_err write.DiskFault now_fault unspent met counts_now moments wants now settled = gives_fault now_fault (met refl) counts_now moments
  gives_err (write.Spent drawn) now_fault unspent met counts_now moments wants now settled = absurd (unspent drawn refl)
  gives_err write.NoMemory now_fault unspent met counts_now moments wants now settled =
      gives_wanting now_fault (λ h. wants h refl) (λ h. now h refl) (λ h. settled h refl)

-- ---- what a store keeps

-- rows do not change by their numbers
pub rows_of_numbered : (n : ℕ) (rows : List Row) → rows_of (with_number n rows) ≡ rows
rows_of_numbered n [] = refl
rows_of_numbered n (r ∷ rows) = ap (λ rs. r ∷ rs) (rows_of_numbered n rows)

pub none_of : (fault : Option ℕ) → is_some fault ≡ false → fault ≡ None
none_of None none = refl
none_of (Some count) none = absurd (true≢false none)

-- a refusal that leaves the disk without a fault is want of memory
pub only_wanting : (refusal : WriteRefusal) (fault : Option ℕ) (count : ℕ) → ((drawn : ℕ) → refusal ≡ write.Spent drawn → ⊥) → (refusal ≡ write.DiskFault → fault ≡ Some count)
    → fault ≡ None → refusal ≡ write.NoMemory
only_wanting write.NoMemory fault count drawn failed none = refl
only_wanting (write.Spent n) fault count drawn failed none = absurd (drawn n refl)
only_wanting write.DiskFault fault count drawn failed none = absurd (true≢false (ap is_some (sym (failed refl) ∙ none)))

-- a shelf with the same book and mark
pub stands_same : {D : Type 0} (seen : D → Files) (may_leave : D → Files → Type 0) (kept : Kept D) (old new : Shelved) → new.book ≡ old.book → new.mark ≡ old.mark
    → StandsFor seen may_leave kept old → StandsFor seen may_leave kept new
stands_same seen may_leave kept old new book mark stands = record {
  closed = stands.closed;
  active = stands.active;
  keeper = stands.keeper;
  history = stands.history ∙ (ap (λ b. hist b old.mark) (sym book) ∙ ap (hist new.book) (sym mark));
  blocks = subst (λ (b : Book). IsLevel stands.closed b ⊎ (IsAhead stands.closed b × (logged_history stands.active ≡ []))) (sym book) stands.blocks;
}
