-- What a store is opened to, and what a crash leaves meanwhile.
use Rattle.std.proofs.Common.{◌≡◌, ℕ, ◌+◌, inl, inr, List, length, map, refl, sym, ◌∙◌, ap, subst}
use Rattle.std.specs.Prelude.{None}
use Rattle.fd_kinds.specs.History.{History}
use Rattle.fd_device.specs.declared.files.FileId.{FileId}
use Rattle.fd_device.specs.Disks.{Files, Settled, OthersStay}
use Rattle.fd_device.specs.Moments.{LeavesOnly, moments_joined, moments_weaker}
use Rattle.fd_shelf.specs.Books.{Book, Shelved, Each, IsUsed}
use Rattle.fd_shelf.specs.Steps.{highest}
use Rattle.fd_wal.specs.Logs.{IsLog}
use Rattle.fd_keeper.specs.Blocks.{log_of, history_in, Recovers, RecoversTo, recovered}
use Rattle.fd_keeper.specs.Keepers.{Kept, Rests, IsAtRest}
use Rattle.fd_open.specs.declared.tail.Tail.{Tail}
use Rattle.fd_open.specs.Barriers.{Quiet, Barred, IsRead, IsDurableBelow, IsDurableFrom}
use Rattle.fd_open.specs.Opens.{Opens, IsOpened}
use Rattle.fd_open.specs.Shelving.{Reads}
use Rattle.fd_open.proofs.BlockEnds.{same_ends}
use Rattle.fd_open.proofs.Repairs.{Alike}
use Rattle.fd_open.proofs.Walking.{length_closed}

abbrev pub OneHistory : Type 0
OneHistory = (files : Files) (history other : History) → RecoversTo history files → RecoversTo other files → history ≡ other

-- ---- crashes

pub alike_image : Alike → (files image : Files) (history : History) → ((f : FileId) → image f ≡ files f) → RecoversTo history files → RecoversTo history image
alike_image alike files image history same is = record {
  closed = is.closed;
  active = is.active;
  blocks =
      alike files image is.closed is.active is.blocks.last.gate is.blocks (λ f within other. same f)
      (subst (λ (l : List ℕ). IsLog l (1 + length (history_in is.closed)) is.active is.blocks.last.gate) (sym (same (log_of (length is.closed)))) is.blocks.last.log);
  is = is.is;
}

module _ {D : Type 0} (honest : D → Type 0) (seen : D → Files) (may_leave : D → Files → Type 0) (moment : D → ℕ) (left_since : D → ℕ → Files → Type 0) where
  pub barred_before : (old new : D) → honest old → Quiet honest seen may_leave moment left_since old new → Barred honest seen may_leave moment left_since old new
  barred_before old new h quiet = inl (quiet.moments h)

  pub moments_before : Alike → (old new : D) → honest old → Quiet honest seen may_leave moment left_since old new → Settled (seen old) (may_leave old) → (history : History) → RecoversTo history (seen old)
      → LeavesOnly moment left_since old new (RecoversTo history)
  moments_before alike old new h quiet settled history is = moments_weaker moment left_since old new (may_leave old) (RecoversTo history) (λ image left. alike_image alike (seen old) image history (settled image left) is) (quiet.moments h)

  module _ (old mid new : D) (h : honest old) (quiet : Quiet honest seen may_leave moment left_since old mid) (shelf : Shelved) (tail : Tail) (reads : Reads seen may_leave old mid shelf tail) where
    pub read_recovers : Recovers (seen old) reads.closed reads.active
    read_recovers = subst (λ (files : Files). Recovers files reads.closed reads.active) (quiet.same h) reads.read.recovers

    recovers_to : RecoversTo (recovered reads.closed reads.active) (seen old)
    recovers_to = record { closed = reads.closed; active = reads.active; blocks = read_recovers; is = refl }

    abbrev Repaired : Type 0
    Repaired = LeavesOnly moment left_since mid new (RecoversTo (recovered reads.closed reads.active))

    pub barred_after : Repaired → Barred honest seen may_leave moment left_since old new
    barred_after repaired = inr (record { history = recovered reads.closed reads.active; recovers = recovers_to; barrier = mid; before = quiet.moments h; after = repaired })

    pub moments_after : Alike → OneHistory → Repaired → Settled (seen old) (may_leave old) → (history : History) → RecoversTo history (seen old) → LeavesOnly moment left_since old new (RecoversTo history)
    moments_after alike one repaired settled history is =
        moments_joined moment left_since old mid new (RecoversTo history) (moments_before alike old mid h quiet settled history is)
        (subst (λ (l : History). LeavesOnly moment left_since mid new (RecoversTo l)) (one (seen old) (recovered reads.closed reads.active) history recovers_to is) repaired)

  -- other files than those of the blocks that were read
  pub durable_from : (old mid : D) → honest old → Quiet honest seen may_leave moment left_since old mid → (block : ℕ) → IsDurableFrom block (seen old) (may_leave old) → IsDurableFrom block (seen mid) (may_leave mid)
  durable_from old mid h quiet block was image left f above = was image (quiet.fewer h image left) f above ∙ sym (ap (λ (files : Files). files f) (quiet.same h))

module _ {D : Type 0} (seen : D → Files) (may_leave : D → Files → Type 0) where
  module _ (old mid : D) (shelf : Shelved) (tail : Tail) (reads : Reads seen may_leave old mid shelf tail) (block : ℕ) (block_is : block ≡ length shelf.book.closed) where
    number_is : block ≡ length reads.closed
    number_is = block_is ∙ length_closed reads.closed reads.active shelf.book reads.shelf_is.book

    -- the log that is repaired is that of the active block
    pub read_here : IsRead seen may_leave mid block tail reads.closed reads.active
    read_here = subst (λ (n : ℕ). IsRead seen may_leave mid n tail reads.closed reads.active) (sym number_is) reads.read

    pub opens : (new : D) → seen mid ≡ seen old → Recovers (seen old) reads.closed reads.active → Rests seen may_leave new block tail.gate (length (recovered reads.closed reads.active)) reads.closed reads.active
        → OthersStay (log_of block) (seen mid) (seen new) → IsDurableBelow (block + 1) (seen new) (may_leave new) → Opens seen may_leave old new shelf tail.gate
    opens new same recovers rests others durable = record {
      closed = reads.closed;
      active = reads.active;
      recovers = recovers;
      shelf_is = reads.shelf_is;
      rests = subst (λ (n : ℕ). Rests seen may_leave new n tail.gate (length (recovered reads.closed reads.active)) reads.closed reads.active) number_is rests;
      others = subst (λ (n : ℕ). OthersStay (log_of n) (seen old) (seen new)) number_is (subst (λ (files : Files). OthersStay (log_of block) files (seen new)) same others);
      durable = subst (λ (n : ℕ). IsDurableBelow (n + 1) (seen new) (may_leave new)) number_is durable;
    }

  -- ---- the keeper

  module _ (old new : D) (shelf : Shelved) (gate block synced : ℕ) (is : Opens seen may_leave old new shelf gate) (block_is : block ≡ length shelf.book.closed) (synced_is : synced ≡ shelf.mark) where
    rests_here : Rests seen may_leave new block gate synced is.closed is.active
    rests_here =
        subst (λ (n : ℕ). Rests seen may_leave new n gate synced is.closed is.active) (sym (block_is ∙ length_closed is.closed is.active shelf.book is.shelf_is.book))
        (subst (λ (n : ℕ). Rests seen may_leave new (length is.closed) gate n is.closed is.active) (sym (synced_is ∙ is.shelf_is.mark)) is.rests)

    pub at_rest : IsAtRest seen may_leave new block gate synced
    at_rest = record { closed = is.closed; active = is.active; rests = rests_here }

    pub is_opened : Each IsUsed shelf.book.closed → (kept : Kept D) → kept.disk ≡ new → kept.block ≡ block → kept.gate ≡ gate → kept.synced ≡ synced → kept.fault ≡ None → IsOpened seen may_leave old shelf kept
    is_opened used kept disk_is number_is gate_is count_is healthy = record {
      closed = is.closed;
      active = is.active;
      recovers = is.recovers;
      shelf_is = is.shelf_is;
      ends =
          (let closed_is = ap (λ (b : Book). b.closed) is.shelf_is.book in
          ap (map highest) closed_is ∙ same_ends 0 is.closed (subst (Each IsUsed) closed_is used));
      keeper = record {
        healthy = healthy;
        rests =
            subst (λ (d : D). Rests seen may_leave d kept.block kept.gate kept.synced is.closed is.active) (sym disk_is)
            (subst (λ (n : ℕ). Rests seen may_leave new n kept.gate kept.synced is.closed is.active) (sym number_is)
            (subst (λ (n : ℕ). Rests seen may_leave new block n kept.synced is.closed is.active) (sym gate_is)
            (subst (λ (n : ℕ). Rests seen may_leave new block gate n is.closed is.active) (sym count_is) rests_here)));
      };
      others = subst (λ (d : D). OthersStay (log_of (length is.closed)) (seen old) (seen d)) (sym disk_is) is.others;
      durable = subst (λ (d : D). IsDurableBelow (length is.closed + 1) (seen d) (may_leave d)) (sym disk_is) is.durable;
    }

pub settled_from : (files : Files) (may_leave : Files → Type 0) (block : ℕ) → Settled files may_leave → IsDurableFrom block files may_leave
settled_from files may_leave block settled image left f above = settled image left f
