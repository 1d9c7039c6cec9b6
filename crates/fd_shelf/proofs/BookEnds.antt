-- A book in order, by the mark at the end of its blocks.
use Rattle.std.specs.Prelude.{◌≡◌, ℕ, ◌+◌, ◌<◌, ◌^◌, List, [], ◌∷◌, refl}
use Rattle.std.proofs.Common.{arith, sym, subst}
use Rattle.fd_kinds.specs.Parts.{PartMeaning, IsPart}
use Rattle.fd_shelf.specs.Books.{Book, Each, Follows, Waits, SealedFirst, IsUsed, IsLight, HasSmallBatches, blocks_of, settled_parts, all_parts}
use Rattle.fd_shelf.specs.Marks.{IsBook, end_of}
use Rattle.fd_shelf.specs.Steps.{last_hi}

pub ends_at : (first hi last : ℕ) (parts : List PartMeaning) → Follows first parts last → first ≡ hi + 1 → last_hi hi parts ≡ last
ends_at first hi last [] follows next = omega (arith, follows, next)
ends_at first hi last (p ∷ ps) follows next = ends_at (p.hi + 1) p.hi last ps follows.2 refl

-- the blocks reach up to the mark ..
pub settled_upto : {book : Book} {mark : ℕ} → IsBook book mark → Follows 1 (settled_parts book) mark
settled_upto {book} {mark} order = subst (λ (end : ℕ). Follows 1 (settled_parts book) end) (sym order.ends) order.well_formed.settled

-- .. which has 63 bits ..
pub mark_bounded : {book : Book} {mark : ℕ} → IsBook book mark → mark < 2 ^ 63
mark_bounded {book} {mark} order = subst (λ (end : ℕ). end < 2 ^ 63) (sym order.ends) order.well_formed.bounded

-- .. and the stragglers are above it.
pub waits_above : {book : Book} {mark : ℕ} → IsBook book mark → Waits mark book.stragglers
waits_above {book} {mark} order = subst (λ (end : ℕ). Waits end book.stragglers) (sym order.ends) order.well_formed.waiting

-- A book whose blocks reach up to a mark.
pub book_upto : (book : Book) (mark : ℕ) → Follows 1 (settled_parts book) mark → mark < 2 ^ 63 → Waits mark book.stragglers → Each IsPart (all_parts book) → Each HasSmallBatches (all_parts book)
    → Each IsLight (blocks_of book) → Each SealedFirst (blocks_of book) → Each IsUsed book.closed → IsBook book mark
book_upto book mark settled bounded waiting parts small light sealed_first used =
    let ends : mark ≡ end_of book = sym (ends_at 1 0 mark (settled_parts book) settled (omega arith)) in
    record {
      well_formed = record {
        settled = subst (λ (end : ℕ). Follows 1 (settled_parts book) end) ends settled;
        bounded = subst (λ (end : ℕ). end < 2 ^ 63) ends bounded;
        waiting = subst (λ (end : ℕ). Waits end book.stragglers) ends waiting;
        parts = parts;
        small = small;
        light = light;
        sealed_first = sealed_first;
        used = used;
      };
      ends = ends;
    }
