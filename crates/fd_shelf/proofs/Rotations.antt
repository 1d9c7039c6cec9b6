-- What stays where the active block is closed as it stands.
use Rattle.std.specs.Prelude.{◌≡◌, ℕ, List, [], ◌∷◌, ◌++◌, flat_map}
use Rattle.std.proofs.Common.{arith, ap, sym, ◌∙◌, subst}
use Rattle.std.proofs.lemmas.List.{append-nil}
use Rattle.fd_kinds.specs.Parts.{PartMeaning, IsPart}
use Rattle.fd_shelf.specs.Books.{Book, Each, Follows, SealedFirst, IsUsed, IsLight, HasSmallBatches, settled_parts, all_parts}
use Rattle.fd_shelf.specs.Histories.{hist, batches_from}
use Rattle.fd_shelf.specs.Marks.{IsBook}
use Rattle.fd_shelf.specs.Numbers.{IsIn, IsInSealed, Keeps}
use Rattle.fd_shelf.proofs.BookEnds.{settled_upto, mark_bounded, waits_above, book_upto}
use Rattle.fd_shelf.proofs.BookLaws.{each_append, closed_parts}
use Rattle.fd_shelf.proofs.ClosedBlocks.{front_kept}
use Rattle.fd_shelf.proofs.NumberLaws.{at_front}

abbrev before : List (List PartMeaning) → List PartMeaning → List PartMeaning → Book
before closed active stragglers = record { closed = closed; active = active; stragglers = stragglers }

abbrev behind : List (List PartMeaning) → List PartMeaning → List PartMeaning → Book
behind closed active stragglers = record { closed = closed ++ active ∷ []; active = []; stragglers = stragglers }

settled_same : (closed : List (List PartMeaning)) (active stragglers : List PartMeaning) → settled_parts (behind closed active stragglers) ≡ settled_parts (before closed active stragglers)
settled_same closed active stragglers = append-nil (flat_map (λ (block : List PartMeaning). block) (closed ++ active ∷ [])) ∙ closed_parts closed active

-- all parts are the same
pub parts_same : (closed : List (List PartMeaning)) (active stragglers : List PartMeaning) → all_parts (behind closed active stragglers) ≡ all_parts (before closed active stragglers)
parts_same closed active stragglers = ap (λ parts. parts ++ stragglers) (settled_same closed active stragglers)

pub rotated_history : (closed : List (List PartMeaning)) (active stragglers : List PartMeaning) (m : ℕ) → hist (behind closed active stragglers) m ≡ hist (before closed active stragglers) m
rotated_history closed active stragglers m = ap (λ parts. batches_from parts 1 m) (parts_same closed active stragglers)

-- The book is in order, where the block has a number.
pub rotated_is_book : (closed : List (List PartMeaning)) (active stragglers : List PartMeaning) (mark : ℕ)
    → IsBook (before closed active stragglers) mark → IsUsed active → IsBook (behind closed active stragglers) mark
rotated_is_book closed active stragglers mark book used =
    book_upto (behind closed active stragglers) mark
    (subst (λ (parts : List PartMeaning). Follows 1 parts mark) (sym (settled_same closed active stragglers)) (settled_upto book))
    (mark_bounded book)
    (waits_above book)
    (subst (λ (parts : List PartMeaning). Each IsPart parts) (sym (parts_same closed active stragglers)) book.well_formed.parts)
    (subst (λ (parts : List PartMeaning). Each HasSmallBatches parts) (sym (parts_same closed active stragglers)) book.well_formed.small)
    (each_append IsLight (closed ++ active ∷ []) ([] ∷ []) book.well_formed.light (empty_is_light, tt))
    (each_append SealedFirst (closed ++ active ∷ []) ([] ∷ []) book.well_formed.sealed_first (tt, tt))
    (each_append IsUsed closed (active ∷ []) book.well_formed.used (used, tt))
  where
    empty_is_light : IsLight []
    empty_is_light = omega arith

-- Each number stands where it stood.
pub rotated_keeps : (closed : List (List PartMeaning)) (active stragglers : List PartMeaning) → Keeps (before closed active stragglers) (behind closed active stragglers)
rotated_keeps closed active stragglers =
    record {
      closed = λ block lo hi is. record { parts = is.parts; here = front_kept closed (active ∷ []) block is.parts is.here; begins = is.begins; ends = is.ends };
      blocks = λ block number is. at_front (closed ++ active ∷ []) ([] ∷ []) block number is;
      sealed = λ number inside. subst (IsInSealed number) (sym (settled_same closed active stragglers)) inside;
      numbers = λ number inside. subst (IsIn number) (sym (parts_same closed active stragglers)) inside;
    }
