-- What holds of every book in order, and of one to which a batch comes that waits.
use Rattle.std.specs.Prelude.{◌≡◌, ◌≢◌, ◌⊎◌, ℕ, ◌+◌, ◌≤◌, ◌<◌, ◌^◌, Bool, true, false, ◌==◌, List, [], ◌∷◌, ◌++◌, length, sum_by, All, refl}
use Rattle.std.proofs.Common.{arith, ap, sym, ◌∙◌, subst, inl, inr, ⊎_elim, true≢false, eq-eqb}
use Rattle.std.proofs.lemmas.List.Elements.{All-nil, All-cons}
use Rattle.std.proofs.lemmas.List.Sums.{sum_by-cons}
use mathlib.Core.Logic.{dite}
use native.Mathlib.Decide.{dec_lt}
use Rattle.fd_kinds.specs.declared.limits.TheConstants.{MOST_BATCH_BYTES}
use Rattle.fd_kinds.specs.declared.row.Row.{Row}
use Rattle.fd_kinds.specs.declared.row.Numbered.{Numbered}
use Rattle.fd_kinds.specs.RowSize.{row_size}
use Rattle.fd_kinds.specs.History.{IsSmall}
use Rattle.fd_kinds.specs.Parts.{PartMeaning, IsPart, IsWithin, with_number, rows_of, loose_part}
use Rattle.fd_shelf.specs.Books.{Book, Shelved, Each, Follows, Waits, all_parts, settled_parts}
use Rattle.fd_shelf.specs.Histories.{hist, batch_at, in_row_order}
use Rattle.fd_shelf.specs.Marks.{IsBook}
use Rattle.fd_shelf.specs.Numbers.{IsIn}
use Rattle.fd_shelf.specs.Steps.{is_number, has_next}
use Rattle.fd_shelf.specs.Stragglers.{with_straggler}
use Rattle.fd_shelf.proofs.BookEnds.{settled_upto, mark_bounded, waits_above}
use Rattle.fd_shelf.proofs.BookLaws.{each_back, admitted_is_book}
use Rattle.fd_shelf.proofs.HistoryLaws.{admitted_history}
use Rattle.fd_shelf.proofs.Batches.{admitted_batch, admitted_others, hist_length}
use Rattle.fd_shelf.proofs.Runs.{follows_upto}

pub bounded : (book : Book) (mark : ℕ) → IsBook book mark → mark < 2 ^ 63
bounded book mark order = mark_bounded order

pub count : (book : Book) (mark : ℕ) → length (hist book mark) ≡ mark
count book mark = hist_length book mark

follows_held : (n first mark : ℕ) (ps : List PartMeaning) → Follows first ps mark → first ≤ n → n ≤ mark → IsIn n ps
follows_held n first mark [] follows low high = absurd (omega (arith, follows, low, high))
follows_held n first mark (p ∷ ps) follows low high =
    dite (dec_lt p.hi n)
    (λ above. inr (follows_held n (p.hi + 1) mark ps follows.2 (omega (arith, above)) high))
    (λ within. inl (omega (arith, follows.0, low), omega (arith, within)))

follows_only : (n first mark : ℕ) (ps : List PartMeaning) → Follows first ps mark → IsIn n ps → n ≤ mark
follows_only n first mark [] follows inside = absurd inside
follows_only n first mark (p ∷ ps) follows (inl here) =
    let rest = follows_upto (p.hi + 1) mark ps follows.2 in omega (arith, rest, here.1)
follows_only n first mark (p ∷ ps) follows (inr later) = follows_only n (p.hi + 1) mark ps follows.2 later

in_front : (n : ℕ) (ps qs : List PartMeaning) → IsIn n ps → IsIn n (ps ++ qs)
in_front n [] qs inside = absurd inside
in_front n (p ∷ ps) qs (inl here) = inl here
in_front n (p ∷ ps) qs (inr later) = inr (in_front n ps qs later)

in_either : (n : ℕ) (ps qs : List PartMeaning) → IsIn n (ps ++ qs) → IsIn n ps ⊎ IsIn n qs
in_either n [] qs inside = inr inside
in_either n (p ∷ ps) qs (inl here) = inl (inl here)
in_either n (p ∷ ps) qs (inr later) = ⊎_elim (λ front. inl (inr front)) (λ back. inr back) (in_either n ps qs later)

pub held : (book : Book) (mark n : ℕ) → IsBook book mark → 0 < n → n ≤ mark → IsIn n (all_parts book)
held book mark n order some_number low =
    in_front n (settled_parts book) book.stragglers (follows_held n 1 mark (settled_parts book) (settled_upto order) (omega (arith, some_number)) low)

pub only : (book : Book) (mark n : ℕ) → IsBook book mark → IsIn n (settled_parts book) → n ≤ mark
only book mark n order inside = follows_only n 1 mark (settled_parts book) (settled_upto order) inside

waiting_above : (n above : ℕ) (ps : List PartMeaning) → Waits above ps → Each IsPart ps → IsIn n ps → above < n
waiting_above n above [] waits are inside = absurd inside
waiting_above n above (p ∷ ps) waits are (inl here) = omega (arith, waits.0, here.0)
waiting_above n above (p ∷ ps) waits are (inr later) =
    let rest = waiting_above n p.lo ps waits.3 are.1 later in omega (arith, waits.0, rest)

number_differs : (a b : ℕ) → (a == b) ≡ false → a ≢ b
number_differs a b off same = let yes : (a == b) ≡ true = eq-eqb a b same in true≢false (sym yes ∙ off)

none_next : (mark : ℕ) (ps : List PartMeaning) → Waits mark ps → Each IsPart ps → is_number (mark + 1) ps ≡ false → IsIn (mark + 1) ps → ⊥
none_next mark [] waits are off inside = inside
none_next mark (p ∷ ps) waits are off inside =
    let one : p.lo ≡ p.hi = are.0.one_number waits.2 in
    let other = number_differs p.lo (mark + 1) off in
    ⊎_elim
    (λ here. other (omega (arith, here.0, here.1, one, waits.0)))
    (λ later. let rest = waiting_above (mark + 1) p.lo ps waits.3 are.1 later in absurd (omega (arith, rest, waits.0)))
    inside

-- where no straggler follows the mark, no part holds the number behind it
pub gap : (shelf : Shelved) → IsBook shelf.book shelf.mark → has_next shelf ≡ false → IsIn (shelf.mark + 1) (all_parts shelf.book) → ⊥
gap shelf order off inside =
    let settled = settled_parts shelf.book in
    ⊎_elim
    (λ front. let low = only shelf.book shelf.mark (shelf.mark + 1) order front in absurd (omega (arith, low)))
    (λ back. none_next shelf.mark shelf.book.stragglers (waits_above order) (each_back IsPart settled shelf.book.stragglers order.well_formed.parts) off back)
    (in_either (shelf.mark + 1) settled shelf.book.stragglers inside)

in_back : (n : ℕ) (ps qs : List PartMeaning) → IsIn n qs → IsIn n (ps ++ qs)
in_back n [] qs inside = inside
in_back n (p ∷ ps) qs inside = inr (in_back n ps qs inside)

others_begin : (n : ℕ) (ps : List PartMeaning) → Each IsPart ps → (IsIn n ps → ⊥) → Each (λ q. q.lo ≢ n) ps
others_begin n [] are none = tt
others_begin n (p ∷ ps) are none =
    let ordered = are.0.ordered in
    ((λ same. none (inl (omega (arith, same), omega (arith, same, ordered)))), others_begin n ps are.1 (λ later. none (inr later)))

pub free_number : (book : Book) (mark number : ℕ) → IsBook book mark → (IsIn number (all_parts book) → ⊥) → Each (λ q. q.lo ≢ number) book.stragglers
free_number book mark number order outside =
    others_begin number book.stragglers (each_back IsPart (settled_parts book) book.stragglers order.well_formed.parts) (λ inside. outside (in_back number (settled_parts book) book.stragglers inside))

within_one : (n : ℕ) (rows : List Row) → All (IsWithin n n) (with_number n rows)
within_one n [] = All-nil (IsWithin n n)
within_one n (r ∷ rows) = All-cons (IsWithin n n) (record { number = n; row = r }) (with_number n rows) (omega arith, omega arith) (within_one n rows)

one_batch : (n : ℕ) (rows : List Row) → IsPart (loose_part n rows)
one_batch n rows = record { ordered = omega arith; within = within_one n rows; one_number = λ _. refl }

its_rows : (n : ℕ) (rows : List Row) → rows_of (with_number n rows) ≡ rows
its_rows n [] = refl
its_rows n (r ∷ rows) = ap (λ rs. r ∷ rs) (its_rows n rows)

its_bytes : (n : ℕ) (rows : List Row) → sum_by (λ (x : Numbered). row_size x.row) (with_number n rows) ≡ sum_by row_size rows
its_bytes n [] = refl
its_bytes n (r ∷ rows) =
    sum_by-cons (λ (x : Numbered). row_size x.row) (record { number = n; row = r }) (with_number n rows)
    ∙ ap (λ s. row_size r + s) (its_bytes n rows)
    ∙ sym (sum_by-cons row_size r rows)

pub straggler_book : (book : Book) (mark number : ℕ) (rows : List Row) → IsBook book mark → mark < number → number < 2 ^ 63 → (IsIn number (all_parts book) → ⊥) → IsSmall rows
    → IsBook (with_straggler number rows book) mark
straggler_book book mark number rows order above bounded outside small =
    admitted_is_book book.closed book.active book.stragglers mark (loose_part number rows) order (one_batch number rows) refl above bounded (free_number book mark number order outside)
    (subst (λ m. m ≤ MOST_BATCH_BYTES) (sym (its_bytes number rows)) small)

pub straggler_batch : (book : Book) (mark number : ℕ) (rows : List Row) → IsBook book mark → mark < number → (IsIn number (all_parts book) → ⊥)
    → batch_at (all_parts (with_straggler number rows book)) number ≡ in_row_order rows
straggler_batch book mark number rows order above outside =
    admitted_batch book.closed book.active book.stragglers mark (loose_part number rows) order (one_batch number rows) refl above (free_number book mark number order outside)
    ∙ ap in_row_order (its_rows number rows)

pub straggler_others : (book : Book) (number : ℕ) (rows : List Row) (n : ℕ) → n ≢ number → batch_at (all_parts (with_straggler number rows book)) n ≡ batch_at (all_parts book) n
straggler_others book number rows n other =
    admitted_others book.closed book.active book.stragglers (loose_part number rows) (one_batch number rows) refl n other

pub straggler_history : (book : Book) (mark number : ℕ) (rows : List Row) → mark < number → hist (with_straggler number rows book) mark ≡ hist book mark
straggler_history book mark number rows above =
    admitted_history book.closed book.active book.stragglers mark (loose_part number rows) (one_batch number rows) above
