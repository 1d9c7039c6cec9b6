-- The table of the places of stacks, as places are noted.
use Rattle.std.proofs.Common.{◌≡◌, inl, inr, ℕ, zero, suc, ◌-◌, ◌<◌, List, [], ◌∷◌, ◌++◌, map, length, get_or, refl, sym, ◌∙◌, ap, arith}
use Rattle.std.proofs.Math.ListN.{set}
use Rattle.std.proofs.lemmas.List.{get_or-set_other}
use Rattle.std.proofs.lemmas.Bool.{cases_eq}
use Rattle.std.specs.Prelude.{Option, Some, None, option_map, All}
use Rattle.std.specs.Option.{option_and_then}
use Rattle.std.specs.BTreeMap.{BTreeMap, get}
use Rattle.std.proofs.lemmas.List.Elements.{All-head, All-tail}
use Rattle.fd_kinds.specs.declared.row.Numbered.{Numbered}
use Rattle.fd_kinds.specs.Meaning.{stack_cmp}
use Rattle.fd_dictionary.specs.Dictionaries.{cell_in, pick_in, entries_of, entry_at, index_in}
use Rattle.fd_column.specs.Cells.{column_texts}
use Rattle.fd_column.specs.Stacks.{stack_bytes, frames_of, AreShort}
use Rattle.fd_column.proofs.StackLaws.{frames_of_stack}
use Rattle.fd_scan.specs.RowPlaces.{row_at}
use Rattle.fd_groups.specs.Groups.{KeepsSlots}
use Rattle.fd_scan.specs.StackSlots.{KnowsSlots, known_slot, noted}
use Rattle.fd_scan.proofs.LookupLaws.{same_place}

abbrev Stack : Type 0
Stack = List (List ℕ)

-- ---- rows with one entry have one stack

stack_cell : (rows : List Numbered) (at : ℕ) → at < length rows → cell_in (map (λ n. Some (stack_bytes n.row.stack)) rows) at ≡ Some (stack_bytes (row_at rows at).stack)
unfolding row_at
stack_cell [] at h = absurd (omega arith)
stack_cell (n ∷ ns) zero h = refl
stack_cell (n ∷ ns) (suc at) h = stack_cell ns at (omega arith)

short_at : (rows : List Numbered) (at : ℕ) → at < length rows → All (λ n. AreShort n.row.stack) rows → AreShort (row_at rows at).stack
unfolding row_at
short_at [] at h s = absurd (omega arith)
short_at (n ∷ ns) zero h s = All-head (λ n. AreShort n.row.stack) n ns s
short_at (n ∷ ns) (suc at) h s = short_at ns at (omega arith) (All-tail (λ n. AreShort n.row.stack) n ns s)

pub same_entry : (es : List (List ℕ)) (a b : List ℕ) (entry : ℕ) (p q : Option ℕ) → pick_in es a ≡ p → pick_in es b ≡ q → option_map (λ pick. pick - 1) p ≡ Some entry → option_map (λ pick. pick - 1) q ≡ Some entry → a ≡ b
same_entry es a b entry None q ha hb ea eb = absurd (cc)
same_entry es a b entry (Some p) None ha hb ea eb = absurd (cc)
same_entry es a b entry (Some p) (Some q) ha hb ea eb =
    let x : p - 1 ≡ entry = cc in
    let y : q - 1 ≡ entry = cc in
    same_place es a b p q ha hb (x ∙ sym y)

same_bytes : (a b : Stack) → AreShort a → AreShort b → stack_bytes a ≡ stack_bytes b → a ≡ b
same_bytes a b sa sb e = sym (frames_of_stack a sa) ∙ ap frames_of e ∙ frames_of_stack b sb

entry_is : (rows : List Numbered) (at : ℕ) (entry : ℕ) → at < length rows → index_in (column_texts rows 7) at ≡ Some entry → entry_at (entries_of (column_texts rows 7)) (stack_bytes (row_at rows at).stack) ≡ Some entry
entry_is rows at entry h is =
    sym (ap (option_and_then (entry_at (entries_of (column_texts rows 7)))) (stack_cell rows at h)) ∙ is

same_stacks : (rows : List Numbered) (a b entry : ℕ) → All (λ n. AreShort n.row.stack) rows → a < length rows → b < length rows → index_in (column_texts rows 7) a ≡ Some entry → index_in (column_texts rows 7) b ≡ Some entry → (row_at rows a).stack ≡ (row_at rows b).stack
same_stacks rows a b entry short ha hb ea eb =
    same_bytes (row_at rows a).stack (row_at rows b).stack (short_at rows a ha short) (short_at rows b hb short)
    (same_entry (entries_of (column_texts rows 7)) (stack_bytes (row_at rows a).stack) (stack_bytes (row_at rows b).stack) entry
    (pick_in (entries_of (column_texts rows 7)) (stack_bytes (row_at rows a).stack)) (pick_in (entries_of (column_texts rows 7)) (stack_bytes (row_at rows b).stack)) refl refl
    (entry_is rows a entry ha ea) (entry_is rows b entry hb eb))

-- ---- the table

-- one more entry for which nothing is known
pub nothing_more : (known : List (Option ℕ)) → ((entry : ℕ) → get_or known entry None ≡ None) → (entry : ℕ) → get_or (known ++ None ∷ []) entry None ≡ None
nothing_more [] none zero = refl
nothing_more [] none (suc entry) = refl
nothing_more (x ∷ known) none zero = none zero
nothing_more (x ∷ known) none (suc entry) = nothing_more known (λ e. none (suc e)) entry

noted_same : (known : List (Option ℕ)) (entry slot s : ℕ) → get_or (set known entry (Some slot)) entry None ≡ Some s → s ≡ slot
noted_same [] zero slot s is = cc
noted_same [] (suc entry) slot s is = cc
noted_same (x ∷ known) zero slot s is = cc
noted_same (x ∷ known) (suc entry) slot s is = noted_same known entry slot s is

-- the place of the stack of a row was noted
pub knows_more : (rows : List Numbered) (m n : BTreeMap Stack ℕ) (known : List (Option ℕ)) (at slot : ℕ)
    → All (λ n. AreShort n.row.stack) rows → at < length rows
    → KeepsSlots m n → get stack_cmp n (row_at rows at).stack ≡ Some slot
    → KnowsSlots rows m known → KnowsSlots rows n (noted known (index_in (column_texts rows 7) at) slot)
knows_more rows m n known at slot short within keeps found before = record {
  each = λ b s h is. by b s h (index_in (column_texts rows 7) at) (index_in (column_texts rows 7) b) refl refl is;
}
  where
    old : (b s : ℕ) → b < length rows → known_slot known (index_in (column_texts rows 7) b) ≡ Some s → get stack_cmp n (row_at rows b).stack ≡ Some s
    old b s h is = keeps.each (row_at rows b).stack s (before.each b s h is)

    by : (b s : ℕ) → b < length rows → (x y : Option ℕ) → index_in (column_texts rows 7) at ≡ x → index_in (column_texts rows 7) b ≡ y → known_slot (noted known x slot) y ≡ Some s → get stack_cmp n (row_at rows b).stack ≡ Some s
    by b s h None y ex ey is = old b s h (ap (known_slot known) ey ∙ is)
    by b s h (Some x) None ex ey is = absurd (cc)
    by b s h (Some x) (Some y) ex ey is =
        elim (cases_eq y x) [
          | inl e ↦
              let es : s ≡ slot = noted_same known x slot s (ap (λ k. get_or (set known x (Some slot)) k None) (sym e) ∙ is) in
              let st : (row_at rows at).stack ≡ (row_at rows b).stack = same_stacks rows at b x short within h ex (ey ∙ ap Some e) in
              ap (get stack_cmp n) (sym st) ∙ found ∙ ap Some (sym es)
          | inr ne ↦
              old b s h (ap (known_slot known) ey ∙ sym (get_or-set_other known x y (Some slot) None ne) ∙ is)
        ]
