-- The pairs of a row's labels, column by column.
use Rattle.std.proofs.Common.{◌≡◌, ℕ, zero, suc, ◌+◌, ◌<◌, ◌≤◌, ◌==◌, Bool, true, false, cond, List, [], ◌∷◌, ◌++◌, length, drop, get_or, refl, sym, ap, ◌∙◌, arith, append_assoc}
use Rattle.std.specs.Prelude.{Option, Some, None}
use Rattle.std.specs.List.{cons_option}
use Rattle.std.specs.Option.{option_copied, MatchOption}
use Rattle.std.specs.Borrow.{Bor}
use Rattle.std.proofs.lemmas.List.{append-nil, drop_more, drop_all}
use Rattle.std.proofs.lemmas.Bool.Decides.{Decides-eqb}
use Rattle.fd_kinds.specs.declared.pair.Pair.{Pair}
use Rattle.fd_kinds.specs.declared.labels.Labels.{Labels}
use Rattle.fd_kinds.specs.Labels.{are_labels}
use Rattle.fd_kinds.specs.LabelsOf.{with_pairs}
use Rattle.fd_kinds.proofs.RowLaws.{same_labels_of_pairs}
use Rattle.fd_column.specs.LabelColumns.{labels_from}
use Rattle.fd_column.proofs.RowLabels.{labels_from_is}
use Rattle.fd_pages.specs.declared.cell.Cell.{Cell}
use Rattle.fd_footer.specs.declared.footer.Column.{Column}
use Rattle.fd_parquet.specs.Rows.{cell_in, cell_bytes, behind, pair_of, pairs_in}

-- ---- names behind a prefix

same_byte : (p : ℕ) → (p == p) ≡ true
same_byte p = (Decides-eqb p p).1 refl

behind_whole : (prefix rest : List ℕ) → behind prefix (prefix ++ rest) ≡ Some rest
behind_whole [] rest = refl
behind_whole (p ∷ prefix) rest = ap (λ b. cond b (behind prefix (prefix ++ rest)) None) (same_byte p) ∙ behind_whole prefix rest

pub behind_is : (prefix name rest : List ℕ) → name ≡ prefix ++ rest → behind prefix name ≡ Some rest
behind_is prefix name rest is = ap (behind prefix) is ∙ behind_whole prefix rest

pub behind_none : (prefix name : List ℕ) → ((rest : List ℕ) → name ≡ prefix ++ rest → ⊥) → behind prefix name ≡ None
behind_none [] name none = absurd (none name refl)
behind_none (p ∷ prefix) [] none = refl
behind_none (p ∷ prefix) (b ∷ name) none = by (p == b) refl (λ same. behind_none prefix name (λ rest is. none rest (λ i. sym same i ∷ is i)))
  where
    by : (t : Bool) → (p == b) ≡ t → (p ≡ b → behind prefix name ≡ None) → cond t (behind prefix name) None ≡ None
    by false e less = refl
    by true e less = less ((Decides-eqb p b).0 e)

-- the same, of what was found
pub behind_option : (prefix name : List ℕ) (r : Option (Bor (List ℕ))) → MatchOption r ((rest : List ℕ) → name ≡ prefix ++ rest → ⊥) (λ x. name ≡ prefix ++ x.now) → option_copied r ≡ behind prefix name
behind_option prefix name None none = sym (behind_none prefix name none)
behind_option prefix name (Some x) is = sym (behind_is prefix name x.now is)

-- ---- pairs, one column after another

pair_none : (name : Option (List ℕ)) → pair_of name None ≡ None
pair_none None = refl
pair_none (Some name) = refl

no_cells : (prefix : List ℕ) (columns : List Column) (at : ℕ) → pairs_in prefix columns [] at ≡ []
no_cells prefix [] at = refl
no_cells prefix (c ∷ columns) at = refl

one_more : (prefix : List ℕ) (c : Column) (columns : List Column) (cells : List (List Cell)) (place at : ℕ)
    → pairs_in prefix (c ∷ columns) (drop place cells) at
    ≡ cons_option (pair_of (behind prefix c.name) (cell_bytes (cell_in cells place at))) (pairs_in prefix columns (drop (suc place) cells) at)
one_more prefix c columns [] zero at = sym (ap (λ o. cons_option o (pairs_in prefix columns [] at)) (pair_none (behind prefix c.name)) ∙ no_cells prefix columns at)
one_more prefix c columns [] (suc place) at = sym (ap (λ o. cons_option o (pairs_in prefix columns [] at)) (pair_none (behind prefix c.name)) ∙ no_cells prefix columns at)
one_more prefix c columns (list ∷ cells) zero at = refl
one_more prefix c columns (list ∷ cells) (suc place) at = one_more prefix c columns cells place at

push_pair : (o : Option Pair) (pairs rest : List Pair) → pairs ++ cons_option o rest ≡ (pairs ++ cons_option o []) ++ rest
push_pair None pairs rest = ap (λ xs. xs ++ rest) (sym (append-nil pairs))
push_pair (Some p) pairs rest = sym (append_assoc pairs (p ∷ []) rest)

-- what is collected so far and what the columns that are left tell is what all tell
pub pairs_more : (prefix : List ℕ) (columns : List Column) (cells : List (List Cell)) (place at : ℕ) (c : Column) (pairs more all : List Pair)
    → place < length columns → c ≡ get_or columns place c
    → more ≡ pairs ++ cons_option (pair_of (behind prefix c.name) (cell_bytes (cell_in cells place at))) []
    → pairs ++ pairs_in prefix (drop place columns) (drop place cells) at ≡ all
    → more ++ pairs_in prefix (drop (place + 1) columns) (drop (place + 1) cells) at ≡ all
pairs_more prefix columns cells place at c pairs more all lt is pushed so_far =
    let here : drop place columns ≡ c ∷ drop (place + 1) columns = drop_more columns place c lt ∙ ap (λ x. x ∷ drop (place + 1) columns) (sym is) in
    let o : Option Pair = pair_of (behind prefix c.name) (cell_bytes (cell_in cells place at)) in
    let rest : List Pair = pairs_in prefix (drop (place + 1) columns) (drop (place + 1) cells) at in
    let s : suc place ≡ place + 1 = omega arith in
    let split : pairs_in prefix (drop place columns) (drop place cells) at ≡ cons_option o rest =
    ap (λ cs. pairs_in prefix cs (drop place cells) at) here ∙ one_more prefix c (drop (place + 1) columns) cells place at
    ∙ ap (λ n. cons_option o (pairs_in prefix (drop (place + 1) columns) (drop n cells) at)) s in
    ap (λ xs. xs ++ rest) pushed ∙ sym (push_pair o pairs rest) ∙ ap (λ xs. pairs ++ xs) (sym split) ∙ so_far

pub pairs_all : (prefix : List ℕ) (columns : List Column) (cells : List (List Cell)) (place at : ℕ) (pairs all : List Pair) → length columns ≤ place
    → pairs ++ pairs_in prefix (drop place columns) (drop place cells) at ≡ all → pairs ≡ all
pairs_all prefix columns cells place at pairs all done so_far =
    sym (append-nil pairs) ∙ ap (λ cs. pairs ++ pairs_in prefix cs (drop place cells) at) (sym (drop_all place columns done)) ∙ so_far

-- ---- labels of pairs

pub labels_there : (labels : Labels) (pairs : List Pair) → labels.pairs ≡ pairs → labels ≡ labels_from pairs
labels_there labels pairs is = sym (labels_from_is labels pairs (sym is))

empty_of : (pairs : List Pair) (b : Bool) (e : are_labels pairs ≡ b) → b ≡ false → (with_pairs pairs b e).pairs ≡ []
empty_of pairs true e h = cc
empty_of pairs false e h = refl

pub no_labels : (labels : Labels) (pairs : List Pair) → labels.pairs ≡ [] → are_labels pairs ≡ false → labels ≡ labels_from pairs
no_labels labels pairs none out = same_labels_of_pairs labels (labels_from pairs) (none ∙ sym (empty_of pairs (are_labels pairs) refl out))
