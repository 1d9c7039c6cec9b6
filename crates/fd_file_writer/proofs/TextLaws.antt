-- The cells of a column that are bytes are texts or stacks, by its column.
use Rattle.std.proofs.Common.{◌≡◌, ℕ, ◌<◌, Bool, true, false, not, ◌&&◌, List, [], ◌∷◌, length, Option, Some, None, refl, subst, arith, rules}
use Rattle.std.specs.Prelude.{All, IfSome, IsUtf8}
use Rattle.std.specs.Ordering.{is_eq}
use Rattle.std.proofs.lemmas.Bool.{and_parts}
use Rattle.std.proofs.lemmas.List.Elements.{All-nil, All-cons, All-head, All-tail, All-get_or}
use Rattle.fd_kinds.specs.declared.pair.Pair.{Pair}
use Rattle.fd_kinds.specs.declared.row.Numbered.{Numbered}
use Rattle.fd_kinds.specs.Labels.{are_labels, is_before, is_empty}
use Rattle.fd_kinds.specs.LabelMaps.{value_of}
use Rattle.fd_lists.specs.Texts.{text_cmp}
use Rattle.fd_column.specs.Cells.{Column, number, name, sample_type, sample_unit, period_type, period_unit, timestamp, stack, period, duration, value, label, pprof_label, cell_of, label_cell, column_name, column_names}
use Rattle.fd_column.specs.Stacks.{AreShort}
use Rattle.fd_column.specs.Texts.{IsTextPair, HasTexts, AreTexts}
use Rattle.fd_table_file.specs.Columns.{file_cell, file_column, cells_of, column_at, column_count, IsText, HasText, ColumnsHavePlaces}

required_text : (bytes : List ℕ) → IsUtf8 bytes → IsText true bytes
required_text bytes utf8 = record { utf8 = utf8; some = λ e. absurd (search (rules, e)) }

not_empty : (bytes : List ℕ) → not (is_empty bytes) ≡ true → 0 < length bytes
not_empty [] e = absurd (search (rules, e))
not_empty (b ∷ bytes) e = omega arith

value_not_empty : (p : Pair) (ps : List Pair) → are_labels (p ∷ ps) ≡ true → 0 < length p.value
value_not_empty p ps are =
    not_empty p.value (and_parts (not (is_empty p.value)) (is_before p.name ps) (and_parts (not (is_empty p.value) && is_before p.name ps) (are_labels ps) are).0).0

others_are : (p : Pair) (ps : List Pair) → are_labels (p ∷ ps) ≡ true → are_labels ps ≡ true
others_are p ps are = (and_parts (not (is_empty p.value) && is_before p.name ps) (are_labels ps) are).1

value_with : (p : Pair) (ps : List Pair) (l : List ℕ) (here : Bool) → is_eq (text_cmp l p.name) ≡ here → are_labels (p ∷ ps) ≡ true → IsTextPair p
    → IfSome (value_of ps l) (IsText false) → IfSome (value_of (p ∷ ps) l) (IsText false)
value_with p ps l true e are text others = rw e (record { utf8 = text.value; some = λ _. value_not_empty p ps are })
value_with p ps l false e are text others = rw e others

-- the value of a label is a text, and not empty
value_is_text : (pairs : List Pair) (l : List ℕ) → are_labels pairs ≡ true → All IsTextPair pairs → IfSome (value_of pairs l) (IsText false)
value_is_text [] l are texts = tt
value_is_text (p ∷ ps) l are texts =
    value_with p ps l (is_eq (text_cmp l p.name)) refl are (All-head IsTextPair p ps texts) (value_is_text ps l (others_are p ps are) (All-tail IsTextPair p ps texts))

label_has_text : (l : List ℕ) (o : Option (List ℕ)) → IfSome o (IsText false) → HasText (file_column (label l)) (file_cell (label_cell o))
label_has_text l None is = tt
label_has_text l (Some v) is = is

pprof_label_has_text : (l : List ℕ) (o : Option (List ℕ)) → IfSome o (IsText false) → HasText (file_column (pprof_label l)) (file_cell (label_cell o))
pprof_label_has_text l None is = tt
pprof_label_has_text l (Some v) is = is

cell_has_text : (c : Column) (n : Numbered) → HasTexts n.row → AreShort n.row.stack → HasText (file_column c) (file_cell (cell_of c n))
cell_has_text number n texts short = tt
cell_has_text name n texts short = required_text n.row.name texts.name
cell_has_text sample_type n texts short = required_text n.row.sample_type texts.sample_type
cell_has_text sample_unit n texts short = required_text n.row.sample_unit texts.sample_unit
cell_has_text period_type n texts short = required_text n.row.period_type texts.period_type
cell_has_text period_unit n texts short = required_text n.row.period_unit texts.period_unit
cell_has_text timestamp n texts short = tt
cell_has_text stack n texts short = record { frames = n.row.stack; texts = texts.stack; short = short; spelled = refl }
cell_has_text period n texts short = tt
cell_has_text duration n texts short = tt
cell_has_text value n texts short = tt
cell_has_text (label l) n texts short = label_has_text l (value_of n.row.labels.pairs l) (value_is_text n.row.labels.pairs l n.row.labels.in_order texts.labels)
cell_has_text (pprof_label l) n texts short =
    pprof_label_has_text l (value_of n.row.pprof_labels.pairs l) (value_is_text n.row.pprof_labels.pairs l n.row.pprof_labels.in_order texts.pprof_labels)

-- the texts of a column's rows
pub column_has_texts : (c : Column) (rows : List Numbered) → AreTexts rows → All (λ n. AreShort n.row.stack) rows → All (HasText (file_column c)) (cells_of c rows)
unfolding cells_of
column_has_texts c [] texts short = All-nil (HasText (file_column c))
column_has_texts c (n ∷ rows) texts short =
    All-cons (HasText (file_column c)) _ _
    (cell_has_text c n (All-head (λ n. HasTexts n.row) n rows texts) (All-head (λ n. AreShort n.row.stack) n rows short))
    (column_has_texts c rows (All-tail (λ n. HasTexts n.row) n rows texts) (All-tail (λ n. AreShort n.row.stack) n rows short))

-- the name of a column is a text
pub name_is_text : ColumnsHavePlaces → (rows : List Numbered) (k : ℕ) → k < column_count rows → All IsUtf8 (column_names rows) → IsUtf8 (column_name (column_at rows k))
unfolding column_count
name_is_text by_place rows k lt names = subst IsUtf8 (by_place.names rows k lt) (All-get_or IsUtf8 (column_names rows) k [] lt names)
