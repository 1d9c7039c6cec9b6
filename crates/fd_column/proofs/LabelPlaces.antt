-- The column of a label's name.
use Rattle.std.proofs.Common.{◌≡◌, ℕ, suc, ◌+◌, ◌<◌, get_or, drop, Bool, true, false, cond, List, [], ◌∷◌, ◌++◌, map, length, refl, sym, ◌∙◌, ap, subst, arith}
use Rattle.std.specs.Prelude.{Option, Some, None, option_map, slice_get, All}
use Rattle.std.specs.Ordering.{is_eq}
use Rattle.std.specs.Cmp.{Equal-is}
use Rattle.std.proofs.lemmas.Option.{same_Some}
use Rattle.std.proofs.lemmas.List.Elements.{All-nil, All-cons, All-head, All-tail}
use Rattle.fd_kinds.specs.declared.pair.Pair.{Pair}
use Rattle.fd_kinds.specs.declared.row.Numbered.{Numbered}
use Rattle.fd_kinds.specs.LabelMaps.{value_of}
use Rattle.fd_lists.specs.Texts.{text_cmp}
use Rattle.fd_column.specs.declared.table.LabelColumn.{LabelColumn}
use Rattle.fd_column.specs.declared.table.Table.{Table}
use Rattle.fd_dictionary.specs.Dictionaries.{Cells}
use Rattle.fd_column.specs.Cells.{Column, label, pprof_label, columns_of, names_in, series_pairs, pprof_pairs}
use Rattle.fd_column.specs.LabelColumns.{label_column, place_of}
use Rattle.fd_column.specs.Tables.{IsTableOf}
use Rattle.fd_column.proofs.NameLaws.{same_text, has, HasAll, Covers, names_of, names_cover, value_none}
use Rattle.fd_column.proofs.CellLaws.{behind}
use Rattle.fd_column.proofs.Steps.{dropped}

placed : (maps : List (List Pair)) (more : List Column) (name : List ℕ) (names : List (List ℕ)) (place : ℕ) → place_of name (map (label_column maps) names) ≡ Some place → slice_get (map label names ++ more) place ≡ Some (label name)
placed maps more name [] place h = cc
placed maps more name (m ∷ ms) place h = by (is_eq (text_cmp name m)) refl (placed maps more name ms) h
  where
    next : (o : Option ℕ) → place_of name (map (label_column maps) ms) ≡ o → ((p : ℕ) → place_of name (map (label_column maps) ms) ≡ Some p → slice_get (map label ms ++ more) p ≡ Some (label name)) → option_map (λ p. suc p) o ≡ Some place → slice_get (map label (m ∷ ms) ++ more) place ≡ Some (label name)
    next None is ih h = cc
    next (Some p) is ih h = subst (λ at. slice_get (map label (m ∷ ms) ++ more) at ≡ Some (label name)) (same_Some (suc p) place h) (ih p is)

    by : (b : Bool) → is_eq (text_cmp name m) ≡ b → ((p : ℕ) → place_of name (map (label_column maps) ms) ≡ Some p → slice_get (map label ms ++ more) p ≡ Some (label name)) → cond b (Some 0) (option_map (λ p. suc p) (place_of name (map (label_column maps) ms))) ≡ Some place → slice_get (map label (m ∷ ms) ++ more) place ≡ Some (label name)
    by true t ih h =
        let same : m ≡ name = sym (same_text name m ((Equal-is (text_cmp name m)).0 t)) in
        subst (λ at. slice_get (map label (m ∷ ms) ++ more) at ≡ Some (label name)) (same_Some 0 place h) (ap (λ n. Some (label n)) same)
    by false t ih h = next (place_of name (map (label_column maps) ms)) refl ih h

absent : (maps : List (List Pair)) (name : List ℕ) (names : List (List ℕ)) → place_of name (map (label_column maps) names) ≡ None → has name names ≡ false
absent maps name [] h = refl
absent maps name (m ∷ ms) h = by (is_eq (text_cmp name m)) (absent maps name ms) h
  where
    next : (o : Option ℕ) → option_map (λ p. suc p) o ≡ None → o ≡ None
    next None h = refl
    next (Some p) h = cc

    by : (b : Bool) → (place_of name (map (label_column maps) ms) ≡ None → has name ms ≡ false) → cond b (Some 0) (option_map (λ p. suc p) (place_of name (map (label_column maps) ms))) ≡ None → cond b true (has name ms) ≡ false
    by true ih h = cc
    by false ih h = ih (next (place_of name (map (label_column maps) ms)) h)

no_values : (names : List (List ℕ)) (name : List ℕ) (rows : List Numbered) → has name names ≡ false → Covers names (series_pairs rows) → All (λ (row : Numbered). value_of row.row.labels.pairs name ≡ None) rows
no_values names name [] fresh c = All-nil (λ (row : Numbered). value_of row.row.labels.pairs name ≡ None)
no_values names name (n ∷ rows) fresh c =
    All-cons (λ (row : Numbered). value_of row.row.labels.pairs name ≡ None) n rows (value_none names name n.row.labels.pairs fresh (All-head (λ pairs. HasAll names (names_of pairs)) n.row.labels.pairs (series_pairs rows) c)) (no_values names name rows fresh (All-tail (λ pairs. HasAll names (names_of pairs)) n.row.labels.pairs (series_pairs rows) c))

pub column_found : (t : Table Cells) (rows : List Numbered) (name : List ℕ) (place : ℕ) → IsTableOf t rows → place_of name t.labels ≡ Some place → slice_get (columns_of rows) (place + 11) ≡ Some (label name)
column_found t rows name place is there =
    behind rows (place + 11) place (omega arith) (omega arith)
    ∙ placed (series_pairs rows) (map pprof_label (names_in (pprof_pairs rows))) name (names_in (series_pairs rows)) place (sym (ap (place_of name) is.labels) ∙ there)

pub column_missing : (t : Table Cells) (rows : List Numbered) (name : List ℕ) → IsTableOf t rows → place_of name t.labels ≡ None → All (λ (row : Numbered). value_of row.row.labels.pairs name ≡ None) rows
column_missing t rows name is none =
    no_values (names_in (series_pairs rows)) name rows (absent (series_pairs rows) name (names_in (series_pairs rows)) (sym (ap (place_of name) is.labels) ∙ none)) (names_cover (series_pairs rows))

suc_first : (at : ℕ) (o : Option ℕ) → option_map (λ p. at + p) (option_map (λ p. suc p) o) ≡ option_map (λ p. at + 1 + p) o
suc_first at None = refl
suc_first at (Some p) = ap Some (omega arith)

-- the column at a place has the name, or the place is behind it
pub place_here : (columns : List (LabelColumn Cells)) (name : List ℕ) (at : ℕ) (c : LabelColumn Cells) → at < length columns → c ≡ get_or columns at c → is_eq (text_cmp name c.name) ≡ true → option_map (λ p. at + p) (place_of name (drop at columns)) ≡ Some at
place_here columns name at c inside is same =
    ap (λ cs. option_map (λ p. at + p) (place_of name cs)) (dropped columns at c inside is)
    ∙ ap (λ b. option_map (λ p. at + p) (cond b (Some 0) (option_map (λ p. suc p) (place_of name (drop (at + 1) columns))))) same
    ∙ ap Some (omega arith)

pub place_behind : (columns : List (LabelColumn Cells)) (name : List ℕ) (at : ℕ) (c : LabelColumn Cells) → at < length columns → c ≡ get_or columns at c → is_eq (text_cmp name c.name) ≡ false → option_map (λ p. at + p) (place_of name (drop at columns)) ≡ option_map (λ p. at + 1 + p) (place_of name (drop (at + 1) columns))
place_behind columns name at c inside is other =
    ap (λ cs. option_map (λ p. at + p) (place_of name cs)) (dropped columns at c inside is)
    ∙ ap (λ b. option_map (λ p. at + p) (cond b (Some 0) (option_map (λ p. suc p) (place_of name (drop (at + 1) columns))))) other
    ∙ suc_first at (place_of name (drop (at + 1) columns))
