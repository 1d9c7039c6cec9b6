-- The bytes of cells are texts and stacks by their columns, which are those that each file has and columns of labels.
use Rattle.std.proofs.Common.{◌≡◌, ℕ, zero, suc, ◌+◌, ◌<◌, Bool, true, false, List, [], ◌∷◌, ◌++◌, length, get_or, refl, sym, ap, ◌∙◌, subst, arith, true≢false, codes}
use Rattle.std.specs.Prelude.{Option, Some, None, slice_get, unwrap_or, All, IfSome, IsUtf8, nat_lt, ◌&&◌}
use Rattle.std.specs.Borrow.{Bor}
use Rattle.std.specs.List.{AllZip, list_all}
use Rattle.std.specs.Option.{option_copied, MatchOption}
use Rattle.std.specs.Str.{bytes_eq, IsCharBoundary}
use Rattle.std.proofs.lemmas.Bool.{and_parts}
use Rattle.std.proofs.lemmas.Option.{same_Some, slice_get-get_or}
use Rattle.std.proofs.lemmas.Slice.Eq.{bytes_eq-Decides}
use Rattle.std.proofs.lemmas.Str.{IsUtf8-drop, IsUtf8-nil, IsCharBoundary-after_ascii}
use Rattle.std.proofs.lemmas.List.Elements.{All-nil}
use Rattle.fd_column.specs.Stacks.{frames_of}
use Rattle.fd_pages.specs.declared.cell.Cell.{Cell}
use Rattle.fd_pages.specs.declared.cell.Cell.TheVariants.{Absent, Whole, Bytes}
use Rattle.fd_footer.specs.declared.footer.ColumnType.{ColumnType}
use Rattle.fd_footer.specs.declared.footer.Column.{Column}
use Rattle.fd_footer.specs.Layout.{fixed, are_own, are_own_by}
use Rattle.fd_table_file.specs.Columns.{has_stacks, HasText, IsContent, IsStack, IsText}
use Rattle.fd_parquet.specs.Stages.{HaveTexts}
use Rattle.fd_parquet.specs.Rows.{cell_in, cell_bytes, text_in, behind, NamesLabels}
use Rattle.fd_parquet.proofs.Injectivity.{some_is, not_some}
use Rattle.fd_parquet.proofs.RowRoundtrips.{all_there, frames_back}

same_bytes : (a b : List ℕ) → bytes_eq a b ≡ true → a ≡ b
same_bytes a b e = (bytes_eq-Decides a b).0 e

-- ---- what stands in a cell, by its column

bytes_here : (c : Column) (cells : List Cell) (at : ℕ) (v : List ℕ) → All (HasText c) cells → (o : Option Cell) → slice_get cells at ≡ o → cell_bytes o ≡ Some v → IsContent (has_stacks c) c.required v
bytes_here c cells at v all None there is = absurd (not_some v is)
bytes_here c cells at v all (Some Absent) there is = absurd (not_some v is)
bytes_here c cells at v all (Some (Whole n)) there is = absurd (not_some v is)
bytes_here c cells at v all (Some (Bytes bytes)) there is =
    subst (λ b. IsContent (has_stacks c) c.required b) (some_is bytes v is) (all_there (HasText c) cells at (Bytes bytes) all there)

content_at : (columns : List Column) (cells : List (List Cell)) (place at : ℕ) (c : Column) (v : List ℕ) → AllZip (λ f cells. All (HasText f) cells) columns cells
    → slice_get columns place ≡ Some c → cell_bytes (cell_in cells place at) ≡ Some v → IsContent (has_stacks c) c.required v
content_at [] cells place at c v all there is = absurd (not_some c there)
content_at (f ∷ columns) [] place at c v all there is = absurd all
content_at (f ∷ columns) (list ∷ cells) zero at c v all there is =
    subst (λ d. IsContent (has_stacks d) d.required v) (same_Some f c there) (bytes_here f list at v all.0 (slice_get list at) refl is)
content_at (f ∷ columns) (list ∷ cells) (suc place) at c v all there is = content_at columns cells place at c v all.1 there is

-- ---- the columns that each file has

first_of : (a b c : Bool) → (a && b && c) ≡ true → a ≡ true
first_of true b c e = refl
first_of false b c e = absurd (true≢false (sym e))

-- the column at the place of one that each file has
fixed_at : (names : List (List ℕ × ColumnType)) (columns : List Column) (place : ℕ) (name : List ℕ × ColumnType) → are_own_by names columns ≡ true → slice_get names place ≡ Some name
    → (c : Column) × (slice_get columns place ≡ Some c) × (c.name ≡ name.0)
fixed_at [] columns place name own there = absurd (not_some name there)
fixed_at (f ∷ names) [] place name own there = absurd (true≢false (sym own))
fixed_at (f ∷ names) (c ∷ columns) zero name own there =
    (c, refl, same_bytes c.name f.0 (first_of _ _ _ (and_parts _ _ own).0) ∙ ap (λ (n : List ℕ × ColumnType). n.0) (same_Some f name there))
fixed_at (f ∷ names) (c ∷ columns) (suc place) name own there = fixed_at names columns place name (and_parts _ _ own).1 there

-- the column of that name
named_at : (columns : List Column) (place : ℕ) (name : List ℕ × ColumnType) → are_own columns ≡ true → slice_get fixed place ≡ Some name
    → (c : Column) × (slice_get columns place ≡ Some c) × (has_stacks c ≡ bytes_eq name.0 (codes "stack"))
unfolding are_own
named_at columns place name own there =
    let (c, is, named) = fixed_at fixed columns place name own there in
    (c, is, ap (λ n. bytes_eq n (codes "stack")) named)

pub text_utf8 : (columns : List Column) (cells : List (List Cell)) (place at : ℕ) (name : List ℕ × ColumnType) → are_own columns ≡ true → HaveTexts columns cells
    → slice_get fixed place ≡ Some name → bytes_eq name.0 (codes "stack") ≡ false → IsUtf8 (text_in cells place at)
text_utf8 columns cells place at name own texts there other =
    let (c, is, named) = named_at columns place name own there in
    by c is (named ∙ other) (cell_bytes (cell_in cells place at)) refl
  where
    by : (c : Column) → slice_get columns place ≡ Some c → has_stacks c ≡ false → (o : Option (List ℕ)) → cell_bytes (cell_in cells place at) ≡ o → IsUtf8 (unwrap_or o [])
    by c is other None e = IsUtf8-nil
    by c is other (Some v) e =
        let text : IsText c.required v = subst (λ b. IsContent b c.required v) other (content_at columns cells place at c v texts.texts is e) in
        text.utf8

pub stack_utf8 : (columns : List Column) (cells : List (List Cell)) (place at : ℕ) (name : List ℕ × ColumnType) → are_own columns ≡ true → HaveTexts columns cells
    → slice_get fixed place ≡ Some name → bytes_eq name.0 (codes "stack") ≡ true → All IsUtf8 (frames_of (text_in cells place at))
stack_utf8 columns cells place at name own texts there same =
    let (c, is, named) = named_at columns place name own there in
    by c is (named ∙ same) (cell_bytes (cell_in cells place at)) refl
  where
    by : (c : Column) → slice_get columns place ≡ Some c → has_stacks c ≡ true → (o : Option (List ℕ)) → cell_bytes (cell_in cells place at) ≡ o → All IsUtf8 (frames_of (unwrap_or o []))
    by c is same None e = All-nil IsUtf8
    by c is same (Some v) e =
        let stack : IsStack v = subst (λ b. IsContent b c.required v) same (content_at columns cells place at c v texts.texts is e) in
        subst (All IsUtf8) (sym (frames_back v stack)) stack.texts

-- ---- names and values of labels

-- what follows ASCII in a text is a text
pub behind_utf8 : (prefix name rest : List ℕ) → list_all (λ b. nat_lt b 128) prefix ≡ true → IsUtf8 name → name ≡ prefix ++ rest → IsUtf8 rest
behind_utf8 [] name rest ascii utf8 is = subst IsUtf8 is utf8
behind_utf8 (p ∷ prefix) name rest ascii utf8 is =
    let parts = and_parts (nat_lt p 128) (list_all (λ b. nat_lt b 128) prefix) ascii in
    let whole : IsUtf8 (p ∷ (prefix ++ rest)) = subst IsUtf8 is utf8 in
    let cut : IsCharBoundary (p ∷ (prefix ++ rest)) 1 = IsCharBoundary-after_ascii (p ∷ (prefix ++ rest)) 0 whole (omega arith) (below parts.0) in
    behind_utf8 prefix (prefix ++ rest) rest parts.1 (IsUtf8-drop (p ∷ (prefix ++ rest)) 1 whole cut) refl
  where
    below : nat_lt p 128 ≡ true → p < 128
    below e = grind arith

-- the column of stacks has no name with such a prefix
no_stack : (prefix name rest : List ℕ) → NamesLabels prefix → behind prefix name ≡ Some rest → (b : Bool) → bytes_eq name (codes "stack") ≡ b → b ≡ false
no_stack prefix name rest labels is false e = refl
no_stack prefix name rest labels is true e = absurd (not_some rest (sym labels.other ∙ ap (behind prefix) (sym (same_bytes name (codes "stack") e)) ∙ is))

-- the value of a label is a text
pub value_utf8 : (prefix : List ℕ) (columns : List Column) (cells : List (List Cell)) (place at : ℕ) (c : Column) (name value : Option (Bor (List ℕ))) → NamesLabels prefix → HaveTexts columns cells
    → place < length columns → c ≡ get_or columns place c → option_copied name ≡ behind prefix c.name → option_copied value ≡ cell_bytes (cell_in cells place at)
    → IfSome name (λ _. IfSome value (λ v. IsUtf8 v.now))
value_utf8 prefix columns cells place at c None value labels texts lt is named there = tt
value_utf8 prefix columns cells place at c (Some name) None labels texts lt is named there = tt
value_utf8 prefix columns cells place at c (Some name) (Some value) labels texts lt is named there =
    let here : slice_get columns place ≡ Some c = slice_get-get_or columns place c lt ∙ ap (λ x. Some x) (sym is) in
    let other : has_stacks c ≡ false = no_stack prefix c.name name.now labels (sym named) (has_stacks c) refl in
    let text : IsText c.required value.now = subst (λ b. IsContent b c.required value.now) other (content_at columns cells place at c value.now texts.texts here (sym there)) in
    text.utf8

-- the same, of what was found
pub name_utf8 : (prefix name : List ℕ) (r : Option (Bor (List ℕ))) → NamesLabels prefix → IsUtf8 name → MatchOption r ((rest : List ℕ) → name ≡ prefix ++ rest → ⊥) (λ x. name ≡ prefix ++ x.now)
    → IfSome r (λ x. IsUtf8 x.now)
name_utf8 prefix name None labels utf8 found = tt
name_utf8 prefix name (Some x) labels utf8 found = behind_utf8 prefix name x.now labels.ascii utf8 found
