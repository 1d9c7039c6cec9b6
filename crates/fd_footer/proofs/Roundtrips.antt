-- Each footer of this project is read as what it is.
use Rattle.std.proofs.Common.{◌≡◌, ℕ, zero, suc, ◌<◌, ◌^◌, ◌==◌, ◌&&◌, ◌||◌, Bool, true, false, pos, List, [], ◌∷◌, length, map, decimal, get_or, nat_lt, Option, Some, None, refl, sym, ap, ap₂, ◌∙◌, arith, inl, inr, ◌⊎◌, if◌then◌else◌}
use Rattle.std.specs.List.{list_all}
use Rattle.std.specs.Char.{is_ascii_digit, digit_value}
use Rattle.std.specs.Ordering.{int_eq}
use Rattle.std.specs.Str.{is_utf8}
use Rattle.std.specs.Str.Parse.{AllDigits, IsNumeral}
use Rattle.std.proofs.lemmas.Fmt.{decimal_is_IsNumeral, decimal_digit, first_decimal}
use Rattle.std.proofs.lemmas.Grind.{common_steps}
use Rattle.std.proofs.lemmas.List.{length-map}
use Rattle.std.proofs.lemmas.Str.Parse.{digit_from_value}
use Rattle.fd_footer.specs.declared.footer.ColumnType.{ColumnType}
use Rattle.fd_footer.specs.declared.footer.ColumnType.TheVariants.{Int64, ByteArray}
use Rattle.fd_footer.specs.declared.footer.Pages.{Pages}
use Rattle.fd_footer.specs.declared.footer.Pages.TheVariants.{Plain, Dict}
use Rattle.fd_footer.specs.declared.footer.Column.{Column}
use Rattle.fd_footer.specs.declared.footer.Footer.{Footer}
use Rattle.fd_footer.specs.declared.key_values.KeyValueMetadata.{KeyValueMetadata}
use Rattle.fd_footer.specs.declared.table.FooterTable.{FooterTable}
use Rattle.fd_footer.specs.Lookups.{values_at}
use Rattle.fd_footer.specs.Layout.{are_own}
use Rattle.fd_footer.specs.Contents.{is_decimal, number_in, is_pages, is_column, column_at, is_schema, entries_of, table_of, table_by, table_with, is_root, have_text_names}
use Rattle.fd_footer.specs.Tables.{column_value, root_value, pages_name}
use Rattle.fd_footer.specs.Footers.{footer_value, IsWritable}
use Rattle.fd_footer.proofs.Values.{values_back}
use Rattle.fd_footer.proofs.Injectivity.{pages_back, columns_back, columns_told}

-- ---- numbers

digit_passes : (d : ℕ) → digit_value d < 10 → is_ascii_digit d ≡ true
digit_passes d small = let range = digit_from_value d small in grind (arith, common_steps)

digits_pass : (ds : List ℕ) → AllDigits 10 ds → list_all is_ascii_digit ds ≡ true
digits_pass [] all = refl
digits_pass (d ∷ ds) all = rw (digit_passes d all.0) (digits_pass ds all.1)

or_true : (a : Bool) → (a || true) ≡ true
or_true true = refl
or_true false = refl

not_zero : (d : ℕ) → 48 < d → (d == 48) ≡ false
not_zero d above = grind (arith, common_steps)

numeral_passes : (ds : List ℕ) → IsNumeral 10 ds → (ds ≡ 48 ∷ []) ⊎ (48 < get_or ds 0 0) → is_decimal ds ≡ true
numeral_passes [] numeral first = absurd (omega (arith, numeral.0))
numeral_passes (d ∷ ds) numeral (inl same) = ap is_decimal same
numeral_passes (d ∷ ds) numeral (inr above) =
    rw (digit_passes d numeral.1.0, digits_pass ds numeral.1.1, not_zero d above) (or_true (length ds == 0))

first_of_decimal : (n : ℕ) → n < 2 ^ 64 → (decimal n ≡ 48 ∷ []) ⊎ (48 < get_or (decimal n) 0 0)
first_of_decimal zero fits = inl (decimal_digit 0 (omega arith))
first_of_decimal (suc n) fits = inr (first_decimal (suc n) (omega arith) fits)

decimal_passes : (n : ℕ) → n < 2 ^ 64 → is_decimal (decimal n) ≡ true
decimal_passes n fits = numeral_passes (decimal n) (decimal_is_IsNumeral n fits).0 (first_of_decimal n fits)

below_passes : (n : ℕ) → n < 2 ^ 64 → nat_lt n (2 ^ 64) ≡ true
below_passes n fits = grind (arith, common_steps)

number_back : (n : ℕ) → n < 2 ^ 64 → number_in (decimal n) ≡ Some n
number_back n fits = rw ((decimal_is_IsNumeral n fits).1, below_passes n fits) refl

-- ---- entries

pages_pass : (p : Pages) → is_pages (pages_name p) ≡ true
pages_pass Plain = refl
pages_pass Dict = refl

entries_told : (f : Footer) → IsWritable f → entries_of (values_at (pos 5) (footer_value f)) ≡ Some (record { hi = Some f.hi; lo = Some f.lo; pages = f.pages })
entries_told f w =
    rw (decimal_passes f.hi w.hi, decimal_passes f.lo w.lo, pages_pass f.pages, number_back f.hi w.hi, number_back f.lo w.lo, pages_back f.pages) refl

-- ---- the schema

column_passes : (name : List ℕ) (t : ColumnType) (required : Bool) → is_column (column_value (record { name = name; column_type = t; required = required })) ≡ is_utf8 name
column_passes name Int64 true = refl
column_passes name Int64 false = refl
column_passes name ByteArray true = refl
column_passes name ByteArray false = refl

columns_pass : (cs : List Column) → have_text_names cs ≡ list_all is_column (map column_value cs)
columns_pass [] = refl
columns_pass (c ∷ cs) = ap₂ (λ a b. a && b) (sym (column_passes c.name c.column_type c.required)) (columns_pass cs)

int_same : (n : ℕ) → int_eq (pos n) (pos n) ≡ true
int_same n = grind (arith, common_steps)

all_true : (a b c : Bool) → a ≡ true → b ≡ true → c ≡ true → (a && b && c) ≡ true
all_true a b c p q r = rw (p, q, r) refl

schema_by : (cs : List Column) → have_text_names cs ≡ true → are_own cs ≡ true → is_schema (root_value (length cs) ∷ map column_value cs) ≡ true
schema_by cs names own =
    all_true (is_root (length (map column_value cs)) (root_value (length cs))) (list_all is_column (map column_value cs)) (are_own (map column_at (map column_value cs)))
    (ap (λ n. is_root n (root_value (length cs))) (length-map cs column_value) ∙ int_same (length cs))
    (sym (columns_pass cs) ∙ names)
    (ap are_own (columns_back cs) ∙ own)

schema_passes : (f : Footer) → have_text_names f.columns ≡ true → are_own f.columns ≡ true → is_schema (values_at (pos 2) (footer_value f)) ≡ true
schema_passes f names own =
    ap is_schema (values_back (root_value (length f.columns) ∷ map column_value f.columns)) ∙ schema_by f.columns names own

pub footer_told : (f : Footer) → IsWritable f → have_text_names f.columns ≡ true → are_own f.columns ≡ true
    → ◌≡◌ {A = Option FooterTable} (table_of (footer_value f)) (Some (record { pages = f.pages; lo = Some f.lo; hi = Some f.hi; rows = pos f.rows; columns = f.columns }))
unfolding table_of
footer_told f w names own =
    let e : KeyValueMetadata = record { hi = Some f.hi; lo = Some f.lo; pages = f.pages } in
    ap (table_by (footer_value f)) (entries_told f w)
    ∙ ap (λ b. if b then Some (table_with (footer_value f) e) else None) (schema_passes f names own)
    ∙ ap (λ cs. Some (record { pages = f.pages; lo = Some f.lo; hi = Some f.hi; rows = pos f.rows; columns = cs })) (columns_told f)
