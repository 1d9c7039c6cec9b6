-- A footer has two bytes at least for each of its columns.
use Rattle.std.proofs.Common.{◌≡◌, ℕ, suc, ◌+◌, ◌*◌, ◌≤◌, Bool, true, false, ◌&&◌, ◌||◌, pos, ℤ, List, [], ◌∷◌, ◌++◌, length, map, Option, Some, None, Result, Ok, Err, IfOk, refl, sym, ap, ◌∙◌, subst, arith, length-append, if◌then◌else◌}
use Rattle.std.specs.Ordering.{int_eq}
use Rattle.std.specs.List.{list_all}
use Rattle.std.proofs.lemmas.List.{length-map}
use Rattle.fd_thrift.specs.Values.{Value, whole32, whole64, binary, list, struct, Items, no_items, item, Fields, no_fields, field}
use Rattle.fd_thrift.specs.Format.{varint, zigzag, list_header, items_len, items_kind, spelling, items_spelling, fields_spelling, id_of, kind_of, Spells}
use Rattle.fd_footer.specs.declared.key_values.KeyValueMetadata.{KeyValueMetadata}
use Rattle.fd_footer.specs.declared.table.FooterTable.{FooterTable}
use Rattle.fd_footer.specs.declared.footer.Column.{Column}
use Rattle.fd_footer.specs.declared.fault.FooterFault.{FooterFault}
use Rattle.fd_footer.specs.Reader.{AnswersTable}
use Rattle.fd_footer.specs.Lookups.{field_in, values_in, values_of, values_at}
use Rattle.fd_footer.specs.Contents.{is_root, is_column, column_at, is_schema, columns_in, entries_of, table_of, table_by, table_with}
use Rattle.fd_footer.specs.Layout.{are_own}

-- the spelling of fields ends with a byte
some_end : (last : ℕ) (fs : Fields) → 1 ≤ length (fields_spelling last fs)
some_end last no_fields = omega arith
some_end last (field id v fs) = omega (arith, length-append (spelling v) (fields_spelling (id_of id) fs))

-- a field's value is spelled in its struct
field_within : (id : ℤ) (last : ℕ) (fs : Fields) → length (spelling (field_in id fs)) ≤ length (fields_spelling last fs)
field_within id last no_fields = omega arith
field_within id last (field i v fs) = by (int_eq i id) (field_within id (id_of i) fs)
  where
    n : length (spelling v ++ fields_spelling (id_of i) fs) ≡ length (spelling v) + length (fields_spelling (id_of i) fs)
    n = length-append (spelling v) (fields_spelling (id_of i) fs)

    by : (b : Bool) → length (spelling (field_in id fs)) ≤ length (fields_spelling (id_of i) fs) → length (spelling (if b then v else field_in id fs)) ≤ suc (length (spelling v ++ fields_spelling (id_of i) fs))
    by true others = omega (arith, n)
    by false others = omega (arith, n, others)

-- a column's element has a field, and the byte that ends it
column_length : (v : Value) → is_column v ≡ true → 2 ≤ length (spelling v)
column_length (whole32 z) is = cc
column_length (whole64 z) is = cc
column_length (binary bytes) is = cc
column_length (list vs) is = cc
column_length (struct no_fields) is = cc
column_length (struct (field id v fs)) is = omega (arith, length-append (spelling v) (fields_spelling (id_of id) fs), some_end (id_of id) fs)

first_is : (a b : Bool) → (a && b) ≡ true → a ≡ true
first_is true b e = refl
first_is false b e = cc

second_is : (a b : Bool) → (a && b) ≡ true → b ≡ true
second_is true b e = e
second_is false b e = cc

items_length : (vs : Items) → list_all is_column (values_in vs) ≡ true → 2 * length (values_in vs) ≤ length (items_spelling vs)
items_length no_items all = omega arith
items_length (item v vs) all =
    let first : 2 ≤ length (spelling v) = column_length v (first_is (is_column v) (list_all is_column (values_in vs)) all) in
    let others : 2 * length (values_in vs) ≤ length (items_spelling vs) = items_length vs (second_is (is_column v) (list_all is_column (values_in vs)) all) in
    omega (arith, first, others, length-append (spelling v) (items_spelling vs))

middle_is : (a b c : Bool) → (a && b && c) ≡ true → b ≡ true
middle_is true true c all = refl
middle_is true false c all = cc
middle_is false true c all = cc
middle_is false false c all = cc

-- the columns of a schema, by the value that holds it
schema_length : (v : Value) → is_schema (values_of v) ≡ true → 2 * length (columns_in (values_of v)) ≤ length (spelling v)
schema_length (whole32 z) is = cc
schema_length (whole64 z) is = cc
schema_length (binary bytes) is = cc
schema_length (struct fs) is = cc
schema_length (list no_items) is = cc
schema_length (list (item root vs)) is =
    let all : list_all is_column (values_in vs) ≡ true = middle_is (is_root (length (values_in vs)) root) (list_all is_column (values_in vs)) (are_own (map column_at (values_in vs))) is in
    let count : length (map column_at (values_in vs)) ≡ length (values_in vs) = length-map (values_in vs) column_at in
    let header : List ℕ = list_header (suc (items_len vs)) (kind_of root) in
    omega (arith, count, items_length vs all, length-append (spelling root) (items_spelling vs), length-append header (spelling root ++ items_spelling vs))

-- the same of a footer's tree
tree_length : (v : Value) → is_schema (values_at (pos 2) v) ≡ true → 2 * length (columns_in (values_at (pos 2) v)) ≤ length (spelling v)
tree_length (whole32 z) is = cc
tree_length (whole64 z) is = cc
tree_length (binary bytes) is = cc
tree_length (list vs) is = cc
tree_length (struct fs) is = omega (arith, schema_length (field_in (pos 2) fs) is, field_within (pos 2) 0 fs)

table_length : (v : Value) (e : KeyValueMetadata) (b : Bool) (t : FooterTable) → is_schema (values_at (pos 2) v) ≡ b
    → ◌≡◌ {A = Option FooterTable} (if b then Some (table_with v e) else None) (Some t) → 2 * length t.columns ≤ length (spelling v)
table_length v e true t is same =
    let columns : columns_in (values_at (pos 2) v) ≡ t.columns = ap (λ (o : Option FooterTable). columns_or o) same in
    subst (λ (cs : List Column). 2 * length cs ≤ length (spelling v)) columns (tree_length v is)
  where
    columns_or : Option FooterTable → List Column
    columns_or None = []
    columns_or (Some t) = t.columns
table_length v e false t is same = cc

by_entries : (v : Value) (o : Option KeyValueMetadata) (t : FooterTable) → ◌≡◌ {A = Option FooterTable} (table_by v o) (Some t) → 2 * length t.columns ≤ length (spelling v)
by_entries v None t same = cc
by_entries v (Some e) t same = table_length v e (is_schema (values_at (pos 2) v)) t refl same

columns_short : (v : Value) (t : FooterTable) → ◌≡◌ {A = Option FooterTable} (table_of v) (Some t) → 2 * length t.columns ≤ length (spelling v)
unfolding table_of
columns_short v t same = by_entries v (entries_of (values_at (pos 5) v)) t same

pub columns_few : (bytes : List ℕ) (v : Value) (r : Result FooterTable FooterFault) → Spells bytes v → AnswersTable v r → IfOk r (λ t. 2 * length t.columns ≤ length bytes)
columns_few bytes v (Ok t) spelled read = omega (arith, ap length spelled.whole, columns_short v t read.1)
columns_few bytes v (Err e) spelled read = tt
