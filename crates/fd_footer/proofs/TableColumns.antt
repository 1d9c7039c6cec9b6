-- The columns of a table are this project's.
use Rattle.std.proofs.Common.{◌≡◌, Bool, true, false, ◌&&◌, pos, List, [], ◌∷◌, length, map, Option, Some, None, Result, Ok, Err, IfOk, refl, sym, ap, ◌∙◌, if◌then◌else◌}
use Rattle.std.specs.List.{list_all}
use Rattle.fd_thrift.specs.Values.{Value}
use Rattle.fd_footer.specs.declared.key_values.KeyValueMetadata.{KeyValueMetadata}
use Rattle.fd_footer.specs.declared.table.FooterTable.{FooterTable}
use Rattle.fd_footer.specs.declared.footer.Column.{Column}
use Rattle.fd_footer.specs.declared.fault.FooterFault.{FooterFault}
use Rattle.fd_footer.specs.Reader.{AnswersTable}
use Rattle.fd_footer.specs.Lookups.{values_at}
use Rattle.fd_footer.specs.Layout.{are_own}
use Rattle.fd_footer.specs.Contents.{is_root, is_column, column_at, is_schema, columns_in, entries_of, table_of, table_by, table_with}

last_of : (a b c : Bool) → (a && b && c) ≡ true → c ≡ true
last_of true true c all = all
last_of true false c all = cc
last_of false true c all = cc
last_of false false c all = cc

schema_own : (vs : List Value) → is_schema vs ≡ true → are_own (columns_in vs) ≡ true
schema_own [] all = cc
schema_own (root ∷ vs) all = last_of (is_root (length vs) root) (list_all is_column vs) (are_own (map column_at vs)) all

columns_of : List Column → Option FooterTable → List Column
columns_of cs None = cs
columns_of cs (Some t) = t.columns

chosen : (v : Value) (e : KeyValueMetadata) (b : Bool) (t : FooterTable) → is_schema (values_at (pos 2) v) ≡ b
    → ◌≡◌ {A = Option FooterTable} (if b then Some (table_with v e) else None) (Some t) → are_own t.columns ≡ true
unfolding columns_of
chosen v e true t own same = ap are_own (sym (ap (columns_of []) same)) ∙ schema_own (values_at (pos 2) v) own
chosen v e false t own same = cc

by_entries : (v : Value) (o : Option KeyValueMetadata) (t : FooterTable) → ◌≡◌ {A = Option FooterTable} (table_by v o) (Some t) → are_own t.columns ≡ true
by_entries v None t same = cc
by_entries v (Some e) t same = chosen v e (is_schema (values_at (pos 2) v)) t refl same

pub table_own : (v : Value) (t : FooterTable) → ◌≡◌ {A = Option FooterTable} (table_of v) (Some t) → are_own t.columns ≡ true
unfolding table_of
table_own v t same = by_entries v (entries_of (values_at (pos 5) v)) t same

pub own_read : (v : Value) (r : Result FooterTable FooterFault) → AnswersTable v r → IfOk r (λ t. are_own t.columns ≡ true)
own_read v (Ok t) read = table_own v t read.1
own_read v (Err e) read = tt
