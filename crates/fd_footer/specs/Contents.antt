-- What a footer's tree tells of its columns, rows and range.
use Rattle.std.specs.Prelude.{ℕ, ◌^◌, Bool, false, not, ◌&&◌, ◌||◌, ◌==◌, ℤ, pos, List, [], ◌∷◌, length, map, codes, nat_lt, Option, Some, None, if◌then◌else◌}
use Rattle.std.specs.List.{list_all}
use Rattle.std.specs.Char.{is_ascii_digit}
use Rattle.std.specs.Ordering.{int_eq}
use Rattle.std.specs.Str.{bytes_eq, is_utf8}
use Rattle.std.specs.Str.Parse.{digits_value}
use Rattle.fd_thrift.specs.Values.{Value}
use Rattle.fd_footer.specs.declared.footer.ColumnType.TheVariants.{Int64, ByteArray}
use Rattle.fd_footer.specs.declared.footer.Pages.{Pages}
use Rattle.fd_footer.specs.declared.footer.Pages.TheVariants.{Plain, Dict}
use Rattle.fd_footer.specs.declared.footer.Column.{Column}
use Rattle.fd_footer.specs.declared.table.FooterTable.{FooterTable}
use Rattle.fd_footer.specs.declared.key_values.KeyValueMetadata.{KeyValueMetadata}
use Rattle.fd_footer.specs.FieldIds.{element_name, element_num_children, element_repetition_type, element_type, file_key_value_metadata, file_num_rows, file_schema, pair_key, pair_value}
use Rattle.fd_footer.specs.Lookups.{number_at, text_at, values_at}
use Rattle.fd_footer.specs.Layout.{are_own}

-- ---- the schema

abbrev pub is_type : ℤ → Bool
is_type n = int_eq n (pos 2) || int_eq n (pos 6)

abbrev pub is_repetition : ℤ → Bool
is_repetition n = int_eq n (pos 0) || int_eq n (pos 1)

-- a column's element: a number or a text, required or optional, with a name in UTF-8
abbrev pub is_column : Value → Bool
is_column v = is_type (number_at (pos element_type) v) && is_repetition (number_at (pos element_repetition_type) v) && is_utf8 (text_at (pos element_name) v)

abbrev pub column_at : Value → Column
column_at v = record {
  name = text_at (pos element_name) v;
  column_type = if int_eq (number_at (pos element_type) v) (pos 2) then Int64 else ByteArray;
  required = int_eq (number_at (pos element_repetition_type) v) (pos 0);
}

abbrev pub has_text_name : Column → Bool
has_text_name c = is_utf8 c.name

-- the names are UTF-8
abbrev pub have_text_names : List Column → Bool
have_text_names cs = list_all has_text_name cs

-- the root's element, which has so many columns
abbrev pub is_root : ℕ → Value → Bool
is_root columns v = bytes_eq (text_at (pos element_name) v) (codes "schema") && int_eq (number_at (pos element_num_children) v) (pos columns)

-- the elements are those of the root and of this project's columns
abbrev pub is_schema : List Value → Bool
is_schema [] = false
is_schema (root ∷ vs) = is_root (length vs) root && list_all is_column vs && are_own (map column_at vs)

abbrev pub columns_in : List Value → List Column
columns_in [] = []
columns_in (root ∷ vs) = map column_at vs

-- ---- the key-value entries

-- digits without a leading zero
abbrev pub is_decimal : List ℕ → Bool
is_decimal [] = false
is_decimal (d ∷ ds) = is_ascii_digit d && list_all is_ascii_digit ds && ((length ds == 0) || not (d == 48))

-- the number that digits write, where it is below 2 ^ 64
abbrev pub number_in : List ℕ → Option ℕ
number_in digits = if nat_lt (digits_value 10 digits) (2 ^ 64) then Some (digits_value 10 digits) else None

abbrev pub is_pages : List ℕ → Bool
is_pages name = bytes_eq name (codes "plain") || bytes_eq name (codes "dict")

abbrev pub pages_in : List ℕ → Pages
pages_in name = if bytes_eq name (codes "plain") then Plain else Dict

abbrev pub is_number_entry : List ℕ → Value → Bool
is_number_entry key v = bytes_eq (text_at (pos pair_key) v) key && is_decimal (text_at (pos pair_value) v)

abbrev pub is_pages_entry : Value → Bool
is_pages_entry v = bytes_eq (text_at (pos pair_key) v) (codes "pages") && is_pages (text_at (pos pair_value) v)

-- the entries are `hi`, `lo` and `pages`
abbrev pub entries_of : List Value → Option KeyValueMetadata
entries_of (hi ∷ lo ∷ pages ∷ []) =
    if is_number_entry (codes "hi") hi && is_number_entry (codes "lo") lo && is_pages_entry pages
    then Some (record {
      hi = number_in (text_at (pos pair_value) hi);
      lo = number_in (text_at (pos pair_value) lo);
      pages = pages_in (text_at (pos pair_value) pages);
    })
    else None
entries_of other = None

-- ---- the table

abbrev pub table_with : Value → KeyValueMetadata → FooterTable
table_with v e = record {
  pages = e.pages;
  lo = e.lo;
  hi = e.hi;
  rows = number_at (pos file_num_rows) v;
  columns = columns_in (values_at (pos file_schema) v);
}

abbrev pub table_by : Value → Option KeyValueMetadata → Option FooterTable
table_by v None = None
table_by v (Some e) = if is_schema (values_at (pos file_schema) v) then Some (table_with v e) else None

-- the table of a footer's tree, where its columns and entries are this project's
unfoldable pub table_of : Value → Option FooterTable
table_of v = table_by v (entries_of (values_at (pos file_key_value_metadata) v))
