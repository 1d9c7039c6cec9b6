-- The field numbers and kinds of a footer's Thrift structs (parquet-format, `parquet.thrift`), of those that are written.
use Rattle.std.specs.Prelude.{ℕ, ◌-◌, Bool, true, false, ◌&&◌, ◌==◌, pos, List, [], ◌∷◌, Option, Some, None}
use Rattle.std.specs.Ordering.{int_eq}
use Rattle.fd_thrift.specs.Values.{Value, whole32, whole64, binary, list, struct, Items, no_items, item, Fields, no_fields, field}
use Rattle.fd_footer.specs.FieldIds.{chunk_file_offset, chunk_meta_data, element_name, element_num_children, element_repetition_type, element_type, file_created_by, file_key_value_metadata, file_num_rows, file_row_groups, file_schema, file_version, group_columns, group_num_rows, group_total_byte_size, meta_codec, meta_data_page_offset, meta_dictionary_page_offset, meta_encodings, meta_num_values, meta_path_in_schema, meta_total_compressed_size, meta_total_uncompressed_size, meta_type, pair_key, pair_value}
use Rattle.fd_footer.specs.declared.shape.Shape.{Shape}
use Rattle.fd_footer.specs.declared.shape.Shape.TheVariants.{Whole32, Whole64, Binary, FileMetaData, Schema, Root, Element, RowGroups, RowGroup, ColumnChunks, ColumnChunk, ColumnMetaData, Encodings, Path, KeyValues, KeyValue}
use Rattle.fd_footer.specs.declared.shape.Rule.{Rule}

abbrev pub rule : ℕ → Shape → Rule
rule id shape = record { id = pos id; shape = shape }

-- the fields of a struct, in order; other shapes have none
abbrev pub rules : Shape → List Rule
rules FileMetaData = rule file_version Whole32 ∷ rule file_schema Schema ∷ rule file_num_rows Whole64 ∷ rule file_row_groups RowGroups ∷ rule file_key_value_metadata KeyValues ∷ rule file_created_by Binary ∷ []
rules Root = rule element_name Binary ∷ rule element_num_children Whole32 ∷ []
rules Element = rule element_type Whole32 ∷ rule element_repetition_type Whole32 ∷ rule element_name Binary ∷ []
rules RowGroup = rule group_columns ColumnChunks ∷ rule group_total_byte_size Whole64 ∷ rule group_num_rows Whole64 ∷ []
rules ColumnChunk = rule chunk_file_offset Whole64 ∷ rule chunk_meta_data ColumnMetaData ∷ []
rules ColumnMetaData =
    rule meta_type Whole32 ∷ rule meta_encodings Encodings ∷ rule meta_path_in_schema Path ∷ rule meta_codec Whole32 ∷ rule meta_num_values Whole64
    ∷ rule meta_total_uncompressed_size Whole64 ∷ rule meta_total_compressed_size Whole64 ∷ rule meta_data_page_offset Whole64 ∷ rule meta_dictionary_page_offset Whole64 ∷ []
rules KeyValue = rule pair_key Binary ∷ rule pair_value Binary ∷ []
rules shape = []

-- How many of the fields have to be there: all but the place of a dictionary, which comes last. Each struct has two at least.
abbrev pub needed : Shape → ℕ
needed FileMetaData = 6
needed Root = 2
needed Element = 3
needed RowGroup = 3
needed ColumnChunk = 2
needed ColumnMetaData = 8
needed KeyValue = 2
needed shape = 1

-- the shapes of a list's first item and of the others
abbrev pub item_shapes : Shape → Option (Shape × Shape)
item_shapes Schema = Some (Root, Element)
item_shapes RowGroups = Some (RowGroup, RowGroup)
item_shapes ColumnChunks = Some (ColumnChunk, ColumnChunk)
item_shapes Encodings = Some (Whole32, Whole32)
item_shapes Path = Some (Binary, Binary)
item_shapes KeyValues = Some (KeyValue, KeyValue)
item_shapes shape = None

abbrev pub is_whole32 : Shape → Bool
is_whole32 Whole32 = true
is_whole32 shape = false

abbrev pub is_whole64 : Shape → Bool
is_whole64 Whole64 = true
is_whole64 shape = false

abbrev pub is_binary : Shape → Bool
is_binary Binary = true
is_binary shape = false

abbrev mutual
  -- whether a value has the shape
  pub fits : Shape → Value → Bool
  fits shape (whole32 z) = is_whole32 shape
  fits shape (whole64 z) = is_whole64 shape
  fits shape (binary bytes) = is_binary shape
  fits shape (list vs) = elim (item_shapes shape) [ None ↦ false | Some s ↦ items_fit s.0 s.1 vs ]
  fits shape (struct fs) = fields_fit (needed shape) (rules shape) fs

  -- the first item, and the others
  pub items_fit : Shape → Shape → Items → Bool
  items_fit first others no_items = true
  items_fit first others (item v vs) = fits first v && items_fit others others vs

  -- fields by the rules in order, with so many at least
  pub fields_fit : ℕ → List Rule → Fields → Bool
  fields_fit least rs no_fields = least == 0
  fields_fit least [] (field id v fs) = false
  fields_fit least (r ∷ rs) (field id v fs) = int_eq id r.id && fits r.shape v && fields_fit (least - 1) rs fs

-- whether a value has the fields of a footer, and each of them its kind
unfoldable pub has_shape : Value → Bool
has_shape v = fits FileMetaData v
