-- The ids of the fields that are written (parquet-format, `parquet.thrift`), by their structs.
use Rattle.std.specs.Prelude.{ℕ}

-- ---- FileMetaData

abbrev pub file_version : ℕ
file_version = 1

abbrev pub file_schema : ℕ
file_schema = 2

abbrev pub file_num_rows : ℕ
file_num_rows = 3

abbrev pub file_row_groups : ℕ
file_row_groups = 4

abbrev pub file_key_value_metadata : ℕ
file_key_value_metadata = 5

abbrev pub file_created_by : ℕ
file_created_by = 6

-- ---- SchemaElement

abbrev pub element_type : ℕ
element_type = 1

abbrev pub element_repetition_type : ℕ
element_repetition_type = 3

abbrev pub element_name : ℕ
element_name = 4

abbrev pub element_num_children : ℕ
element_num_children = 5

-- ---- RowGroup

abbrev pub group_columns : ℕ
group_columns = 1

abbrev pub group_total_byte_size : ℕ
group_total_byte_size = 2

abbrev pub group_num_rows : ℕ
group_num_rows = 3

-- ---- ColumnChunk

abbrev pub chunk_file_offset : ℕ
chunk_file_offset = 2

abbrev pub chunk_meta_data : ℕ
chunk_meta_data = 3

-- ---- ColumnMetaData

abbrev pub meta_type : ℕ
meta_type = 1

abbrev pub meta_encodings : ℕ
meta_encodings = 2

abbrev pub meta_path_in_schema : ℕ
meta_path_in_schema = 3

abbrev pub meta_codec : ℕ
meta_codec = 4

abbrev pub meta_num_values : ℕ
meta_num_values = 5

abbrev pub meta_total_uncompressed_size : ℕ
meta_total_uncompressed_size = 6

abbrev pub meta_total_compressed_size : ℕ
meta_total_compressed_size = 7

abbrev pub meta_data_page_offset : ℕ
meta_data_page_offset = 9

abbrev pub meta_dictionary_page_offset : ℕ
meta_dictionary_page_offset = 11

-- ---- KeyValue

abbrev pub pair_key : ℕ
pair_key = 1

abbrev pub pair_value : ℕ
pair_value = 2
