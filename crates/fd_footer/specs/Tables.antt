-- The Thrift structs of a footer (parquet-format, `parquet.thrift`) with the fields that are written.
use Rattle.std.specs.Prelude.{ℕ, ◌+◌, Bool, true, false, ℤ, pos, List, [], ◌∷◌, ◌++◌, length, map, codes, decimal}
use Rattle.fd_thrift.specs.Values.{Value, whole32, whole64, binary, list, struct}
use Rattle.fd_thrift.specs.View.{items_of, fields_of}
use Rattle.fd_footer.specs.FieldIds.{chunk_file_offset, chunk_meta_data, element_name, element_num_children, element_repetition_type, element_type, group_columns, group_num_rows, group_total_byte_size, meta_codec, meta_data_page_offset, meta_dictionary_page_offset, meta_encodings, meta_num_values, meta_path_in_schema, meta_total_compressed_size, meta_total_uncompressed_size, meta_type, pair_key, pair_value}
use Rattle.fd_footer.specs.declared.footer.ColumnType.{ColumnType}
use Rattle.fd_footer.specs.declared.footer.ColumnType.TheVariants.{Int64, ByteArray}
use Rattle.fd_footer.specs.declared.footer.Pages.{Pages}
use Rattle.fd_footer.specs.declared.footer.Pages.TheVariants.{Plain, Dict}
use Rattle.fd_footer.specs.declared.footer.Column.{Column}
use Rattle.fd_footer.specs.declared.footer.Chunk.{Chunk}

abbrev pub structure : List (ℤ × Value) → Value
structure fields = struct (fields_of fields)

abbrev pub sequence : List Value → Value
sequence values = list (items_of values)

-- ---- Parquet's numbers

-- Type: INT64 and BYTE_ARRAY
abbrev pub type_number : ColumnType → ℕ
type_number Int64 = 2
type_number ByteArray = 6

-- FieldRepetitionType: REQUIRED and OPTIONAL
abbrev pub repetition_number : Bool → ℕ
repetition_number true = 0
repetition_number false = 1

-- Encoding: PLAIN, RLE and RLE_DICTIONARY
abbrev pub plain_encoding : ℕ
plain_encoding = 0

abbrev pub rle_encoding : ℕ
rle_encoding = 3

abbrev pub dictionary_encoding : ℕ
dictionary_encoding = 8

-- CompressionCodec: UNCOMPRESSED
abbrev pub uncompressed : ℕ
uncompressed = 0

-- ---- SchemaElement

-- the root, which has so many columns
abbrev pub root_value : ℕ → Value
root_value columns = structure (
    (pos element_name, binary (codes "schema"))
    ∷ (pos element_num_children, whole32 (pos columns))
    ∷ [])

abbrev pub column_value : Column → Value
column_value c = structure (
    (pos element_type, whole32 (pos (type_number c.column_type)))
    ∷ (pos element_repetition_type, whole32 (pos (repetition_number c.required)))
    ∷ (pos element_name, binary c.name)
    ∷ [])

abbrev pub schema_value : List Column → Value
schema_value columns = sequence (root_value (length columns) ∷ map column_value columns)

-- ---- KeyValue

abbrev pub entry_value : List ℕ → List ℕ → Value
entry_value key value = structure ((pos pair_key, binary key) ∷ (pos pair_value, binary value) ∷ [])

abbrev pub pages_name : Pages → List ℕ
pages_name Plain = codes "plain"
pages_name Dict = codes "dict"

abbrev pub entries_value : ℕ → ℕ → Pages → Value
entries_value hi lo pages = sequence (
    entry_value (codes "hi") (decimal hi)
    ∷ entry_value (codes "lo") (decimal lo)
    ∷ entry_value (codes "pages") (pages_name pages)
    ∷ [])

-- ---- ColumnMetaData

-- whether the pages of such a column begin with a dictionary
abbrev pub has_dictionary : Pages → ColumnType → Bool
has_dictionary Dict ByteArray = true
has_dictionary pages column_type = false

abbrev pub number_value : ℕ → Value
number_value n = whole32 (pos n)

-- Values or the dictionary are plain, the levels of an optional column are runs, and indexes have their own encoding.
abbrev pub encodings : Bool → Bool → List ℕ
encodings true false = plain_encoding ∷ []
encodings false false = plain_encoding ∷ rle_encoding ∷ []
encodings true true = plain_encoding ∷ dictionary_encoding ∷ []
encodings false true = plain_encoding ∷ rle_encoding ∷ dictionary_encoding ∷ []

-- what the chunk holds; the values that are absent count too
abbrev pub content_fields : Bool → ℕ → Column → List (ℤ × Value)
content_fields dictionary rows c =
    (pos meta_type, whole32 (pos (type_number c.column_type)))
    ∷ (pos meta_encodings, sequence (map number_value (encodings c.required dictionary)))
    ∷ (pos meta_path_in_schema, sequence (binary c.name ∷ []))
    ∷ (pos meta_codec, whole32 (pos uncompressed))
    ∷ (pos meta_num_values, whole64 (pos rows))
    ∷ []

-- where its pages stand: the sizes count the headers of pages
abbrev pub place_fields : Chunk → List (ℤ × Value)
place_fields k =
    (pos meta_total_uncompressed_size, whole64 (pos k.size))
    ∷ (pos meta_total_compressed_size, whole64 (pos k.size))
    ∷ (pos meta_data_page_offset, whole64 (pos k.data_page))
    ∷ []

-- where its dictionary stands, if it has one
abbrev pub dictionary_fields : Bool → Chunk → List (ℤ × Value)
dictionary_fields true k = (pos meta_dictionary_page_offset, whole64 (pos k.place)) ∷ []
dictionary_fields false k = []

abbrev pub meta_value : Bool → ℕ → Column → Chunk → Value
meta_value dictionary rows c k = structure (content_fields dictionary rows c ++ place_fields k ++ dictionary_fields dictionary k)

-- ---- ColumnChunk

abbrev pub chunk_value : Pages → ℕ → Column → Chunk → Value
chunk_value pages rows c k = structure (
    (pos chunk_file_offset, whole64 (pos k.place))
    ∷ (pos chunk_meta_data, meta_value (has_dictionary pages c.column_type) rows c k)
    ∷ [])

-- the chunks of columns, one for each
abbrev pub chunk_values : Pages → ℕ → List Column → List Chunk → List Value
chunk_values pages rows [] chunks = []
chunk_values pages rows (c ∷ columns) [] = []
chunk_values pages rows (c ∷ columns) (k ∷ chunks) = chunk_value pages rows c k ∷ chunk_values pages rows columns chunks

-- ---- RowGroup

-- how many bytes the chunks have
abbrev pub total_size : List Chunk → ℕ
total_size [] = 0
total_size (k ∷ chunks) = k.size + total_size chunks

abbrev pub group_value : Pages → ℕ → List Column → List Chunk → Value
group_value pages rows columns chunks = structure (
    (pos group_columns, sequence (chunk_values pages rows columns chunks))
    ∷ (pos group_total_byte_size, whole64 (pos (total_size chunks)))
    ∷ (pos group_num_rows, whole64 (pos rows))
    ∷ [])
