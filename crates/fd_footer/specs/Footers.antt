-- The footer of a file: FileMetaData and its spelling.
use Rattle.std.specs.Prelude.{◌≡◌, ℕ, ◌<◌, ◌^◌, ◌==◌, pos, List, [], ◌∷◌, length, codes, if◌then◌else◌}
use Rattle.std.specs.List.{All}
use Rattle.fd_thrift.specs.Values.{Value, whole32, whole64, binary}
use Rattle.fd_thrift.specs.Format.{spelling}
use Rattle.fd_footer.specs.declared.footer.Chunk.{Chunk}
use Rattle.fd_footer.specs.declared.footer.Footer.{Footer}
use Rattle.fd_footer.specs.FieldIds.{file_created_by, file_key_value_metadata, file_num_rows, file_row_groups, file_schema, file_version}
use Rattle.fd_footer.specs.Tables.{structure, sequence, schema_value, group_value, entries_value, total_size}

-- all rows are one group, and no rows are none
abbrev pub group_values : Footer → List Value
group_values f = if f.rows == 0 then [] else group_value f.pages f.rows f.columns f.chunks ∷ []

abbrev pub footer_value : Footer → Value
footer_value f = structure (
    (pos file_version, whole32 (pos 1))
    ∷ (pos file_schema, schema_value f.columns)
    ∷ (pos file_num_rows, whole64 (pos f.rows))
    ∷ (pos file_row_groups, sequence (group_values f))
    ∷ (pos file_key_value_metadata, entries_value f.hi f.lo f.pages)
    ∷ (pos file_created_by, binary (codes "frostd"))
    ∷ [])

unfoldable pub footer_bytes : Footer → List ℕ
footer_bytes f = spelling (footer_value f)

-- the places of a chunk are numbers of 64 bits with a sign
pub record IsPlaced (k : Chunk) : Type 0 where
  pub place : k.place < 2 ^ 63
  pub data_page : k.data_page < 2 ^ 63

-- all numbers fit their fields, and there is a chunk for each column, or none where there are no rows
pub record IsWritable (f : Footer) : Type 0 where
  pub columns : length f.columns < 2 ^ 31
  pub chunks : length f.chunks ≡ (if f.rows == 0 then 0 else length f.columns)
  pub rows : f.rows < 2 ^ 63
  pub lo : f.lo < 2 ^ 64
  pub hi : f.hi < 2 ^ 64
  pub places : All IsPlaced f.chunks
  pub sizes : total_size f.chunks < 2 ^ 63
