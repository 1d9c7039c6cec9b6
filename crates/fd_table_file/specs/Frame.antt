-- What a file has around its chunks and its footer (Apache Parquet, README.md, "File format").
use Rattle.std.specs.Prelude.{ℕ, List, ◌++◌, length, codes}
use Rattle.std.specs.Int.{w32, to_le_bytes}

abbrev pub magic : List ℕ
magic = codes "PAR1"

-- the magic, the chunks, the footer, its length in four bytes with the lowest first, and the magic
abbrev pub framed : List ℕ → List ℕ → List ℕ
framed body footer = magic ++ (body ++ (footer ++ (to_le_bytes w32 (length footer) ++ magic)))
