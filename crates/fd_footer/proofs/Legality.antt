-- Each footer is a tree that has a spelling.
use Rattle.std.proofs.Common.{◌≡◌, ℕ, suc, ◌+◌, ◌≤◌, Bool, true, false, pos, List, [], ◌∷◌, map, refl, sym, subst, arith, codes, decimal, ◌==◌, if◌then◌else◌}
use Rattle.std.proofs.Common.{lit≤, lit<, length}
use Rattle.fd_thrift.specs.Values.{Value, whole32, binary, list, struct, no_items, no_fields}
use Rattle.fd_thrift.specs.View.{items_of}
use Rattle.fd_thrift.specs.Format.{kind_of, items_kind, levels, items_levels, AreOfKind, IsNextId, IsFormed, AreFormedItems, IsLegal}
use Rattle.fd_footer.specs.declared.footer.Column.{Column}
use Rattle.fd_footer.specs.declared.footer.Chunk.{Chunk}
use Rattle.fd_footer.specs.declared.footer.Pages.{Pages}
use Rattle.fd_footer.specs.declared.footer.Footer.{Footer}
use Rattle.fd_footer.specs.Tables.{sequence, root_value, column_value, schema_value, entry_value, entries_value, pages_name, has_dictionary, number_value, encodings, meta_value, chunk_value, chunk_values, group_value}
use Rattle.fd_footer.specs.Footers.{group_values, footer_value}

-- a value of the same kind as another, with at most so many levels, in order
record Fine (like : Value) (most : ℕ) (v : Value) : Type 0 where
  is : kind_of v ≡ kind_of like
  within : levels v ≤ most
  formed : IsFormed v

abbrev AllFine : Value → ℕ → List Value → Type 0
AllFine like most [] = Unit {0}
AllFine like most (v ∷ vs) = Fine like most v × AllFine like most vs

all_of_kind : (like : Value) (most : ℕ) (vs : List Value) → AllFine like most vs → AreOfKind (kind_of like) (items_of vs)
all_of_kind like most [] fine = tt
all_of_kind like most (v ∷ vs) fine = (fine.0.is, all_of_kind like most vs fine.1)

all_within : (like : Value) (most : ℕ) (vs : List Value) → AllFine like most vs → items_levels (items_of vs) ≤ most
all_within like most [] fine = omega arith
all_within like most (v ∷ vs) fine = omega (arith, fine.0.within, all_within like most vs fine.1)

all_formed : (like : Value) (most : ℕ) (vs : List Value) → AllFine like most vs → AreFormedItems (items_of vs)
all_formed like most [] fine = tt
all_formed like most (v ∷ vs) fine = (fine.0.formed, all_formed like most vs fine.1)

of_first : (like : Value) (most : ℕ) (vs : List Value) → AllFine like most vs → AreOfKind (items_kind (items_of vs)) (items_of vs)
of_first like most [] fine = tt
of_first like most (v ∷ vs) fine = (refl, subst (λ k. AreOfKind k (items_of vs)) (sym fine.0.is) (all_of_kind like most vs fine.1))

fine_sequence : (like : Value) (most : ℕ) (vs : List Value) → AllFine like most vs → Fine (list no_items) (suc most) (sequence vs)
fine_sequence like most vs fine = record {
  is = refl;
  within = omega (arith, all_within like most vs fine);
  formed = (of_first like most vs fine, all_formed like most vs fine);
}

-- ---- the parts

fine_numbers : (ns : List ℕ) → AllFine (whole32 (pos 0)) 1 (map number_value ns)
fine_numbers [] = tt
fine_numbers (n ∷ ns) = (record { is = refl; within = lit≤ tt; formed = tt }, fine_numbers ns)

next_1 : IsNextId 0 (pos 1)
next_1 = (lit< tt, lit≤ tt, lit≤ tt)

next : (n : ℕ) → n ≤ 14 → IsNextId n (pos (n + 1))
next n small = (omega arith, omega arith, omega arith)

next_over : (n : ℕ) → n ≤ 14 → IsNextId n (pos (n + 2))
next_over n small = (omega arith, omega arith, omega arith)

fine_root : (n : ℕ) → Fine (struct no_fields) 2 (root_value n)
fine_root n = record {
  is = refl;
  within = lit≤ tt;
  formed = ((lit< tt, lit≤ tt, lit≤ tt), tt, (next 4 (lit≤ tt), tt, tt));
}

fine_column : (c : Column) → Fine (struct no_fields) 2 (column_value c)
fine_column c = record {
  is = refl;
  within = lit≤ tt;
  formed = (next_1, tt, (next_over 1 (lit≤ tt), tt, (next 3 (lit≤ tt), tt, tt)));
}

fine_columns : (cs : List Column) → AllFine (struct no_fields) 2 (map column_value cs)
fine_columns [] = tt
fine_columns (c ∷ cs) = (fine_column c, fine_columns cs)

fine_schema : (cs : List Column) → Fine (list no_items) 3 (schema_value cs)
fine_schema cs = fine_sequence (struct no_fields) 2 (root_value (length cs) ∷ map column_value cs) (fine_root (length cs), fine_columns cs)

fine_entry : (key value : List ℕ) → Fine (struct no_fields) 2 (entry_value key value)
fine_entry key value = record {
  is = refl;
  within = lit≤ tt;
  formed = (next_1, tt, (next 1 (lit≤ tt), tt, tt));
}

fine_entries : (hi lo : ℕ) (pages : Pages) → Fine (list no_items) 3 (entries_value hi lo pages)
fine_entries hi lo pages =
    fine_sequence (struct no_fields) 2 (entry_value (codes "hi") (decimal hi) ∷ entry_value (codes "lo") (decimal lo) ∷ entry_value (codes "pages") (pages_name pages) ∷ []) (fine_entry (codes "hi") (decimal hi), (fine_entry (codes "lo") (decimal lo), (fine_entry (codes "pages") (pages_name pages), tt)))

-- ---- chunks

fine_encodings : (required dictionary : Bool) → Fine (list no_items) 2 (sequence (map number_value (encodings required dictionary)))
fine_encodings required dictionary = fine_sequence (whole32 (pos 0)) 1 _ (fine_numbers (encodings required dictionary))

fine_path : (name : List ℕ) → Fine (list no_items) 2 (sequence (binary name ∷ []))
fine_path name = fine_sequence (binary []) 1 (binary name ∷ []) (record { is = refl; within = lit≤ tt; formed = tt }, tt)

fine_meta : (dictionary : Bool) (rows : ℕ) (c : Column) (k : Chunk) → Fine (struct no_fields) 3 (meta_value dictionary rows c k)
fine_meta true rows c k = record {
  is = refl;
  within = omega (arith, (fine_encodings c.required true).within);
  formed = (next_1, tt, (next 1 (lit≤ tt), (fine_encodings c.required true).formed, (next 2 (lit≤ tt), (fine_path c.name).formed, (next 3 (lit≤ tt), tt, (next 4 (lit≤ tt), tt, (next 5 (lit≤ tt), tt, (next 6 (lit≤ tt), tt, (next_over 7 (lit≤ tt), tt, (next_over 9 (lit≤ tt), tt, tt)))))))));
}
fine_meta false rows c k = record {
  is = refl;
  within = omega (arith, (fine_encodings c.required false).within);
  formed = (next_1, tt, (next 1 (lit≤ tt), (fine_encodings c.required false).formed, (next 2 (lit≤ tt), (fine_path c.name).formed, (next 3 (lit≤ tt), tt, (next 4 (lit≤ tt), tt, (next 5 (lit≤ tt), tt, (next 6 (lit≤ tt), tt, (next_over 7 (lit≤ tt), tt, tt))))))));
}

fine_chunk : (pages : Pages) (rows : ℕ) (c : Column) (k : Chunk) → Fine (struct no_fields) 4 (chunk_value pages rows c k)
fine_chunk pages rows c k =
    let meta = fine_meta (has_dictionary pages c.column_type) rows c k in
    record {
      is = refl;
      within = omega (arith, meta.within);
      formed = (next_over 0 (lit≤ tt), tt, (next 2 (lit≤ tt), meta.formed, tt));
    }

fine_chunks : (pages : Pages) (rows : ℕ) (cs : List Column) (ks : List Chunk) → AllFine (struct no_fields) 4 (chunk_values pages rows cs ks)
fine_chunks pages rows [] ks = tt
fine_chunks pages rows (c ∷ cs) [] = tt
fine_chunks pages rows (c ∷ cs) (k ∷ ks) = (fine_chunk pages rows c k, fine_chunks pages rows cs ks)

fine_group : (pages : Pages) (rows : ℕ) (cs : List Column) (ks : List Chunk) → Fine (struct no_fields) 6 (group_value pages rows cs ks)
fine_group pages rows cs ks =
    let chunks = fine_sequence (struct no_fields) 4 (chunk_values pages rows cs ks) (fine_chunks pages rows cs ks) in
    record {
      is = refl;
      within = omega (arith, chunks.within);
      formed = (next_1, chunks.formed, (next 1 (lit≤ tt), tt, (next 2 (lit≤ tt), tt, tt)));
    }

fine_groups : (f : Footer) (b : Bool) → AllFine (struct no_fields) 6 (if b then [] else group_value f.pages f.rows f.columns f.chunks ∷ [])
fine_groups f true = tt
fine_groups f false = (fine_group f.pages f.rows f.columns f.chunks, tt)

pub footer_is_legal : (f : Footer) → IsLegal (footer_value f)
footer_is_legal f =
    let schema = fine_schema f.columns in
    let groups = fine_sequence (struct no_fields) 6 (group_values f) (fine_groups f (f.rows == 0)) in
    let entries = fine_entries f.hi f.lo f.pages in
    record {
      struct = refl;
      within = omega (arith, schema.within, groups.within, entries.within);
      formed = (next_1, tt, (next 1 (lit≤ tt), schema.formed, (next 2 (lit≤ tt), tt, (next 3 (lit≤ tt), groups.formed, (next 4 (lit≤ tt), entries.formed, (next 5 (lit≤ tt), tt, tt))))));
    }
