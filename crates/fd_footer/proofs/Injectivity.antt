-- What a footer's tree tells of it.
use Rattle.std.proofs.Common.{◌≡◌, ℕ, zero, suc, ◌==◌, Bool, true, false, ℤ, pos, negsuc, List, [], ◌∷◌, length, map, refl, sym, ap, ap₂, ◌∙◌, arith, if◌then◌else◌}
use Rattle.std.proofs.lemmas.Fmt.{decimal_injective}
use Rattle.fd_thrift.specs.Values.{Value}
use Rattle.fd_footer.specs.declared.footer.ColumnType.{ColumnType}
use Rattle.fd_footer.specs.declared.footer.ColumnType.TheVariants.{Int64, ByteArray}
use Rattle.fd_footer.specs.declared.footer.Pages.{Pages}
use Rattle.fd_footer.specs.declared.footer.Pages.TheVariants.{Plain, Dict}
use Rattle.fd_footer.specs.declared.footer.Column.{Column}
use Rattle.fd_footer.specs.declared.footer.Chunk.{Chunk}
use Rattle.fd_footer.specs.declared.footer.Footer.{Footer}
use Rattle.fd_footer.specs.Lookups.{field_at, number_at, text_at, values_at}
use Rattle.fd_footer.specs.Contents.{column_at, columns_in, pages_in}
use Rattle.fd_footer.specs.Tables.{column_value, root_value, pages_name, chunk_values, group_value}
use Rattle.fd_footer.specs.Footers.{footer_value, group_values, IsWritable}
use Rattle.fd_footer.proofs.Values.{values_back}

-- ---- columns

column_by : (name : List ℕ) (t : ColumnType) (required : Bool)
    → column_at (column_value (record { name = name; column_type = t; required = required })) ≡ record { name = name; column_type = t; required = required }
column_by name Int64 true = refl
column_by name Int64 false = refl
column_by name ByteArray true = refl
column_by name ByteArray false = refl

pub column_back : (c : Column) → column_at (column_value c) ≡ c
column_back c = column_by c.name c.column_type c.required

pub columns_back : (cs : List Column) → map column_at (map column_value cs) ≡ cs
columns_back [] = refl
columns_back (c ∷ cs) = ap₂ (λ x xs. x ∷ xs) (column_back c) (columns_back cs)

pub columns_told : (f : Footer) → columns_in (values_at (pos 2) (footer_value f)) ≡ f.columns
columns_told f = ap columns_in (values_back (root_value (length f.columns) ∷ map column_value f.columns)) ∙ columns_back f.columns

-- ---- pages

pub pages_back : (p : Pages) → pages_in (pages_name p) ≡ p
pages_back Plain = refl
pages_back Dict = refl

entry_text : ℕ → List Value → List ℕ
entry_text n [] = []
entry_text zero (v ∷ vs) = text_at (pos 2) v
entry_text (suc n) (v ∷ vs) = entry_text n vs

-- ---- chunks

natural : ℤ → ℕ
natural (pos n) = n
natural (negsuc n) = 0

chunk_at : Value → Chunk
chunk_at v = record {
  place = natural (number_at (pos 2) v);
  size = natural (number_at (pos 6) (field_at (pos 3) v));
  data_page = natural (number_at (pos 9) (field_at (pos 3) v));
}

chunks_back : (p : Pages) (rows : ℕ) (cs : List Column) (ks : List Chunk) → length ks ≡ length cs → map chunk_at (chunk_values p rows cs ks) ≡ ks
unfolding chunk_at natural
chunks_back p rows [] [] same = refl
chunks_back p rows [] (k ∷ ks) same = absurd (omega arith)
chunks_back p rows (c ∷ cs) [] same = refl
chunks_back p rows (c ∷ cs) (k ∷ ks) same = ap (λ xs. k ∷ xs) (chunks_back p rows cs ks (omega arith))

-- the chunks of the groups
chunks_in : List Value → List Chunk
chunks_in [] = []
chunks_in (v ∷ vs) = map chunk_at (values_at (pos 1) v)

no_chunks : (ks : List Chunk) → length ks ≡ 0 → [] ≡ ks
no_chunks [] none = refl
no_chunks (k ∷ ks) none = absurd (omega arith)

chunks_by : (f : Footer) (b : Bool) → length f.chunks ≡ (if b then 0 else length f.columns)
    → chunks_in (if b then [] else group_value f.pages f.rows f.columns f.chunks ∷ []) ≡ f.chunks
unfolding chunks_in
chunks_by f true same = no_chunks f.chunks same
chunks_by f false same =
    ap (map chunk_at) (values_back (chunk_values f.pages f.rows f.columns f.chunks)) ∙ chunks_back f.pages f.rows f.columns f.chunks same

chunks_told : (f : Footer) → IsWritable f → chunks_in (values_at (pos 4) (footer_value f)) ≡ f.chunks
chunks_told f w = ap chunks_in (values_back (group_values f)) ∙ chunks_by f (f.rows == 0) w.chunks

-- ---- footers

footer_told : (f : Footer) → Pages → ℕ → ℕ → ℕ → List Column → List Chunk → Footer
footer_told f p lo hi rows cs ks = record { pages = p; lo = lo; hi = hi; rows = rows; columns = cs; chunks = ks }

same_parts : (p q : Pages) (lo lo' hi hi' rows rows' : ℕ) (cs ds : List Column) (ks ls : List Chunk)
    → p ≡ q → lo ≡ lo' → hi ≡ hi' → rows ≡ rows' → cs ≡ ds → ks ≡ ls
    → ◌≡◌ {A = Footer} (record { pages = p; lo = lo; hi = hi; rows = rows; columns = cs; chunks = ks }) (record { pages = q; lo = lo'; hi = hi'; rows = rows'; columns = ds; chunks = ls })
same_parts p q lo lo' hi hi' rows rows' cs ds ks ls a b c d e h = cc

pub same_footer : (f g : Footer) → IsWritable f → IsWritable g → footer_value f ≡ footer_value g → f ≡ g
unfolding entry_text natural
same_footer f g w v same =
    let text : (n : ℕ) → entry_text n (values_at (pos 5) (footer_value f)) ≡ entry_text n (values_at (pos 5) (footer_value g)) = λ n. ap (λ x. entry_text n (values_at (pos 5) x)) same in
    same_parts f.pages g.pages f.lo g.lo f.hi g.hi f.rows g.rows f.columns g.columns f.chunks g.chunks
    (sym (pages_back f.pages) ∙ ap pages_in (text 2) ∙ pages_back g.pages)
    (decimal_injective f.lo g.lo w.lo v.lo (text 1))
    (decimal_injective f.hi g.hi w.hi v.hi (text 0))
    (ap (λ x. natural (number_at (pos 3) x)) same)
    (sym (columns_told f) ∙ ap (λ x. columns_in (values_at (pos 2) x)) same ∙ columns_told g)
    (sym (chunks_told f w) ∙ ap (λ x. chunks_in (values_at (pos 4) x)) same ∙ chunks_told g v)
