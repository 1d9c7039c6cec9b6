-- Pages that are read one after the other are the chunk of their cells.
use Rattle.std.proofs.Common.{◌≡◌, ℕ, ◌+◌, ◌-◌, ◌<◌, ◌≤◌, Bool, true, false, nat_lt, List, [], ◌∷◌, ◌++◌, length, min, refl, sym, ap, ◌∙◌, subst, append_assoc, arith, rules, length-append, true≢false, Ok, Err, Result}
use Rattle.std.proofs.lemmas.List.{append-nil, nil_from_length}
use Rattle.std.specs.Borrow.{Bor}
use Rattle.fd_pages.specs.declared.cell.CellKind.{CellKind}
use Rattle.fd_pages.specs.declared.cell.Cell.{Cell}
use Rattle.fd_pages.specs.declared.fault.PageFault.{PageFault}
use Rattle.fd_pages.specs.declared.fault.PageFault.TheVariants.{BadPage, NoMemory}
use Rattle.fd_pages.specs.Pages.{BeginsPage, SeenGives}
use Rattle.fd_footer.specs.declared.footer.Pages.{Pages}
use Rattle.fd_footer.specs.declared.footer.Column.{Column}
use Rattle.fd_table_file.specs.Columns.{kind_in, HasText}
use Rattle.std.specs.Prelude.{All}
use Rattle.fd_footer.specs.Tables.{has_dictionary}
use Rattle.fd_parquet.specs.Refusals.{IsColumn, BeginsChunk}
use Rattle.fd_table_file.specs.Chunks.{ArePages, AreValuePages, Pieces, plain_pieces, IsBefore, IsData, IsChunk, BeginsCells}

-- cells and the bytes behind them, as they are read
abbrev pub Read : Type 0
Read = List Cell × Bor (List ℕ)

abbrev pub seen : Read → List Cell × List ℕ
seen r = (r.0, r.1.now)

-- ---- a chunk without a dictionary

no_dictionary_by : (dictionary : Bool) (cells : List Cell) (bytes : List ℕ) → dictionary ≡ false → IsBefore dictionary cells bytes → bytes ≡ []
no_dictionary_by false cells bytes e is = is
no_dictionary_by true cells bytes e is = absurd (true≢false e)

-- a chunk that is read has no dictionary
pub no_dictionary : (pages : Pages) (f : Column) (count : ℕ) (cells : List Cell) (chunk : Pieces) → IsColumn pages f count cells chunk → chunk.dictionary ≡ []
no_dictionary pages f count cells chunk is = no_dictionary_by (has_dictionary pages f.column_type) cells chunk.dictionary is.plain is.spelled.before

values_by : (dictionary : Bool) (kind : CellKind) (required : Bool) (cells : List Cell) (bytes : List ℕ) → dictionary ≡ false → IsData dictionary kind required cells bytes → AreValuePages kind required cells bytes
values_by false kind required cells bytes e is = is
values_by true kind required cells bytes e is = absurd (true≢false e)

chunk_by : (dictionary : Bool) (kind : CellKind) (required : Bool) (cells : List Cell) (bytes : List ℕ) → dictionary ≡ false → AreValuePages kind required cells bytes → IsChunk dictionary kind required cells (plain_pieces bytes)
chunk_by false kind required cells bytes e is = record { before = refl; data_pages = is }
chunk_by true kind required cells bytes e is = absurd (true≢false e)

-- the cells of a chunk of a column
pub chunk_cells : (pages : Pages) (f : Column) (count : ℕ) (bytes : List ℕ) (cells : List Cell) (rest : List ℕ) → BeginsChunk pages f count bytes cells rest
    → BeginsCells (kind_in f.column_type) f.required count bytes cells rest
chunk_cells pages f count bytes cells rest b = record {
  front = b.front.pages;
  whole = b.whole ∙ ap (λ xs. (xs ++ b.front.pages) ++ rest) (no_dictionary pages f count cells b.front b.is);
  counted = b.is.counted;
  data_pages = values_by (has_dictionary pages f.column_type) (kind_in f.column_type) f.required cells b.front.pages b.is.plain b.is.spelled.data_pages;
}

-- cells that are texts are the chunk of a column
pub cells_chunk : (pages : Pages) (f : Column) (count : ℕ) (bytes : List ℕ) (cells : List Cell) (rest : List ℕ) → has_dictionary pages f.column_type ≡ false → All (HasText f) cells
    → BeginsCells (kind_in f.column_type) f.required count bytes cells rest → BeginsChunk pages f count bytes cells rest
cells_chunk pages f count bytes cells rest plain texts b = record {
  front = plain_pieces b.front;
  whole = b.whole;
  is = record {
    plain = plain;
    counted = b.counted;
    texts = texts;
    spelled = chunk_by (has_dictionary pages f.column_type) (kind_in f.column_type) f.required cells b.front plain b.data_pages;
  };
}

-- ---- the first page of a chunk

by_test : (n m : ℕ) {P : Type 0} → (n < m → P) → (m ≤ n → P) → P
by_test n m {P} below above = by (nat_lt n m) refl
  where
    by : (b : Bool) → nat_lt n m ≡ b → P
    by true e = below (grind (arith, e))
    by false e = above (grind (arith, e))

-- the page in front of so many cells, and the others
pub record HasFirst (kind : CellKind) (required : Bool) (left size : ℕ) (bytes : List ℕ) (cells : List Cell) (rest : List ℕ) : Type 0 where
  pub front : List Cell
  pub behind : List Cell
  pub middle : List ℕ
  pub split : cells ≡ front ++ behind
  pub page : BeginsPage kind required size bytes front middle
  pub others : BeginsCells kind required (left - size) middle behind rest

first_of : (kind : CellKind) (required : Bool) (left : ℕ) (bytes chunk : List ℕ) (cells : List Cell) (rest : List ℕ) (pages : List (List Cell)) → 0 < left
    → bytes ≡ chunk ++ rest → length cells ≡ left → ArePages kind required pages cells chunk → HasFirst kind required left (min left 1000) bytes cells rest
first_of kind required left bytes chunk cells rest [] some whole counted are = absurd (omega (arith, some, counted, ap length are.0))
first_of kind required left bytes chunk cells rest (front ∷ pages) some whole counted are =
    let (behind, page, tail, split, spelled, is, full, others) = are in
    let len : left ≡ length front + length behind = sym counted ∙ ap length split ∙ length-append front behind in
    let few : length front ≤ 1000 = is.few in
    let size : length front ≡ min left 1000 =
    by_test (length front) 1000
    (λ lt. let none : length behind ≡ 0 = ap length (full lt) in omega (arith, len, none, lt))
    (λ le. omega (arith, len, few, le)) in
    record {
      front = front;
      behind = behind;
      middle = tail ++ rest;
      split = split;
      page = record { front = page; whole = whole ∙ ap (λ xs. xs ++ rest) spelled ∙ append_assoc page tail rest; counted = size; page = is };
      others = record { front = tail; whole = refl; counted = omega (arith, len, size); data_pages = record { pages = pages; spelled = others } };
    }

first_page : (kind : CellKind) (required : Bool) (left : ℕ) (bytes : List ℕ) (cells : List Cell) (rest : List ℕ) → 0 < left
    → BeginsCells kind required left bytes cells rest → HasFirst kind required left (min left 1000) bytes cells rest
first_page kind required left bytes cells rest some b = first_of kind required left bytes b.front cells rest b.data_pages.pages some b.whole b.counted b.data_pages.spelled

-- ---- the loop over the pages

-- all cells are those so far and these, which the bytes that are left spell
pub record GoesOn (kind : CellKind) (required : Bool) (left : ℕ) (bytes : List ℕ) (so_far all : List Cell) (end : List ℕ) : Type 0 where
  pub more : List Cell
  pub split : all ≡ so_far ++ more
  pub begins : BeginsCells kind required left bytes more end

-- so many cells were read so far, and these bytes are left: what they spell goes on with what all of them spell
pub record ReadsPages (kind : CellKind) (required : Bool) (count : ℕ) (bytes : List ℕ) (so_far : List Cell) (rest : List ℕ) : Type 0 where
  pub within : length so_far ≤ count
  pub joined : (more : List Cell) (end : List ℕ) → BeginsCells kind required (count - length so_far) rest more end → BeginsCells kind required count bytes (so_far ++ more) end
  pub parted : (all : List Cell) (end : List ℕ) → BeginsCells kind required count bytes all end → GoesOn kind required (count - length so_far) rest so_far all end

pub pages_none : (kind : CellKind) (required : Bool) (count : ℕ) (bytes : List ℕ) → ReadsPages kind required count bytes [] bytes
pages_none kind required count bytes =
    let e : count - 0 ≡ count = omega arith in
    record {
      within = omega arith;
      joined = λ more end b. subst (λ n. BeginsCells kind required n bytes more end) e b;
      parted = λ all end b. record { more = all; split = refl; begins = subst (λ n. BeginsCells kind required n bytes all end) (sym e) b };
    }

-- the page is the one in front of the bytes
abbrev IsOne : CellKind → Bool → ℕ → List ℕ → List Cell → List ℕ → Type 0
IsOne kind required size bytes page behind =
    (cells : List Cell) (rest : List ℕ) → BeginsPage kind required size bytes cells rest → ◌≡◌ {A = Result (List Cell × List ℕ) PageFault} (Ok (page, behind)) (Ok (cells, rest))

pub ok_is : {A : Type 0} (a b : A) → ◌≡◌ {A = Result A PageFault} (Ok a) (Ok b) → a ≡ b
ok_is a b e = ap (λ r. or_else a r) e
  where
    or_else : {A : Type 0} → A → Result A PageFault → A
    or_else a (Ok x) = x
    or_else a (Err f) = a

joined_more : (kind : CellKind) (required : Bool) (left size : ℕ) (bytes : List ℕ) (page : List Cell) (behind : List ℕ) (more : List Cell) (end : List ℕ)
    → size ≡ min left 1000 → BeginsPage kind required size bytes page behind → BeginsCells kind required (left - size) behind more end → BeginsCells kind required left bytes (page ++ more) end
joined_more kind required left size bytes page behind more end is p b = record {
  front = p.front ++ b.front;
  whole = p.whole ∙ ap (λ xs. p.front ++ xs) b.whole ∙ sym (append_assoc p.front b.front end);
  counted = length-append page more ∙ (let c : length page ≡ size = p.counted in let d : length more ≡ left - size = b.counted in omega (arith, is, c, d));
  data_pages = record {
    pages = page ∷ b.data_pages.pages;
    spelled = (
      more,
      p.front,
      b.front,
      refl,
      refl,
      p.page,
      (λ few. nil_from_length more (let c : length page ≡ size = p.counted in let d : length more ≡ left - size = b.counted in let f : length page < 1000 = few in omega (arith, is, c, d, f))),
      b.data_pages.spelled,
    );
  };
}

pub pages_more : (kind : CellKind) (required : Bool) (count size : ℕ) (bytes : List ℕ) (so_far : List Cell) (rest : List ℕ) (page : List Cell) (behind : List ℕ)
    → length so_far < count → size ≡ min (count - length so_far) 1000 → ReadsPages kind required count bytes so_far rest
    → BeginsPage kind required size rest page behind → IsOne kind required size rest page behind → ReadsPages kind required count bytes (so_far ++ page) behind
pages_more kind required count size bytes so_far rest page behind some is reads p one =
    let c : length page ≡ size = p.counted in
    let len : length (so_far ++ page) ≡ length so_far + length page = length-append so_far page in
    let left : count - length so_far - size ≡ count - length (so_far ++ page) = omega (arith, len, c, is, some) in
    record {
      within = omega (arith, len, c, is, some);
      joined = λ more end b.
          subst (λ xs. BeginsCells kind required count bytes xs end) (sym (append_assoc so_far page more))
          (reads.joined (page ++ more) end (joined_more kind required (count - length so_far) size rest page behind more end is p (subst (λ n. BeginsCells kind required n behind more end) (sym left) b)));
      parted = λ all end b.
          let g = reads.parted all end b in
          let f = first_page kind required (count - length so_far) rest g.more end (omega (arith, some)) g.begins in
          let begins : BeginsPage kind required size rest f.front f.middle = subst (λ n. BeginsPage kind required n rest f.front f.middle) (sym is) f.page in
          let same : (page, behind) ≡ (f.front, f.middle) = ok_is (page, behind) (f.front, f.middle) (one f.front f.middle begins) in
          let cells : page ≡ f.front = ap (λ x. x.0) same in
          let bytes_same : behind ≡ f.middle = ap (λ x. x.1) same in
          record {
            more = f.behind;
            split = g.split ∙ ap (λ xs. so_far ++ xs) (f.split ∙ ap (λ xs. xs ++ f.behind) (sym cells)) ∙ sym (append_assoc so_far page f.behind);
            begins = subst (λ xs. BeginsCells kind required (count - length (so_far ++ page)) xs f.behind end) (sym bytes_same)
                (subst (λ n. BeginsCells kind required n f.middle f.behind end) (ap (λ n. count - length so_far - n) (sym is) ∙ left) f.others);
          };
    }

no_page : (fault : PageFault) (x y : List Cell × List ℕ) → SeenGives {X = Read} {Y = List Cell × List ℕ} seen (Err fault) (Ok x) → SeenGives {X = Read} {Y = List Cell × List ℕ} seen (Err fault) (Ok y)
no_page NoMemory x y e = tt
no_page BadPage x y e = absurd (search (rules, e))

-- where no page is in front of the bytes that are left, there is no chunk
pub pages_refused : (kind : CellKind) (required : Bool) (count size : ℕ) (bytes : List ℕ) (so_far : List Cell) (rest : List ℕ) (fault : PageFault)
    → length so_far < count → size ≡ min (count - length so_far) 1000 → ReadsPages kind required count bytes so_far rest
    → ((cells : List Cell) (behind : List ℕ) → BeginsPage kind required size rest cells behind → SeenGives {X = Read} {Y = List Cell × List ℕ} seen (Err fault) (Ok (cells, behind)))
    → (all : List Cell) (end : List ℕ) → BeginsCells kind required count bytes all end → SeenGives {X = Read} {Y = List Cell × List ℕ} seen (Err fault) (Ok (all, end))
pages_refused kind required count size bytes so_far rest fault some is reads none all end b =
    let g = reads.parted all end b in
    let f = first_page kind required (count - length so_far) rest g.more end (omega (arith, some)) g.begins in
    no_page fault (f.front, f.middle) (all, end) (none f.front f.middle (subst (λ n. BeginsPage kind required n rest f.front f.middle) (sym is) f.page))

pub pages_all : (kind : CellKind) (required : Bool) (count : ℕ) (bytes : List ℕ) (so_far : List Cell) (rest : List ℕ) → count ≤ length so_far → ReadsPages kind required count bytes so_far rest
    → BeginsCells kind required count bytes so_far rest
pages_all kind required count bytes so_far rest done reads =
    let e : 0 ≡ count - length so_far = omega (arith, done) in
    subst (λ xs. BeginsCells kind required count bytes xs rest) (append-nil so_far)
    (reads.joined [] rest (record { front = []; whole = refl; counted = e; data_pages = record { pages = []; spelled = (refl, refl) } }))

no_more : (kind : CellKind) (required : Bool) (pages : List (List Cell)) (cells : List Cell) (chunk : List ℕ) → length cells ≡ 0 → ArePages kind required pages cells chunk → chunk ≡ []
no_more kind required [] cells chunk none are = are.1
no_more kind required (front ∷ pages) cells chunk none are =
    let (behind, page, tail, split, spelled, is, full, others) = are in
    let len : length cells ≡ length front + length behind = ap length split ∙ length-append front behind in
    let some : 0 < length front = is.some in
    absurd (omega (arith, len, none, some))

pub pages_one : (kind : CellKind) (required : Bool) (count : ℕ) (bytes : List ℕ) (so_far : List Cell) (rest : List ℕ) → count ≤ length so_far → ReadsPages kind required count bytes so_far rest
    → (all : List Cell) (end : List ℕ) → BeginsCells kind required count bytes all end → ◌≡◌ {A = Result (List Cell × List ℕ) PageFault} (Ok (so_far, rest)) (Ok (all, end))
pages_one kind required count bytes so_far rest done reads all end b =
    let g = reads.parted all end b in
    let counted : length g.more ≡ count - length so_far = g.begins.counted in
    let none : length g.more ≡ 0 = omega (arith, counted, done) in
    let nothing : g.begins.front ≡ [] = no_more kind required g.begins.data_pages.pages g.more g.begins.front none g.begins.data_pages.spelled in
    let cells : so_far ≡ all = sym (append-nil so_far) ∙ ap (λ xs. so_far ++ xs) (sym (nil_from_length g.more none)) ∙ sym g.split in
    let left : rest ≡ end = g.begins.whole ∙ ap (λ xs. xs ++ end) nothing in
    λ j. Ok (cells j, left j)
