-- Columns whose chunks are read one after the other.
use Rattle.std.proofs.Common.{◌≡◌, ℕ, zero, suc, ◌+◌, ◌-◌, ◌<◌, ◌≤◌, List, [], ◌∷◌, ◌++◌, length, drop, get_or, refl, sym, ap, ◌∙◌, subst, append_assoc, arith, rules, length-append, Ok, Err, Result}
use Rattle.std.proofs.lemmas.List.{append-nil, drop_more, drop_all}
use Rattle.fd_pages.specs.declared.cell.Cell.{Cell}
use Rattle.fd_pages.specs.declared.fault.PageFault.{PageFault}
use Rattle.fd_pages.specs.declared.fault.PageFault.TheVariants as page
use Rattle.fd_pages.specs.Pages.{SeenGives}
use Rattle.fd_footer.specs.declared.footer.Pages.{Pages}
use Rattle.fd_footer.specs.declared.footer.Chunk.{Chunk}
use Rattle.fd_footer.specs.declared.footer.Column.{Column}
use Rattle.fd_parquet.specs.declared.fault.FileFault.{FileFault}
use Rattle.fd_parquet.specs.declared.fault.FileFault.TheVariants.{Page, NoMemory}
use Rattle.fd_table_file.specs.Files.{chunk_at, plain_chunk_at, places_from, chunk_bytes}
use Rattle.fd_table_file.specs.Chunks.{Pieces, piece_bytes}
use Rattle.std.specs.Borrow.{Bor}
use Rattle.fd_parquet.specs.declared.columns.ColumnCells.{ColumnCells as AnyColumns}
use Rattle.fd_parquet.proofs.PageReads.{Read, seen, no_dictionary}
use Rattle.fd_parquet.specs.Refusals.{BeginsChunk, AreColumns, BeginsColumns, FailsAt, IsRefused, Finds}
use Rattle.fd_parquet.specs.Stages.{IsFailure}

-- all cells and places are those so far and these, which the bytes that are left spell
pub record GoesOn (pages : Pages) (count place : ℕ) (columns : List Column) (rest : List ℕ) (cells : List (List Cell)) (places : List Chunk) (all : List (List Cell)) (all_places : List Chunk) (end : List ℕ) : Type 0 where
  pub more : List (List Cell)
  pub more_places : List Chunk
  pub split : all ≡ cells ++ more
  pub split_places : all_places ≡ places ++ more_places
  pub begins : BeginsColumns pages count place columns rest more more_places end

-- where the rest stands in the file
abbrev place_of : List ℕ → List ℕ → ℕ
place_of bytes rest = 4 + (length bytes - length rest)

-- so many columns were read so far, and these bytes are left: what they spell goes on with what all of them spell
pub record ReadsColumns (pages : Pages) (count : ℕ) (columns : List Column) (bytes : List ℕ) (at : ℕ) (cells : List (List Cell)) (places : List Chunk) (rest : List ℕ) : Type 0 where
  pub within : length rest ≤ length bytes
  pub joined : (more : List (List Cell)) (more_places : List Chunk) (end : List ℕ) → BeginsColumns pages count (4 + (length bytes - length rest)) (drop at columns) rest more more_places end
      → BeginsColumns pages count 4 columns bytes (cells ++ more) (places ++ more_places) end
  pub parted : (all : List (List Cell)) (all_places : List Chunk) (end : List ℕ) → BeginsColumns pages count 4 columns bytes all all_places end
      → GoesOn pages count (4 + (length bytes - length rest)) (drop at columns) rest cells places all all_places end
  pub fails : (k : ℕ) → FailsAt pages (drop at columns) count rest k → FailsAt pages columns count bytes (at + k)
  pub fails_from : (k : ℕ) → FailsAt pages columns count bytes k → (j : ℕ) × (k ≡ at + j) × FailsAt pages (drop at columns) count rest j

pub columns_none : (pages : Pages) (count : ℕ) (columns : List Column) (bytes : List ℕ) → ReadsColumns pages count columns bytes 0 [] [] bytes
columns_none pages count columns bytes =
    let e : 4 + (length bytes - length bytes) ≡ 4 = omega arith in
    record {
      within = omega arith;
      joined = λ more places end b. subst (λ n. BeginsColumns pages count n columns bytes more places end) e b;
      parted = λ all places end b. record { more = all; more_places = places; split = refl; split_places = refl; begins = subst (λ n. BeginsColumns pages count n columns bytes all places end) (sym e) b };
      fails = λ k f. subst (λ n. FailsAt pages columns count bytes n) (let e : k ≡ 0 + k = omega arith in e) f;
      fails_from = λ k f. (k, omega arith, f);
    }

-- the chunk is the one in front of the bytes
abbrev IsOne : Pages → Column → ℕ → List ℕ → List Cell → List ℕ → Type 0
IsOne pages f count bytes read behind =
    (cells : List Cell) (rest : List ℕ) → BeginsChunk pages f count bytes cells rest → ◌≡◌ {A = Result (List Cell × List ℕ) PageFault} (Ok (read, behind)) (Ok (cells, rest))

ok_is : {A : Type 0} (a b : A) → ◌≡◌ {A = Result A PageFault} (Ok a) (Ok b) → a ≡ b
ok_is a b e = ap (λ r. or_else a r) e
  where
    or_else : {A : Type 0} → A → Result A PageFault → A
    or_else a (Ok x) = x
    or_else a (Err f) = a

bad_none : {A : Type 0} (x : A) → ◌≡◌ {A = Result A PageFault} (Err page.BadPage) (Ok x) → ⊥
bad_none x e = search (rules, e)

-- what is known of the place of a chunk without a dictionary
abbrev pub ArePlain : Type 0
ArePlain = (at : ℕ) (chunk : Pieces) → chunk.dictionary ≡ [] → chunk_at at chunk ≡ plain_chunk_at at (length (piece_bytes chunk))

place_is : ArePlain → (pages : Pages) (f : Column) (count : ℕ) (bytes : List ℕ) (cells : List Cell) (rest : List ℕ) (place size : ℕ) → (c : BeginsChunk pages f count bytes cells rest)
    → size ≡ length (piece_bytes c.front) → plain_chunk_at place size ≡ chunk_at place c.front
place_is plain pages f count bytes cells rest place size c is =
    ap (λ m. plain_chunk_at place m) is ∙ sym (plain place c.front (no_dictionary pages f count cells c.front c.is))

joined_more : ArePlain → (pages : Pages) (count place next size : ℕ) (f : Column) (fs : List Column) (bytes : List ℕ) (read : List Cell) (behind : List ℕ) (more : List (List Cell)) (places : List Chunk) (end : List ℕ)
    → length bytes ≡ size + length behind → next ≡ place + size
    → BeginsChunk pages f count bytes read behind → BeginsColumns pages count next fs behind more places end
    → BeginsColumns pages count place (f ∷ fs) bytes (read ∷ more) (plain_chunk_at place size ∷ places) end
joined_more plain pages count place next size f fs bytes read behind more places end len is c b =
    let n : length bytes ≡ length (piece_bytes c.front) + length behind = ap length c.whole ∙ length-append (piece_bytes c.front) behind in
    let s : size ≡ length (piece_bytes c.front) = omega (arith, n, len) in
    record {
      chunks = c.front ∷ b.chunks;
      whole = c.whole ∙ ap (λ xs. piece_bytes c.front ++ xs) b.whole ∙ sym (append_assoc (piece_bytes c.front) (chunk_bytes b.chunks) end);
      are = (c.is, b.are);
      placed = ap (λ k. k ∷ places) (place_is plain pages f count bytes read behind place size c s)
          ∙ ap (λ ks. chunk_at place c.front ∷ ks) (b.placed ∙ ap (λ m. places_from m b.chunks) (is ∙ ap (λ m. place + m) s));
    }

-- the first column of some, and the others
record HasFirst (pages : Pages) (count place : ℕ) (f : Column) (fs : List Column) (bytes : List ℕ) (cells : List (List Cell)) (places : List Chunk) (end : List ℕ) : Type 0 where
  first : List Cell
  others : List (List Cell)
  other_places : List Chunk
  middle : List ℕ
  begun : BeginsChunk pages f count bytes first middle
  split : cells ≡ first ∷ others
  split_places : places ≡ chunk_at place begun.front ∷ other_places
  goes : BeginsColumns pages count (place + length (piece_bytes begun.front)) fs middle others other_places end

first_of : (pages : Pages) (count place : ℕ) (f : Column) (fs : List Column) (bytes : List ℕ) (cells : List (List Cell)) (places : List Chunk) (end : List ℕ) (chunks : List Pieces)
    → bytes ≡ chunk_bytes chunks ++ end → AreColumns pages count (f ∷ fs) cells chunks → places ≡ places_from place chunks → HasFirst pages count place f fs bytes cells places end
first_of pages count place f fs bytes [] places end [] whole are placed = absurd are
first_of pages count place f fs bytes [] places end (x ∷ xs) whole are placed = absurd are
first_of pages count place f fs bytes (c ∷ cs) places end [] whole are placed = absurd are
first_of pages count place f fs bytes (c ∷ cs) places end (x ∷ xs) whole are placed = record {
  first = c;
  others = cs;
  other_places = places_from (place + length (piece_bytes x)) xs;
  middle = chunk_bytes xs ++ end;
  begun = record { front = x; whole = whole ∙ append_assoc (piece_bytes x) (chunk_bytes xs) end; is = are.0 };
  split = refl;
  split_places = placed;
  goes = record { chunks = xs; whole = refl; are = are.1; placed = refl };
}

first_column : (pages : Pages) (count place : ℕ) (f : Column) (fs : List Column) (bytes : List ℕ) (cells : List (List Cell)) (places : List Chunk) (end : List ℕ)
    → BeginsColumns pages count place (f ∷ fs) bytes cells places end → HasFirst pages count place f fs bytes cells places end
first_column pages count place f fs bytes cells places end b = first_of pages count place f fs bytes cells places end b.chunks b.whole b.are b.placed

fails_more : (pages : Pages) (f : Column) (fs : List Column) (count : ℕ) (bytes : List ℕ) (read : List Cell) (behind : List ℕ) (j : ℕ) → BeginsChunk pages f count bytes read behind → IsOne pages f count bytes read behind
    → FailsAt pages (f ∷ fs) count bytes j → (i : ℕ) × (j ≡ suc i) × FailsAt pages fs count behind i
fails_more pages f fs count bytes read behind zero c one fails = absurd (fails read behind c)
fails_more pages f fs count bytes read behind (suc i) c one (cells, rest, begins, fails) =
    let same : behind ≡ rest = ap (λ x. x.1) (ok_is (read, behind) (cells, rest) (one cells rest begins)) in
    (i, refl, subst (λ xs. FailsAt pages fs count xs i) (sym same) fails)

-- the columns from a place on, by the column there
module _ (pages : Pages) (count : ℕ) (columns : List Column) (bytes : List ℕ) (at : ℕ) (cells : List (List Cell)) (places : List Chunk) (rest : List ℕ) (f : Column)
    (lt : at < length columns) (is : f ≡ get_or columns at f) (reads : ReadsColumns pages count columns bytes at cells places rest) where
  here : drop at columns ≡ f ∷ drop (at + 1) columns
  here = drop_more columns at f lt ∙ ap (λ c. c ∷ drop (at + 1) columns) (sym is)

  columns_with : ArePlain → (read : List Cell) (behind : List ℕ) (size : ℕ) → length behind + size ≡ length rest → BeginsChunk pages f count rest read behind → IsOne pages f count rest read behind
      → ReadsColumns pages count columns bytes (at + 1) (cells ++ read ∷ []) (places ++ plain_chunk_at (4 + (length bytes - length rest)) size ∷ []) behind
  columns_with plain read behind size len c one =
      let within : length rest ≤ length bytes = reads.within in
      let next : 4 + (length bytes - length behind) ≡ 4 + (length bytes - length rest) + size = omega (arith, len, within) in
      let place : ℕ = 4 + (length bytes - length rest) in
      record {
        within = omega (arith, len, within);
        joined = λ more more_places end b.
            let all = joined_more plain pages count place (4 + (length bytes - length behind)) size f (drop (at + 1) columns) rest read behind more more_places end (omega (arith, len)) next c b in
            let joined = reads.joined (read ∷ more) (plain_chunk_at place size ∷ more_places) end (subst (λ cs. BeginsColumns pages count place cs rest (read ∷ more) (plain_chunk_at place size ∷ more_places) end) (sym here) all) in
            subst (λ xs. BeginsColumns pages count 4 columns bytes xs ((places ++ plain_chunk_at place size ∷ []) ++ more_places) end) (sym (append_assoc cells (read ∷ []) more))
            (subst (λ ks. BeginsColumns pages count 4 columns bytes (cells ++ read ∷ more) ks end) (sym (append_assoc places (plain_chunk_at place size ∷ []) more_places)) joined);
        parted = λ all all_places end b.
            let g = reads.parted all all_places end b in
            let first = first_column pages count place f (drop (at + 1) columns) rest g.more g.more_places end (subst (λ cs. BeginsColumns pages count place cs rest g.more g.more_places end) here g.begins) in
            let same = ok_is (read, behind) (first.first, first.middle) (one first.first first.middle first.begun) in
            let cell : read ≡ first.first = ap (λ x. x.0) same in
            let left : behind ≡ first.middle = ap (λ x. x.1) same in
            let n : length rest ≡ length (piece_bytes first.begun.front) + length first.middle = ap length first.begun.whole ∙ length-append (piece_bytes first.begun.front) first.middle in
            let s : size ≡ length (piece_bytes first.begun.front) = omega (arith, n, len, ap length left) in
            record {
              more = first.others;
              more_places = first.other_places;
              split = g.split ∙ ap (λ xs. cells ++ xs) (first.split ∙ ap (λ x. x ∷ first.others) (sym cell)) ∙ sym (append_assoc cells (read ∷ []) first.others);
              split_places = g.split_places ∙ ap (λ xs. places ++ xs) (first.split_places ∙ ap (λ k. k ∷ first.other_places) (sym (place_is plain pages f count rest first.first first.middle place size first.begun s))) ∙ sym (append_assoc places (plain_chunk_at place size ∷ []) first.other_places);
              begins = subst (λ xs. BeginsColumns pages count (4 + (length bytes - length behind)) (drop (at + 1) columns) xs first.others first.other_places end) (sym left)
                  (subst (λ m. BeginsColumns pages count m (drop (at + 1) columns) first.middle first.others first.other_places end) (ap (λ m. place + m) (sym s) ∙ sym next) first.goes);
            };
        fails = λ k fails.
            let e : at + suc k ≡ at + 1 + k = omega arith in
            subst (λ n. FailsAt pages columns count bytes n) e (reads.fails (suc k) (subst (λ cs. FailsAt pages cs count rest (suc k)) (sym here) (read, behind, c, fails)));
        fails_from = λ k fails.
            let (j, e, f_j) = reads.fails_from k fails in
            let (i, d, f_i) = fails_more pages f (drop (at + 1) columns) count rest read behind j c one (subst (λ cs. FailsAt pages cs count rest j) here f_j) in
            (i, omega (arith, e, d), f_i);
      }

  pub columns_more : ArePlain → (read : List Cell) (behind : List ℕ) (k : Chunk) → k ≡ plain_chunk_at (4 + (length bytes - length rest)) (length rest - length behind)
      → BeginsChunk pages f count rest read behind → IsOne pages f count rest read behind
      → ReadsColumns pages count columns bytes (at + 1) (cells ++ read ∷ []) (places ++ k ∷ []) behind
  columns_more plain read behind k is_k c one =
      let n : length rest ≡ length (piece_bytes c.front) + length behind = ap length c.whole ∙ length-append (piece_bytes c.front) behind in
      subst (λ x. ReadsColumns pages count columns bytes (at + 1) (cells ++ read ∷ []) (places ++ x ∷ []) behind) (sym is_k)
      (columns_with plain read behind (length rest - length behind) (omega (arith, n)) c one)

  -- the column there has no chunk
  none_there : ((read : List Cell) (behind : List ℕ) → BeginsChunk pages f count rest read behind → ⊥) → (all : List (List Cell)) (all_places : List Chunk) (end : List ℕ)
      → BeginsColumns pages count 4 columns bytes all all_places end → ⊥
  none_there none all all_places end b =
      let g = reads.parted all all_places end b in
      let first = first_column pages count (4 + (length bytes - length rest)) f (drop (at + 1) columns) rest g.more g.more_places end
      (subst (λ cs. BeginsColumns pages count (4 + (length bytes - length rest)) cs rest g.more g.more_places end) here g.begins) in
      none first.first first.middle first.begun

  fails_here : ((read : List Cell) (behind : List ℕ) → BeginsChunk pages f count rest read behind → ⊥) → FailsAt pages columns count bytes at
  fails_here none =
      let e : at + 0 ≡ at = omega arith in
      subst (λ n. FailsAt pages columns count bytes n) e (reads.fails 0 (subst (λ cs. FailsAt pages cs count rest 0) (sym here) none))

  only_here : ((read : List Cell) (behind : List ℕ) → BeginsChunk pages f count rest read behind → ⊥) → (k : ℕ) → FailsAt pages columns count bytes k → k ≡ at
  only_here none k fails =
      let (j, e, f_j) = reads.fails_from k fails in
      by j e (subst (λ cs. FailsAt pages cs count rest j) here f_j)
    where
      by : (j : ℕ) → k ≡ at + j → FailsAt pages (f ∷ drop (at + 1) columns) count rest j → k ≡ at
      by zero e h = omega (arith, e)
      by (suc j) e (read, behind, begins, h) = absurd (none read behind begins)

  -- what is answered where the column there is refused
  pub refused_gives : (fault : PageFault) (told : FileFault) → (fault ≡ page.BadPage → told ≡ Page at) → (fault ≡ page.NoMemory → told ≡ NoMemory)
      → ((read : List Cell) (behind : List ℕ) → BeginsChunk pages f count rest read behind → SeenGives {X = Read} {Y = List Cell × List ℕ} seen (Err fault) (Ok (read, behind)))
      → (all : List (List Cell)) (all_places : List Chunk) (end : List ℕ) → BeginsColumns pages count 4 columns bytes all all_places end
      → Finds {X = AnyColumns × Bor (List ℕ)} {Y = (List (List Cell) × List Chunk) × List ℕ} (λ r. ((r.0.cells, r.0.places), r.1.now)) (Err told) ((all, all_places), end)
  refused_gives page.NoMemory told bad memory none all all_places end b =
      subst (λ t. Finds {X = AnyColumns × Bor (List ℕ)} {Y = (List (List Cell) × List Chunk) × List ℕ} (λ r. ((r.0.cells, r.0.places), r.1.now)) (Err t) ((all, all_places), end)) (sym (memory refl)) tt
  refused_gives page.BadPage told bad memory none all all_places end b = absurd (none_there (λ read behind begins. bad_none (read, behind) (none read behind begins)) all all_places end b)

  pub refused_fails : (fault : PageFault) (told : FileFault) → (fault ≡ page.BadPage → told ≡ Page at) → (fault ≡ page.NoMemory → told ≡ NoMemory)
      → ((read : List Cell) (behind : List ℕ) → BeginsChunk pages f count rest read behind → SeenGives {X = Read} {Y = List Cell × List ℕ} seen (Err fault) (Ok (read, behind)))
      → IsFailure pages columns count bytes told
  refused_fails page.NoMemory told bad memory none = subst (λ t. IsFailure pages columns count bytes t) (sym (memory refl)) tt
  refused_fails page.BadPage told bad memory none =
      subst (λ t. IsFailure pages columns count bytes t) (sym (bad refl)) (fails_here (λ read behind begins. bad_none (read, behind) (none read behind begins)))

  pub refused_only : (X : Type 0) (fault : PageFault) (told : FileFault) → (fault ≡ page.BadPage → told ≡ Page at) → (fault ≡ page.NoMemory → told ≡ NoMemory)
      → ((read : List Cell) (behind : List ℕ) → BeginsChunk pages f count rest read behind → SeenGives {X = Read} {Y = List Cell × List ℕ} seen (Err fault) (Ok (read, behind)))
      → (k : ℕ) → FailsAt pages columns count bytes k → IsRefused {A = X} (Page k) (Err told)
  refused_only X page.NoMemory told bad memory none k fails = subst (λ t. IsRefused {A = X} (Page k) (Err t)) (sym (memory refl)) tt
  refused_only X page.BadPage told bad memory none k fails =
      let e : k ≡ at = only_here (λ read behind begins. bad_none (read, behind) (none read behind begins)) k fails in
      subst (λ t. IsRefused {A = X} (Page k) (Err t)) (sym (bad refl)) (ap (λ n. Err (Page n)) (sym e))

-- ---- all columns

nothing_left : (pages : Pages) (count place : ℕ) (rest : List ℕ) → BeginsColumns pages count place [] rest [] [] rest
nothing_left pages count place rest = record { chunks = []; whole = refl; are = tt; placed = refl }

pub columns_all : (pages : Pages) (count : ℕ) (columns : List Column) (bytes : List ℕ) (at : ℕ) (cells : List (List Cell)) (places : List Chunk) (rest : List ℕ) → length columns ≤ at
    → ReadsColumns pages count columns bytes at cells places rest → BeginsColumns pages count 4 columns bytes cells places rest
columns_all pages count columns bytes at cells places rest done reads =
    subst (λ xs. BeginsColumns pages count 4 columns bytes xs places rest) (append-nil cells)
    (subst (λ ks. BeginsColumns pages count 4 columns bytes (cells ++ []) ks rest) (append-nil places)
    (reads.joined [] [] rest (subst (λ cs. BeginsColumns pages count (4 + (length bytes - length rest)) cs rest [] [] rest) (sym (drop_all at columns done)) (nothing_left pages count (4 + (length bytes - length rest)) rest))))

record IsEnd (more : List (List Cell)) (more_places : List Chunk) (rest end : List ℕ) : Type 0 where
  cells : more ≡ []
  places : more_places ≡ []
  left : rest ≡ end

end_of : (pages : Pages) (count place : ℕ) (rest : List ℕ) (more : List (List Cell)) (more_places : List Chunk) (end : List ℕ) (chunks : List Pieces)
    → rest ≡ chunk_bytes chunks ++ end → AreColumns pages count [] more chunks → more_places ≡ places_from place chunks → IsEnd more more_places rest end
end_of pages count place rest [] more_places end [] whole are placed = record { cells = refl; places = placed; left = whole }
end_of pages count place rest [] more_places end (x ∷ xs) whole are placed = absurd are
end_of pages count place rest (c ∷ cs) more_places end [] whole are placed = absurd are
end_of pages count place rest (c ∷ cs) more_places end (x ∷ xs) whole are placed = absurd are

pub columns_one : (pages : Pages) (count : ℕ) (columns : List Column) (bytes : List ℕ) (at : ℕ) (cells : List (List Cell)) (places : List Chunk) (rest : List ℕ) → length columns ≤ at
    → ReadsColumns pages count columns bytes at cells places rest → (all : List (List Cell)) (all_places : List Chunk) (end : List ℕ)
    → BeginsColumns pages count 4 columns bytes all all_places end → ◌≡◌ {A = (List (List Cell) × List Chunk) × List ℕ} ((cells, places), rest) ((all, all_places), end)
columns_one pages count columns bytes at cells places rest done reads all all_places end b =
    let g = reads.parted all all_places end b in
    let b2 : BeginsColumns pages count (4 + (length bytes - length rest)) [] rest g.more g.more_places end =
    subst (λ cs. BeginsColumns pages count (4 + (length bytes - length rest)) cs rest g.more g.more_places end) (drop_all at columns done) g.begins in
    let e = end_of pages count (4 + (length bytes - length rest)) rest g.more g.more_places end b2.chunks b2.whole b2.are b2.placed in
    let c : cells ≡ all = sym (append-nil cells) ∙ ap (λ xs. cells ++ xs) (sym e.cells) ∙ sym g.split in
    let p : places ≡ all_places = sym (append-nil places) ∙ ap (λ xs. places ++ xs) (sym e.places) ∙ sym g.split_places in
    let l : rest ≡ end = e.left in
    λ i. ((c i, p i), l i)

pub columns_never_fail : (pages : Pages) (count : ℕ) (columns : List Column) (bytes : List ℕ) (at : ℕ) (cells : List (List Cell)) (places : List Chunk) (rest : List ℕ) → length columns ≤ at
    → ReadsColumns pages count columns bytes at cells places rest → (k : ℕ) → FailsAt pages columns count bytes k → ⊥
columns_never_fail pages count columns bytes at cells places rest done reads k fails =
    let (j, e, f_j) = reads.fails_from k fails in
    subst (λ cs. FailsAt pages cs count rest j) (drop_all at columns done) f_j
