-- How many bytes lists of values have, and what adding them one by one gives.
use Rattle.std.proofs.Common.{◌≡◌, ℕ, zero, suc, ◌+◌, ◌^◌, ◌<◌, ◌≤◌, List, [], ◌∷◌, ◌++◌, length, take, drop, map, get_or, All, refl, sym, ap, subst, ◌∙◌, append_assoc, arith}
use Rattle.std.specs.Prelude.{flat_map, sum_by}
use Rattle.std.proofs.lemmas.List.{append-nil, length-append, length-map, length-drop, length-take-le, take_more, take_all, take-map, drop_at}
use Rattle.std.proofs.lemmas.List.Elements.{All-nil, All-more}
use Rattle.std.proofs.lemmas.List.Concat.{flat_map-cons, flat_map-append, length-flat_map}
use Rattle.std.proofs.lemmas.List.Sums.{sum_by-cons, sum_by_more, get_or-le-sum_by}
use Rattle.fd_kinds.specs.declared.pair.Pair.{Pair}
use Rattle.fd_kinds.specs.declared.row.Row.{Row}
use Rattle.fd_kinds.specs.RowSize.{text_size, pair_size, row_size}
use Rattle.fd_kinds.specs.RowSpelling.{row_spelling}
use Rattle.fd_kinds.specs.declared.limits.TheConstants.{MOST_BATCH_BYTES}
use Rattle.fd_wal.specs.declared.limits.TheConstants.{MOST_PAYLOAD_BYTES}
use Rattle.fd_wal.specs.Runs.{transactions_head, spelled_payload, IsLongestRun}

-- each item counts at least 1
pub few_items : {X : Type 0} (f : X → ℕ) → ((x : X) → 1 ≤ f x) → (xs : List X) → length xs ≤ sum_by f xs
few_items f one [] = omega arith
few_items f one (x ∷ xs) =
    let split = sum_by-cons f x xs in
    let more = few_items f one xs in
    let this = one x in
    omega (arith, split, more, this)

pub few_pairs : (pairs : List Pair) → length pairs ≤ sum_by pair_size pairs
few_pairs pairs = few_items pair_size (λ p. omega arith) pairs

pub few_frames : (frames : List (List ℕ)) → length frames ≤ sum_by text_size frames
few_frames frames = few_items text_size (λ t. omega arith) frames

pub few_rows : (rows : List Row) → length rows ≤ sum_by row_size rows
few_rows rows = few_items row_size (λ r. omega arith) rows

-- an item that was read in a loop counts no more than all
pub one_of : {X : Type 0} (f : X → ℕ) (xs : List X) (i : ℕ) (x : X) → i < length xs → x ≡ get_or xs i x → f x ≤ sum_by f xs
one_of f xs i x lt is =
    let le = get_or-le-sum_by f xs i x lt in
    let same = ap f is in
    omega (arith, le, same)

-- what was added, and one more
pub added_more : {X : Type 0} (spell : X → List ℕ) (start out new : List ℕ) (xs : List X) (i : ℕ) (x : X) → i < length xs → x ≡ get_or xs i x
    → out ≡ start ++ flat_map spell (take i xs) → new ≡ out ++ spell x → new ≡ start ++ flat_map spell (take (i + 1) xs)
added_more spell start out new xs i x lt is so_far e =
    let one : flat_map spell (x ∷ []) ≡ spell x = append-nil (spell x) in
    let step : flat_map spell (take (i + 1) xs) ≡ flat_map spell (take i xs) ++ spell x =
    ap (flat_map spell) (take_more xs i x lt)
    ∙ flat_map-append spell (take i xs) (get_or xs i x ∷ [])
    ∙ ap (λ y. flat_map spell (take i xs) ++ flat_map spell (y ∷ [])) (sym is)
    ∙ ap (λ t. flat_map spell (take i xs) ++ t) one in
    e ∙ ap (λ t. t ++ spell x) so_far ∙ append_assoc start (flat_map spell (take i xs)) (spell x) ∙ ap (λ t. start ++ t) (sym step)

-- pieces that are added one after the other
pub joined_two : (out a b x y : List ℕ) → x ≡ out ++ a → y ≡ x ++ b → y ≡ out ++ (a ++ b)
joined_two out a b x y p q = q ∙ ap (λ t. t ++ b) p ∙ append_assoc out a b

pub joined_three : (out a b c x y z : List ℕ) → x ≡ out ++ a → y ≡ x ++ b → z ≡ y ++ c → z ≡ out ++ (a ++ (b ++ c))
joined_three out a b c x y z p q r = joined_two out a (b ++ c) x z p (joined_two x b c y z q r)

-- ---- payloads

pub pieces_of : {X : Type 0} (spell : X → List ℕ) (xs : List X) → flat_map (λ piece. piece) (map spell xs) ≡ flat_map spell xs
pieces_of spell [] = refl
pieces_of spell (x ∷ xs) = flat_map-cons (λ piece. piece) (spell x) (map spell xs) ∙ ap (λ t. spell x ++ t) (pieces_of spell xs) ∙ sym (flat_map-cons spell x xs)

pub payload_length : (first : ℕ) (pieces : List (List ℕ)) → length (spelled_payload first pieces) ≡ 14 + sum_by length pieces
payload_length first pieces = length-append (transactions_head first (length pieces)) (flat_map (λ piece. piece) pieces) ∙ ap (λ n. 14 + n) (length-flat_map (λ piece. piece) pieces)

-- ---- a loop that adds values

-- the first values were added, and this is known of each
pub record Adds {X : Type 0} (spell : X → List ℕ) (P : X → Type 0) (start out : List ℕ) (xs : List X) (i : ℕ) : Type 0 where
  pub added : out ≡ start ++ flat_map spell (take i xs)
  pub right : All P (take i xs)

pub adds_none : {X : Type 0} (spell : X → List ℕ) (P : X → Type 0) (start out : List ℕ) (xs : List X) → out ≡ start → Adds spell P start out xs 0
adds_none spell P start out xs e = record { added = e ∙ sym (append-nil start); right = All-nil P }

pub adds_more : {X : Type 0} (spell : X → List ℕ) (P : X → Type 0) (start out new : List ℕ) (xs : List X) (i : ℕ) (x : X) → i < length xs → x ≡ get_or xs i x
    → Adds spell P start out xs i → new ≡ out ++ spell x → P x → Adds spell P start new xs (i + 1)
adds_more spell P start out new xs i x lt is so_far e this = record {
  added = added_more spell start out new xs i x lt is so_far.added e;
  right = All-more P xs i x lt so_far.right (subst P is this);
}

pub adds_all : {X : Type 0} (spell : X → List ℕ) (P : X → Type 0) (start out : List ℕ) (xs : List X) (i : ℕ) → length xs ≤ i → Adds spell P start out xs i → (out ≡ start ++ flat_map spell xs) × All P xs
adds_all spell P start out xs i le so_far =
    let all = take_all i xs le in
    (so_far.added ∙ ap (λ ys. start ++ flat_map spell ys) all, subst (All P) all so_far.right)

-- twelve pieces, added five and seven at a time
pub joined_row : (out a b c d e f g h i j k l t m : List ℕ) → t ≡ ((((out ++ a) ++ b) ++ c) ++ d) ++ e → m ≡ ((((((t ++ f) ++ g) ++ h) ++ i) ++ j) ++ k) ++ l
    → m ≡ out ++ (a ++ (b ++ (c ++ (d ++ (e ++ (f ++ (g ++ (h ++ (i ++ (j ++ (k ++ l)))))))))))
joined_row out a b c d e f g h i j k l t m p q = q ∙ ap (λ x. ((((((x ++ f) ++ g) ++ h) ++ i) ++ j) ++ k) ++ l) p ∙ (simp append_assoc refl)

pub added_seven : (t f g h i j k l s r q p o n m : List ℕ) → s ≡ t ++ f → r ≡ s ++ g → q ≡ r ++ h → p ≡ q ++ i → o ≡ p ++ j → n ≡ o ++ k → m ≡ n ++ l
    → m ≡ ((((((t ++ f) ++ g) ++ h) ++ i) ++ j) ++ k) ++ l
added_seven t f g h i j k l s r q p o n m e1 e2 e3 e4 e5 e6 e7 =
    e7 ∙ ap (λ x. x ++ l) (e6 ∙ ap (λ x. x ++ k) (e5 ∙ ap (λ x. x ++ j) (e4 ∙ ap (λ x. x ++ i) (e3 ∙ ap (λ x. x ++ h) (e2 ∙ ap (λ x. x ++ g) e1)))))

-- ---- runs

pub run_length : {X : Type 0} (f : X → List ℕ) (xs : List X) (k first : ℕ) → length (spelled_payload first (take k (map f xs))) ≡ 14 + sum_by (λ x. length (f x)) (take k xs)
run_length f xs k first =
    ap (λ ys. length (spelled_payload first ys)) (take-map f k xs)
    ∙ length-append (transactions_head first (length (map f (take k xs)))) (flat_map (λ piece. piece) (map f (take k xs)))
    ∙ ap (λ ys. 14 + length ys) (pieces_of f (take k xs))
    ∙ ap (λ n. 14 + n) (length-flat_map f (take k xs))

pub run_size : {X : Type 0} (f : X → List ℕ) (xs : List X) (k size : ℕ) → size ≡ 14 + sum_by (λ x. length (f x)) (take k xs) → size ≡ length (spelled_payload 0 (take k (map f xs)))
run_size f xs k size e = e ∙ sym (run_length f xs k 0)

-- one batch always fits
some_run : {X : Type 0} (f : X → ℕ) (xs : List X) (k size more : ℕ) → size ≡ 14 + sum_by f (take k xs) → more ≤ MOST_BATCH_BYTES + 4 → MOST_PAYLOAD_BYTES < size + more → 0 < k
some_run f xs zero size more e le lt = absurd (omega (arith, e, le, lt))
some_run f xs (suc k) size more e le lt = omega arith

pub longest_stops : {X : Type 0} (f : X → List ℕ) (xs : List X) (k size more : ℕ) (x : X) → k < length xs → x ≡ get_or xs k x → more ≡ length (f x) → more ≤ MOST_BATCH_BYTES + 4
    → size ≡ 14 + sum_by (λ x. length (f x)) (take k xs) → size ≤ MOST_PAYLOAD_BYTES → MOST_PAYLOAD_BYTES < size + more → IsLongestRun (map f xs) k
longest_stops f xs k size more x lt is value small sized fits large =
    let step = sum_by_more (λ x. length (f x)) xs k x lt in
    let this : length (f (get_or xs k x)) ≡ more = ap (λ y. length (f y)) (sym is) ∙ sym value in
    let now = run_length f xs k 0 in
    let next = run_length f xs (k + 1) 0 in
    let count = length-map xs f in
    record {
      some = some_run (λ x. length (f x)) xs k size more sized small large;
      within = omega (arith, count, lt);
      fits = omega (arith, now, sized, fits);
      longest = λ _. omega (arith, next, step, this, sized, large);
    }

pub longest_all : {X : Type 0} (f : X → List ℕ) (xs : List X) (k size : ℕ) → length xs ≤ k → k ≤ length xs → 0 < length xs
    → size ≡ 14 + sum_by (λ x. length (f x)) (take k xs) → size ≤ MOST_PAYLOAD_BYTES → IsLongestRun (map f xs) k
longest_all f xs k size le ge some sized fits =
    let now = run_length f xs k 0 in
    let count = length-map xs f in
    record {
      some = omega (arith, some, le);
      within = omega (arith, count, ge);
      fits = omega (arith, now, sized, fits);
      longest = λ lt. absurd (omega (arith, count, lt, le));
    }

-- what stands behind an empty head
pub behind_head : (head a b x y : List ℕ) → length head ≡ 36 → x ≡ head ++ a → y ≡ x ++ b → drop 36 y ≡ a ++ b
behind_head head a b x y len p q = ap (drop 36) (joined_two head a b x y p q) ∙ drop_at head (a ++ b) 36 len

pub written_payload : {X : Type 0} (f : X → List ℕ) (xs : List X) (count first : ℕ) (head x y : List ℕ) → count ≤ length xs → length head ≡ 36
    → x ≡ head ++ transactions_head first count → y ≡ x ++ flat_map f (take count xs) → drop 36 y ≡ spelled_payload first (take count (map f xs))
written_payload f xs count first head x y le len p q =
    let counted : length (take count (map f xs)) ≡ count = length-take-le count (map f xs) (omega (arith, length-map xs f, le)) in
    let pieces : flat_map (λ piece. piece) (take count (map f xs)) ≡ flat_map f (take count xs) = ap (flat_map (λ piece. piece)) (take-map f count xs) ∙ pieces_of f (take count xs) in
    behind_head head (transactions_head first count) (flat_map f (take count xs)) x y len p q
    ∙ ap (λ n. transactions_head first n ++ flat_map f (take count xs)) (sym counted)
    ∙ ap (λ t. transactions_head first (length (take count (map f xs))) ++ t) (sym pieces)

-- the bytes of rows, where each has as many as its size counts
pub rows_length : ((r : Row) → length (row_spelling r) ≡ row_size r) → (rows : List Row) → length (flat_map row_spelling rows) ≡ sum_by row_size rows
rows_length law [] = refl
rows_length law (r ∷ rows) =
    ap length (flat_map-cons row_spelling r rows) ∙ length-append (row_spelling r) (flat_map row_spelling rows)
    ∙ ap (λ n. n + length (flat_map row_spelling rows)) (law r) ∙ ap (λ n. row_size r + n) (rows_length law rows) ∙ sym (sum_by-cons row_size r rows)

-- the bytes of a frame, whose payload is no longer than one that is written
pub short_frame : {X : Type 0} (f : X → List ℕ) (xs : List X) (count first : ℕ) (y : List ℕ) → drop 36 y ≡ spelled_payload first (take count (map f xs)) → IsLongestRun (map f xs) count → length y < 36 + 2 ^ 32
short_frame f xs count first y written run =
    let dropped = length-drop 36 y in
    let same = ap length written in
    let now = run_length f xs count first in
    let zero = run_length f xs count 0 in
    let fits = run.fits in
    omega (arith, dropped, same, now, zero, fits)

pub run_within : {X : Type 0} (f : X → List ℕ) (xs : List X) (count : ℕ) → IsLongestRun (map f xs) count → count ≤ length xs
run_within f xs count run = let within = run.within in omega (arith, within, length-map xs f)
