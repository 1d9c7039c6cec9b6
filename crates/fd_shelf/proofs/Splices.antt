-- One item in place of some in a row.
use Rattle.std.specs.Prelude.{◌≡◌, ℕ, zero, suc, ◌+◌, ◌≤◌, List, [], ◌∷◌, ◌++◌, length, take, drop, map, refl}
use Rattle.std.proofs.Common.{arith, ap, sym, ◌∙◌}
use Rattle.std.proofs.lemmas.List.{take-append-le, drop-append-le, take-append-drop, length-take-le, length-append, drop-drop, drop_all, take-map, drop-map, map-append, append_assoc}
use Rattle.std.proofs.lemmas.List.Sums.{sum_by-append}
use Rattle.std.proofs.lemmas.List.Concat.{flat_map-cons}
use Rattle.std.proofs.lemmas.Grind.{flat_map-append}
use Rattle.fd_kinds.specs.declared.row.Numbered.{Numbered}
use Rattle.fd_kinds.specs.RowSize.{row_size}
use Rattle.fd_kinds.specs.Parts.{PartMeaning}
use Rattle.fd_shelf.specs.Books.{rows_in, bytes_of}
use Rattle.fd_shelf.specs.Layout.{total, split, spliced, saturated, IsKept}
use Rattle.fd_shelf.proofs.Layouts.{fits-rest}

take_nil : {A : Type 0} (n : ℕ) → take {A = A} n [] ≡ []
take_nil zero = refl
take_nil (suc n) = refl

take_more_of : {A : Type 0} (start at : ℕ) (xs : List A) → take (start + at) xs ≡ take start xs ++ take at (drop start xs)
take_more_of zero at xs = ap (λ n. take n xs) (omega arith)
take_more_of (suc start) at [] = take_nil (suc start + at) ∙ sym (take_nil at)
take_more_of (suc start) at (x ∷ xs) =
    let next : suc start + at ≡ suc (start + at) = omega arith in
    ap (λ n. take n (x ∷ xs)) next ∙ ap (λ ys. x ∷ ys) (take_more_of start at xs)

-- what stands behind the lists of these sizes changes none of them
split_front : {A : Type 0} (ks : List ℕ) (xs ys : List A) → total ks ≤ length xs → split ks (xs ++ ys) ≡ split ks xs
split_front [] xs ys fits = refl
split_front (k ∷ ks) xs ys fits =
    ap (λ block. block ∷ split ks (drop k (xs ++ ys))) (take-append-le k xs ys (omega arith))
    ∙ ap (λ rest. take k xs ∷ split ks rest) (drop-append-le k xs ys (omega arith))
    ∙ ap (λ blocks. take k xs ∷ blocks) (split_front ks (drop k xs) ys (fits-rest k ks xs fits))

spliced_behind : {A : Type 0} (start at count : ℕ) (x : A) (xs : List A) → spliced (start + at) count x xs ≡ take start xs ++ spliced at count x (drop start xs)
spliced_behind start at count x xs =
    let further : start + at + count ≡ start + (at + count) = omega arith in
    ap (λ front. front ++ x ∷ drop (start + at + count) xs) (take_more_of start at xs)
    ∙ ap (λ n. (take start xs ++ take at (drop start xs)) ++ x ∷ drop n xs) further
    ∙ ap (λ back. (take start xs ++ take at (drop start xs)) ++ x ∷ back) (sym (drop-drop (at + count) start xs))
    ∙ append_assoc (take start xs) (take at (drop start xs)) (x ∷ drop (at + count) (drop start xs))

map_spliced : {A B : Type 0} (f : A → B) (at count : ℕ) (x : A) (xs : List A) → map f (spliced at count x xs) ≡ spliced at count (f x) (map f xs)
map_spliced f at count x xs =
    map-append f (take at xs) (x ∷ drop (at + count) xs)
    ∙ ap (λ front. front ++ f x ∷ map f (drop (at + count) xs)) (sym (take-map f at xs))
    ∙ ap (λ back. take at (map f xs) ++ f x ∷ back) (sym (drop-map f (at + count) xs))

put_behind : {A B : Type 0} (f : A → B) (start at count : ℕ) (x : A) (xs now : List A) → now ≡ spliced (start + at) count x xs
    → map f now ≡ take start (map f xs) ++ spliced at count (f x) (drop start (map f xs))
put_behind f start at count x xs now is_now = ap (map f) is_now ∙ map_spliced f (start + at) count x xs ∙ spliced_behind start at count (f x) (map f xs)

-- the closed blocks stay
pub split_put : {A B : Type 0} (f : A → B) (ks : List ℕ) (start at count : ℕ) (x : A) (xs now : List A) → total ks ≡ start → start ≤ length (map f xs) → now ≡ spliced (start + at) count x xs
    → split ks (map f now) ≡ split ks (map f xs)
split_put f ks start at count x xs now same inside is_now =
    let fits : total ks ≤ length (take start (map f xs)) = omega (arith, same, length-take-le start (map f xs) inside) in
    ap (split ks) (put_behind f start at count x xs now is_now)
    ∙ split_front ks (take start (map f xs)) (spliced at count (f x) (drop start (map f xs))) fits
    ∙ sym (split_front ks (take start (map f xs)) (drop start (map f xs)) fits)
    ∙ ap (split ks) (take-append-drop start (map f xs))

-- and the active one has the item
pub drop_put : {A B : Type 0} (f : A → B) (start at count : ℕ) (x : A) (xs now : List A) → start ≤ length (map f xs) → now ≡ spliced (start + at) count x xs
    → drop start (map f now) ≡ spliced at count (f x) (drop start (map f xs))
drop_put f start at count x xs now inside is_now =
    let front : length (take start (map f xs)) ≡ start = length-take-le start (map f xs) inside in
    ap (drop start) (put_behind f start at count x xs now is_now)
    ∙ drop-append-le start (take start (map f xs)) (spliced at count (f x) (drop start (map f xs))) (omega (arith, front))
    ∙ ap (λ rest. rest ++ spliced at count (f x) (drop start (map f xs))) (drop_all start (take start (map f xs)) (omega (arith, front)))

pub rows_in_append : (ps qs : List PartMeaning) → rows_in (ps ++ qs) ≡ rows_in ps ++ rows_in qs
rows_in_append ps qs = flat_map-append (λ (p : PartMeaning). p.rows) ps qs

-- the list is what is before, the items of the run, and what is behind
pub cut : {A : Type 0} (at count : ℕ) (xs : List A) → take at xs ++ (take count (drop at xs) ++ drop (at + count) xs) ≡ xs
cut at count xs =
    ap (λ back. take at xs ++ (take count (drop at xs) ++ back)) (sym (drop-drop count at xs))
    ∙ ap (λ rest. take at xs ++ rest) (take-append-drop count (drop at xs))
    ∙ take-append-drop at xs

-- a part with as many rows as those that it replaces
put_count : (at count : ℕ) (p : PartMeaning) (ps : List PartMeaning) → length p.rows ≡ length (rows_in (take count (drop at ps))) → length (rows_in (spliced at count p ps)) ≡ length (rows_in ps)
put_count at count p ps same =
    let front = take at ps in
    let middle = take count (drop at ps) in
    let back = drop (at + count) ps in
    ap length (rows_in_append front (p ∷ back) ∙ ap (λ rows. rows_in front ++ rows) (flat_map-cons (λ (q : PartMeaning). q.rows) p back))
    ∙ length-append (rows_in front) (p.rows ++ rows_in back)
    ∙ ap (λ n. length (rows_in front) + n) (length-append p.rows (rows_in back) ∙ ap (λ n. n + length (rows_in back)) same ∙ sym (length-append (rows_in middle) (rows_in back)) ∙ ap length (sym (rows_in_append middle back)))
    ∙ sym (length-append (rows_in front) (rows_in (middle ++ back)))
    ∙ ap length (sym (rows_in_append front (middle ++ back)))
    ∙ ap (λ qs. length (rows_in qs)) (cut at count ps)

pub bytes_append : (xs ys : List Numbered) → bytes_of (xs ++ ys) ≡ bytes_of xs + bytes_of ys
bytes_append xs ys = sum_by-append (λ (n : Numbered). row_size n.row) xs ys

put_bytes : (at count : ℕ) (p : PartMeaning) (ps : List PartMeaning) → bytes_of p.rows ≡ bytes_of (rows_in (take count (drop at ps))) → bytes_of (rows_in (spliced at count p ps)) ≡ bytes_of (rows_in ps)
put_bytes at count p ps same =
    let front = take at ps in
    let middle = take count (drop at ps) in
    let back = drop (at + count) ps in
    ap bytes_of (rows_in_append front (p ∷ back) ∙ ap (λ rows. rows_in front ++ rows) (flat_map-cons (λ (q : PartMeaning). q.rows) p back))
    ∙ bytes_append (rows_in front) (p.rows ++ rows_in back)
    ∙ ap (λ n. bytes_of (rows_in front) + n) (bytes_append p.rows (rows_in back) ∙ ap (λ n. n + bytes_of (rows_in back)) same ∙ sym (bytes_append (rows_in middle) (rows_in back)) ∙ ap bytes_of (sym (rows_in_append middle back)))
    ∙ sym (bytes_append (rows_in front) (rows_in (middle ++ back)))
    ∙ ap bytes_of (sym (rows_in_append front (middle ++ back)))
    ∙ ap (λ qs. bytes_of (rows_in qs)) (cut at count ps)

-- The counts of the active block stay.
pub put_is_kept : {A : Type 0} (f : A → PartMeaning) (ks : List ℕ) (start at count rows bytes : ℕ) (x : A) (xs now : List A) → IsKept ks (map f xs) start rows bytes → now ≡ spliced (start + at) count x xs
    → length (f x).rows ≡ length (rows_in (take count (drop at (drop start (map f xs)))))
    → bytes_of (f x).rows ≡ bytes_of (rows_in (take count (drop at (drop start (map f xs)))))
    → IsKept ks (map f now) start rows bytes
put_is_kept f ks start at count rows bytes x xs now kept is_now same_count same_bytes =
    let parts = drop start (map f xs) in
    let put = drop_put f start at count x xs now kept.inside is_now in
    let front : length (take start (map f xs)) ≡ start = length-take-le start (map f xs) kept.inside in
    let longer = ap length (put_behind f start at count x xs now is_now) ∙ length-append (take start (map f xs)) (spliced at count (f x) parts) in
    record {
      closed_size = kept.closed_size;
      inside = omega (arith, front, longer);
      row_count = kept.row_count ∙ ap saturated (sym (ap (λ ps. length (rows_in ps)) put ∙ put_count at count (f x) parts same_count));
      byte_count = kept.byte_count ∙ ap saturated (sym (ap (λ ps. bytes_of (rows_in ps)) put ∙ put_bytes at count (f x) parts same_bytes));
    }
