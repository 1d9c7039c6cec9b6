-- Reading rising texts one after the other.
use Rattle.std.proofs.Common.{◌≡◌, ℕ, zero, suc, ◌+◌, ◌-◌, ◌*◌, ◌^◌, ◌<◌, ◌≤◌, List, [], ◌∷◌, ◌++◌, length, map, take, drop, get_or, Result, Ok, Err, refl, sym, ap, subst, ◌∙◌, append_assoc, arith, inl, inr}
use Rattle.std.specs.Prelude.{All}
use Rattle.std.specs.List.{flat_map}
use Rattle.std.specs.List.Sorted.{IsStrictlySortedBy}
use Rattle.std.specs.declared.cmp.Ordering.TheVariants.{Less}
use Rattle.std.proofs.lemmas.Bool.{cases_lt}
use Rattle.std.proofs.lemmas.Cmp.{nat_list_cmp_total}
use Rattle.std.proofs.lemmas.List.{append-nil, take_more, drop_more, drop_all, take_all, flat_map_more, length-append, length-take-le, length-map, get_or-map, get_or-take, take_at, get_or_push}
use Rattle.std.proofs.lemmas.List.Elements.{All-push}
use Rattle.std.proofs.lemmas.Map.Keys.{Less-from_sorted, sorted_from_all_adjacent}
use Rattle.fd_lists.specs.Texts.{text_cmp}
use Rattle.fd_pages.specs.declared.fault.PageFault.{PageFault}
use Rattle.fd_pages.specs.Columns.{sized}
use Rattle.fd_pages.specs.Reader.{sized_at}
use Rattle.fd_pages.specs.Dictionaries.{AreRising, dictionary_body}
use Rattle.fd_codes.proofs.Numbers.{IsBytes, sized_takes, sized_again}
use Rattle.fd_codes.proofs.Outcomes.{not_ok, split_is}
use Rattle.fd_codes.specs.Texts.{AreTexts, Rises}

-- what is read of the texts, and what of them is left
pub record Reads (count k : ℕ) (bytes : List ℕ) (texts : List (List ℕ)) (rest : List ℕ) : Type 0 where
  pub upto : k ≤ count
  pub counted : length texts ≡ k
  pub rising : AreRising texts
  pub fit : All (λ text. length text < 2 ^ 32) texts
  pub whole : bytes ≡ flat_map sized texts ++ rest
  pub are_bytes : IsBytes rest
  pub only : (others : List (List ℕ)) → AreTexts count others bytes → (rest ≡ flat_map sized (drop k others)) × (texts ≡ take k others)

pub reads_none : (count : ℕ) (bytes : List ℕ) → IsBytes bytes → Reads count 0 bytes [] bytes
unfolding dictionary_body IsStrictlySortedBy
reads_none count bytes fits = record {
  upto = omega arith;
  counted = refl;
  rising = tt;
  fit = λ k d lt. absurd (omega (arith, lt));
  whole = refl;
  are_bytes = fits;
  only = λ others are. (are.whole, refl);
}

-- in front of another list stands the first one
in_front : (xs : List (List ℕ)) (ys : List (List ℕ)) (i : ℕ) → i < length xs → get_or (xs ++ ys) i [] ≡ get_or xs i []
in_front xs ys i lt =
    sym (get_or-take (length xs) (xs ++ ys) i [] lt) ∙ ap (λ zs. get_or zs i []) (take_at xs ys (length xs) refl)

rising_more : (texts : List (List ℕ)) (text : List ℕ) → AreRising texts → Rises texts text → AreRising (texts ++ text ∷ [])
rising_more texts text rising rises = sorted_from_all_adjacent nat_list_cmp_total (texts ++ text ∷ []) [] by
  where
    by : (k : ℕ) → k + 1 < length (texts ++ text ∷ []) → text_cmp (get_or (texts ++ text ∷ []) k []) (get_or (texts ++ text ∷ []) (k + 1) []) ≡ Less
    by k lt =
        let len : length (texts ++ text ∷ []) ≡ length texts + 1 = length-append texts (text ∷ []) in
        let before : get_or (texts ++ text ∷ []) k [] ≡ get_or texts k [] = in_front texts (text ∷ []) k (omega (arith, lt, len)) in
        elim (cases_lt (k + 1) (length texts)) [
          | inl less ↦
              let after : get_or (texts ++ text ∷ []) (k + 1) [] ≡ get_or texts (k + 1) [] = in_front texts (text ∷ []) (k + 1) less in
              rw (before, after) (Less-from_sorted text_cmp texts k (k + 1) [] rising (omega arith) less)
          | inr le ↦
              let e : length texts ≡ k + 1 = omega (arith, lt, len, le) in
              let after : get_or (texts ++ text ∷ []) (k + 1) [] ≡ text = get_or_push texts text [] (k + 1) e in
              let last : text_cmp (get_or texts (length texts - 1) []) text ≡ Less = rises (omega (arith, e)) in
              let place : length texts - 1 ≡ k = omega (arith, e) in
              rw (before, after) (subst (λ n. text_cmp (get_or texts n []) text ≡ Less) place last)
        ]

-- a text of rising ones is above those before it
rises_in : (others : List (List ℕ)) (k : ℕ) → AreRising others → k < length others → Rises (take k others) (get_or others k [])
rises_in others k rising lt some =
    let len : length (take k others) ≡ k = length-take-le k others (omega (arith, lt)) in
    let last : get_or (take k others) (length (take k others) - 1) [] ≡ get_or others (k - 1) [] =
    ap (λ n. get_or (take k others) (n - 1) []) len ∙ get_or-take k others (k - 1) [] (omega (arith, some, len)) in
    rw last (Less-from_sorted text_cmp others (k - 1) k [] rising (omega (arith, some, len)) lt)

-- the next text of those that the bytes are
next : (count k : ℕ) (bytes : List ℕ) (texts : List (List ℕ)) (rest : List ℕ) (others : List (List ℕ)) → Reads count k bytes texts rest → k < count → AreTexts count others bytes
    → sized_at rest ≡ Ok (get_or others k [], flat_map sized (drop (k + 1) others))
next count k bytes texts rest others r lt are =
    let within : k < length others = omega (arith, are.counted, lt) in
    let here : rest ≡ sized (get_or others k []) ++ flat_map sized (drop (k + 1) others) = (r.only others are).0 ∙ ap (flat_map sized) (drop_more others k [] within) in
    ap sized_at here ∙ sized_again (get_or others k []) (flat_map sized (drop (k + 1) others)) (are.fit k [] within)

pub reads_more : (count k : ℕ) (bytes : List ℕ) (texts : List (List ℕ)) (rest text behind : List ℕ) → Reads count k bytes texts rest → k < count → sized_at rest ≡ Ok (text, behind) → Rises texts text
    → Reads count (k + 1) bytes (texts ++ text ∷ []) behind
reads_more count k bytes texts rest text behind r lt sized-is rises =
    let t = sized_takes rest text behind r.are_bytes sized-is in
    record {
      upto = omega (arith, lt);
      counted = omega (arith, length-append texts (text ∷ []), r.counted);
      rising = rising_more texts text r.rising rises;
      fit = All-push (λ (x : List ℕ). length x < 2 ^ 32) texts text r.fit t.1;
      whole = r.whole ∙ ap (λ x. flat_map sized texts ++ x) t.0.parts ∙ sym (append_assoc (flat_map sized texts) (sized text) behind) ∙ ap (λ x. x ++ behind) (flat_map_more sized [] texts text);
      are_bytes = t.0.rest_fits;
      only = λ others are.
          let within : k < length others = omega (arith, are.counted, lt) in
          let same = split_is text behind (get_or others k []) (flat_map sized (drop (k + 1) others)) (sym sized-is ∙ next count k bytes texts rest others r lt are) in
          (same.1, ap (λ (ts : List (List ℕ)). ts ++ text ∷ []) (r.only others are).1 ∙ ap (λ (t : List ℕ). take k others ++ t ∷ []) same.0 ∙ sym (take_more others k [] within));
    }

pub reads_cut : (count k : ℕ) (bytes : List ℕ) (texts : List (List ℕ)) (rest : List ℕ) (others : List (List ℕ)) (fault : PageFault) → Reads count k bytes texts rest → k < count → sized_at rest ≡ Err fault → AreTexts count others bytes → ⊥
reads_cut count k bytes texts rest others fault r lt failed are =
    not_ok fault (get_or others k [], flat_map sized (drop (k + 1) others)) (sym failed ∙ next count k bytes texts rest others r lt are)

pub reads_fall : (count k : ℕ) (bytes : List ℕ) (texts : List (List ℕ)) (rest text behind : List ℕ) (others : List (List ℕ)) → Reads count k bytes texts rest → k < count → sized_at rest ≡ Ok (text, behind)
    → (¬ Rises texts text) → AreTexts count others bytes → ⊥
reads_fall count k bytes texts rest text behind others r lt sized-is falls are =
    let within : k < length others = omega (arith, are.counted, lt) in
    let same = split_is text behind (get_or others k []) (flat_map sized (drop (k + 1) others)) (sym sized-is ∙ next count k bytes texts rest others r lt are) in
    falls (subst (λ (t : List ℕ). Rises texts t) (sym same.0) (subst (λ (ts : List (List ℕ)). Rises ts (get_or others k [])) (sym (r.only others are).1) (rises_in others k are.rising within)))

pub reads_all : (count k : ℕ) (bytes : List ℕ) (texts : List (List ℕ)) (rest : List ℕ) → Reads count k bytes texts rest → count ≤ k → rest ≡ [] → AreTexts count texts bytes
unfolding dictionary_body
reads_all count k bytes texts rest r le none = record {
  counted = omega (arith, r.counted, r.upto, le);
  rising = r.rising;
  fit = r.fit;
  whole = r.whole ∙ ap (λ x. flat_map sized texts ++ x) none ∙ append-nil (flat_map sized texts);
}

pub reads_left : (count k : ℕ) (bytes : List ℕ) (texts : List (List ℕ)) (rest : List ℕ) (others : List (List ℕ)) → Reads count k bytes texts rest → count ≤ k → AreTexts count others bytes → rest ≡ []
reads_left count k bytes texts rest others r le are = (r.only others are).0 ∙ ap (flat_map sized) (drop_all k others (omega (arith, are.counted, le)))

pub reads_are : (count k : ℕ) (bytes : List ℕ) (texts : List (List ℕ)) (rest : List ℕ) (others : List (List ℕ)) → Reads count k bytes texts rest → count ≤ k → AreTexts count others bytes → texts ≡ others
reads_are count k bytes texts rest others r le are = (r.only others are).1 ∙ take_all k others (omega (arith, are.counted, le))

-- ---- how long the texts are

-- a text takes four bytes at least
pub texts_few : (texts : List (List ℕ)) → 4 * length texts ≤ length (dictionary_body texts)
unfolding dictionary_body
texts_few [] = omega arith
texts_few (text ∷ texts) = omega (arith, texts_few texts, length-append (sized text) (flat_map sized texts))

-- a text is shorter than all of them
pub text_within : (texts : List (List ℕ)) (n : ℕ) → length (dictionary_body texts) < n → All (λ text. length text < n) texts
unfolding dictionary_body
text_within texts n lt k d within = by texts k within lt
  where
    by : (texts : List (List ℕ)) (k : ℕ) → k < length texts → length (flat_map sized texts) < n → length (get_or texts k d) < n
    by [] k within lt = absurd (omega (arith, within))
    by (text ∷ texts) zero within lt = omega (arith, lt, length-append (sized text) (flat_map sized texts))
    by (text ∷ texts) (suc k) within lt = by texts k (omega (arith, within)) (omega (arith, lt, length-append (sized text) (flat_map sized texts)))

-- ---- writing one text after the other, which are seen by `f`

pub body_none : (front : List ℕ) → front ≡ front ++ dictionary_body []
unfolding dictionary_body
body_none front = sym (append-nil front)

pub text_fits : {X : Type 0} (xs : List X) (f : X → List ℕ) (k : ℕ) (d : X) (n : ℕ) → length (dictionary_body (map f xs)) < n → k < length xs → length (f (get_or xs k d)) < n
text_fits xs f k d n small lt = subst (λ t. length t < n) (get_or-map f xs k d [] lt) (text_within (map f xs) n small k [] (omega (arith, lt, length-map xs f)))

pub put_more : {X : Type 0} (xs : List X) (f : X → List ℕ) (k : ℕ) (d : X) (front out new : List ℕ) → k < length xs → out ≡ front ++ dictionary_body (take k (map f xs)) → new ≡ out ++ sized (f (get_or xs k d))
    → new ≡ front ++ dictionary_body (take (k + 1) (map f xs))
unfolding dictionary_body
put_more xs f k d front out new lt so_far more =
    let texts : List (List ℕ) = map f xs in
    let text : List ℕ = f (get_or xs k d) in
    let e : get_or texts k [] ≡ text = get_or-map f xs k d [] lt in
    let step : flat_map sized (take k texts) ++ sized text ≡ flat_map sized (take (k + 1) texts) =
    flat_map_more sized [] (take k texts) text ∙ ap (flat_map sized) (ap (λ (t : List ℕ). take k texts ++ t ∷ []) (sym e) ∙ sym (take_more texts k [] (omega (arith, lt, length-map xs f)))) in
    more ∙ ap (λ x. x ++ sized text) so_far ∙ append_assoc front (flat_map sized (take k texts)) (sized text) ∙ ap (λ x. front ++ x) step
