-- The search for a front goes on.
use Rattle.std.proofs.Common.{ℕ, ◌≡◌, ◌≤◌, ◌<◌, ◌+◌, List, [], ◌∷◌, ◌++◌, length, take, get_or, false, arith, ap, sym, subst, ◌∙◌, inl, inr, length-append, length-take}
use Rattle.std.specs.Bool.{IsFalse}
use Rattle.std.proofs.lemmas.List.{take_more, take-append-le, take-take}
use Rattle.std.proofs.lemmas.Bool.{cases_lt}
use Rattle.fd_http.specs.declared.front.FrontSearch.{FrontSearch}
use Rattle.fd_http.specs.Front.{is_blank_ended}
use Rattle.fd_http.specs.Search.{EndsAs, HasSearched}

-- one more byte, with which no front ends
pub searched_more : (bytes : List ℕ) (search next : FrontSearch) → HasSearched bytes search → search.place < length bytes
    → next.place ≡ search.place + 1
    → EndsAs (take search.place bytes ++ get_or bytes search.place 0 ∷ []) next
    → is_blank_ended (take search.place bytes ++ get_or bytes search.place 0 ∷ []) ≡ false
    → HasSearched bytes next
searched_more bytes search next so_far short place ends none =
    let one : take next.place bytes ≡ take search.place bytes ++ get_or bytes search.place 0 ∷ [] =
    ap (λ (k : ℕ). take k bytes) place ∙ take_more bytes search.place 0 short in
    let P : List ℕ → Type 0 = λ seen. EndsAs seen next in
    let Q : List ℕ → Type 0 = λ seen. IsFalse (is_blank_ended seen) in
    record {
      within = omega (arith, place);
      ends = subst P (sym one) ends;
      none = λ k below. elim (cases_lt search.place k) [
        | inl above ↦
            let here : k ≡ next.place = omega (arith, place) in
            let R : ℕ → Type 0 = λ n. IsFalse (is_blank_ended (take n bytes)) in
            subst R (sym here) (subst Q (sym one) none)
        | inr before ↦ so_far.none k before
      ];
    }

-- more bytes behind those that were seen
pub searched_append : (bytes more : List ℕ) (search : FrontSearch) → HasSearched bytes search → HasSearched (bytes ++ more) search
searched_append bytes more search so_far =
    let P : List ℕ → Type 0 = λ seen. EndsAs seen search in
    record {
      within = omega (arith, so_far.within, length-append bytes more);
      ends = subst P (sym (take-append-le search.place bytes more so_far.within)) so_far.ends;
      none = λ k below.
          let Q : List ℕ → Type 0 = λ seen. IsFalse (is_blank_ended seen) in
          subst Q (sym (take-append-le k bytes more (omega (arith, so_far.within)))) (so_far.none k below);
    }

-- a front of those bytes alone
pub searched_take : (bytes : List ℕ) (n : ℕ) (search : FrontSearch) → HasSearched bytes search → search.place ≤ n → HasSearched (take n bytes) search
searched_take bytes n search so_far within =
    let P : List ℕ → Type 0 = λ seen. EndsAs seen search in
    record {
      within = omega (arith, so_far.within, length-take n bytes);
      ends = subst P (sym (take-take search.place n bytes within)) so_far.ends;
      none = λ k below.
          let Q : List ℕ → Type 0 = λ seen. IsFalse (is_blank_ended seen) in
          subst Q (sym (take-take k n bytes (omega (arith, within)))) (so_far.none k below);
    }
