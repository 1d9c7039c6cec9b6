-- Ids that run from a number on: each stands where its distance says, and none stands twice.
use Rattle.std.proofs.Common.{◌≡◌, ℕ, suc, ◌+◌, ◌-◌, ◌<◌, ◌≤◌, Bool, true, false, cond, ◌&&◌, ◌||◌, List, [], ◌∷◌, length, refl, sym, ap, ◌∙◌, arith, Option, Some, None}
use Rattle.std.specs.Prelude.{◌==◌}
use Rattle.std.specs.List.{position_from}
use Rattle.std.proofs.lemmas.Bool.{and_parts}
use Rattle.std.proofs.lemmas.Bool.Decides.{nat_tests}
use Rattle.fd_pprof.specs.Ids.{has, has_repeats, are_run}

is_equal : (m n : ℕ) → (m == n) ≡ true → m ≡ n
is_equal m n h = grind (arith, nat_tests)

are_equal : (m n : ℕ) → m ≡ n → (m == n) ≡ true
are_equal m n h = grind (arith, nat_tests)

not_equal : (m n : ℕ) → m < n → (m == n) ≡ false
not_equal m n h = grind (arith, nat_tests)

not_equal_back : (m n : ℕ) → n < m → (m == n) ≡ false
not_equal_back m n h = grind (arith, nat_tests)

-- an id below the first one stands nowhere
below : (ids : List ℕ) (k at id : ℕ) → are_run k ids ≡ true → id < k → position_from (λ other. other == id) at ids ≡ None
below [] k at id h less = refl
below (x ∷ ids) k at id h less =
    let parts = and_parts (x == k) (are_run (k + 1) ids) h in
    let same : x ≡ k = is_equal x k parts.0 in
    let later : id < k + 1 = omega arith in
    let apart : (x == id) ≡ false = not_equal_back x id (omega arith) in
    ap (λ b. cond b (Some at) (position_from (λ other. other == id) (at + 1) ids)) apart ∙ below ids (k + 1) (at + 1) id parts.1 later

past : (ids : List ℕ) (k at id : ℕ) → are_run k ids ≡ true → k + length ids ≤ id → position_from (λ other. other == id) at ids ≡ None
past [] k at id h more = refl
past (x ∷ ids) k at id h more =
    let parts = and_parts (x == k) (are_run (k + 1) ids) h in
    let same : x ≡ k = is_equal x k parts.0 in
    let later : k + 1 + length ids ≤ id = omega arith in
    let apart : (x == id) ≡ false = not_equal x id (omega arith) in
    ap (λ b. cond b (Some at) (position_from (λ other. other == id) (at + 1) ids)) apart ∙ past ids (k + 1) (at + 1) id parts.1 later

above : (x k id : ℕ) → x ≡ k → k ≤ id → (x == id) ≡ false → k < id
above x k id s l e = grind (arith, nat_tests)

inside : (ids : List ℕ) (k at id : ℕ) → are_run k ids ≡ true → k ≤ id → id < k + length ids → position_from (λ other. other == id) at ids ≡ Some (at + (id - k))
inside [] k at id h least less = absurd (omega arith)
inside (x ∷ ids) k at id h least less =
    let parts = and_parts (x == k) (are_run (k + 1) ids) h in
    by (x == id) refl (is_equal x k parts.0) parts.1 (inside ids (k + 1) (at + 1) id)
  where
    by : (b : Bool) → (x == id) ≡ b → x ≡ k → are_run (k + 1) ids ≡ true
        → (are_run (k + 1) ids ≡ true → k + 1 ≤ id → id < k + 1 + length ids → position_from (λ other. other == id) (at + 1) ids ≡ Some (at + 1 + (id - (k + 1))))
        → position_from (λ other. other == id) at (x ∷ ids) ≡ Some (at + (id - k))
    by true e same others later =
        let here : x ≡ id = is_equal x id e in
        let none : at ≡ at + (id - k) = omega arith in
        ap (λ b. cond b (Some at) (position_from (λ other. other == id) (at + 1) ids)) e ∙ ap Some none
    by false e same others later =
        let apart : k < id = above x k id same least e in
        let more : k + 1 ≤ id = omega arith in
        let within : id < k + 1 + length ids = omega arith in
        let place : at + 1 + (id - (k + 1)) ≡ at + (id - k) = omega arith in
        ap (λ b. cond b (Some at) (position_from (λ other. other == id) (at + 1) ids)) e ∙ later others more within ∙ ap Some place

-- what the place of an id in a run is
pub found_in_run : (ids : List ℕ) (id : ℕ) → are_run 1 ids ≡ true → 0 < id → id ≤ length ids → Some (id - 1) ≡ position_from (λ other. other == id) 0 ids
found_in_run ids id h some within =
    let least : 1 ≤ id = omega arith in
    let less : id < 1 + length ids = omega arith in
    let place : 0 + (id - 1) ≡ id - 1 = omega arith in
    sym (inside ids 1 0 id h least less ∙ ap Some place)

pub past_run : (ids : List ℕ) (id : ℕ) → are_run 1 ids ≡ true → length ids < id → None ≡ position_from (λ other. other == id) 0 ids
past_run ids id h more =
    let behind : 1 + length ids ≤ id = omega arith in
    sym (past ids 1 0 id h behind)

pub none_in_run : (ids : List ℕ) (id : ℕ) → are_run 1 ids ≡ true → id ≡ 0 → None ≡ position_from (λ other. other == id) 0 ids
none_in_run ids id h zero_is =
    let less : id < 1 = omega arith in
    sym (below ids 1 0 id h less)

absent : (ids : List ℕ) (k id : ℕ) → are_run k ids ≡ true → id < k → has ids id ≡ false
absent [] k id h less = refl
absent (x ∷ ids) k id h less =
    let parts = and_parts (x == k) (are_run (k + 1) ids) h in
    let same : x ≡ k = is_equal x k parts.0 in
    let later : id < k + 1 = omega arith in
    let apart : (x == id) ≡ false = not_equal_back x id (omega arith) in
    ap (λ b. b || has ids id) apart ∙ absent ids (k + 1) id parts.1 later

once : (ids : List ℕ) (k : ℕ) → are_run k ids ≡ true → has_repeats ids ≡ false
once [] k h = refl
once (x ∷ ids) k h =
    let parts = and_parts (x == k) (are_run (k + 1) ids) h in
    let same : x ≡ k = is_equal x k parts.0 in
    let less : x < k + 1 = omega arith in
    ap (λ b. b || has_repeats ids) (absent ids (k + 1) x parts.1 less) ∙ once ids (k + 1) parts.1

pub run_repeats : (ids : List ℕ) → are_run 1 ids ≡ true → false ≡ has_repeats ids
run_repeats ids h = sym (once ids 1 h)

pub ruleset run_places = (found_in_run, past_run, none_in_run)
