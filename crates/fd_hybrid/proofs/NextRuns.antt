-- What may stand next where so many values are left, said of one run and of what stands before it.
use Rattle.std.proofs.Common.{◌≡◌, ◌≢◌, ℕ, zero, suc, ◌+◌, ◌-◌, ◌^◌, ◌<◌, ◌≤◌, min, false, ◌⊎◌, inl, inr, List, [], ◌∷◌, ◌++◌, length, get_or, replicate, refl, sym, ap, ◌∙◌, subst, append_assoc, length-append, arith}
use Rattle.std.proofs.Math.ListN.{length-replicate}
use Rattle.std.specs.List.{concat}
use Rattle.std.proofs.lemmas.List.{append-nil, nil_from_length}
use Rattle.std.proofs.lemmas.Bool.{cases_lt}
use Rattle.fd_hybrid.specs.declared.runs.Before.{Before}
use Rattle.fd_hybrid.specs.declared.runs.Before.TheVariants.{Nothing, Repeated, Packed}
use Rattle.fd_hybrid.specs.Runs.{Run, repeated, packed, as_many, equal_next, AreTaken, AreRuns}
use Rattle.fd_hybrid.specs.Unpacker.{is_packed}
use Rattle.fd_hybrid.proofs.Stretches.{equal_next-replicate, equal_next-append, equal_next-longer, equal_next-le, none_at_head, head_differs, as_many-other}
use Rattle.fd_hybrid.proofs.DigitNumbers.{Digits}

abbrev pub values_of : Run → List ℕ
values_of (repeated n v) = replicate n v
values_of (packed gs) = concat gs

abbrev pub after_of : Run → Before
after_of (repeated n v) = Repeated v
after_of (packed gs) = Packed

-- the value is not the one that the run before repeats
abbrev pub Apart : Before → ℕ → Type 0
Apart (Repeated u) v = u ≢ v
Apart Nothing v = Unit {0}
Apart Packed v = Unit {0}

-- groups of `left` values: all of them, or all but eight or more
abbrev pub Groups : ℕ → List (List ℕ) → Type 0
Groups left [] = (left ≡ 0) ⊎ (8 ≤ left)
Groups left (g ∷ gs) = (0 < left) × (length g ≡ min left 8) × (equal_next g < 8) × Groups (left - 8) gs

abbrev pub May : ℕ → ℕ → Before → Run → Type 0
May w left before (repeated n v) = (8 ≤ n) × (n ≤ left) × (v < 2 ^ w) × Apart before v
May w left before (packed gs) = (is_packed before ≡ false) × (gs ≢ []) × Digits w (concat gs) × Apart before (get_or (concat gs) 0 0) × Groups left gs

-- the values that may follow
abbrev pub Follows : Before → List ℕ → Type 0
Follows Nothing values = Unit {0}
Follows (Repeated u) values = as_many u values ≡ 0
Follows Packed values = (values ≡ []) ⊎ (8 ≤ equal_next values)

abbrev pub Goes : Before → List Run → List ℕ → Type 0
Goes before runs values = AreRuns runs values × Follows before values

-- so many values may follow
abbrev pub Alive : Before → ℕ → Type 0
Alive Nothing left = Unit {0}
Alive (Repeated u) left = Unit {0}
Alive Packed left = (left ≡ 0) ⊎ (8 ≤ left)

pub groups_taken : (gs : List (List ℕ)) (left : ℕ) (behind : List ℕ) → Groups left gs → length (concat gs) + length behind ≡ left
    → Follows Packed behind → AreTaken gs behind
groups_taken [] left behind h e f = f
groups_taken (g ∷ gs) left behind h e f =
    let lengths : length (concat (g ∷ gs)) ≡ length g + length (concat gs) = length-append g (concat gs) in
    let rest : length (concat gs ++ behind) ≡ length (concat gs) + length behind = length-append (concat gs) behind in
    let size : length g ≡ min left 8 = h.1 in
    let some : 0 < left = h.0 in
    let next : length (concat gs) + length behind ≡ left - 8 = omega arith in
    let none : length g < 8 → concat gs ++ behind ≡ [] = λ lt. nil_from_length (concat gs ++ behind) (omega (arith, lt)) in
    ((omega arith, omega arith, none), stretch (cases_lt (length g) 8) none (omega arith), groups_taken gs (left - 8) behind h.3 next f)
  where
    stretch : (length g < 8) ⊎ (8 ≤ length g) → (length g < 8 → concat gs ++ behind ≡ []) → length g ≤ 8 → equal_next (g ++ (concat gs ++ behind)) < 8
    stretch (inl lt) none le = let e : g ++ (concat gs ++ behind) ≡ g = ap (λ xs. g ++ xs) (none lt) ∙ append-nil g in subst (λ (xs : List ℕ). equal_next xs < 8) (sym e) h.2
    stretch (inr ge) none le =
        let small : equal_next g < 8 = h.2 in
        let short : equal_next g < length g = omega arith in
        let e : equal_next (g ++ (concat gs ++ behind)) ≡ equal_next g = equal_next-append g (concat gs ++ behind) short in
        omega arith

pub taken_groups : (gs : List (List ℕ)) (behind : List ℕ) → AreTaken gs behind → Groups (length (concat gs) + length behind) gs
taken_groups [] behind (inl none) = let e : length behind ≡ 0 = ap length none in inl (omega arith)
taken_groups [] behind (inr many) = inr (omega (arith, equal_next-le behind))
taken_groups (g ∷ gs) behind h =
    let lengths : length (concat (g ∷ gs)) ≡ length g + length (concat gs) = length-append g (concat gs) in
    let rest : length (concat gs ++ behind) ≡ length (concat gs) + length behind = length-append (concat gs) behind in
    let left : ℕ = length (concat (g ∷ gs)) + length behind in
    let some : 0 < length g = h.0.0 in
    let most : length g ≤ 8 = h.0.1 in
    let none : length g < 8 → length (concat gs) + length behind ≡ 0 = λ lt. sym rest ∙ ap length (h.0.2 lt) in
    let size : length g ≡ min left 8 = sized (cases_lt (length g) 8) none lengths most in
    let next : left - 8 ≡ length (concat gs) + length behind = omega arith in
    (omega arith, size, omega (arith, equal_next-longer g (concat gs ++ behind), h.1), subst (λ (n : ℕ). Groups n gs) (sym next) (taken_groups gs behind h.2))
  where
    sized : (length g < 8) ⊎ (8 ≤ length g) → (length g < 8 → length (concat gs) + length behind ≡ 0) → length (concat (g ∷ gs)) ≡ length g + length (concat gs) → length g ≤ 8
        → length g ≡ min (length (concat (g ∷ gs)) + length behind) 8
    sized (inl lt) none lengths most = omega (arith, none lt)
    sized (inr ge) none lengths most = omega arith

-- how many values the groups have
pub groups_within : (gs : List (List ℕ)) (left : ℕ) → Groups left gs → length (concat gs) ≤ left
groups_within [] left h = omega arith
groups_within (g ∷ gs) left h = omega (arith, length-append g (concat gs), h.1, groups_within gs (left - 8) h.3)

pub groups_alive : (gs : List (List ℕ)) (left : ℕ) → Groups left gs → Alive Packed (left - length (concat gs))
groups_alive [] left h = let e : left - length {A = ℕ} [] ≡ left = omega arith in subst (λ (n : ℕ). Alive Packed n) (sym e) h
groups_alive (g ∷ gs) left h =
    let e : left - length (concat (g ∷ gs)) ≡ (left - 8) - length (concat gs) = omega (arith, length-append g (concat gs), h.1, groups_within gs (left - 8) h.3) in
    subst (λ (n : ℕ). Alive Packed n) (sym e) (groups_alive gs (left - 8) h.3)

pub some_values : (gs : List (List ℕ)) (left : ℕ) → gs ≢ [] → Groups left gs → 0 < length (concat gs)
some_values [] left some h = absurd (some refl)
some_values (g ∷ gs) left some h = omega (arith, length-append g (concat gs), h.0, h.1)

pub may_within : (w left : ℕ) (before : Before) (run : Run) → May w left before run → length (values_of run) ≤ left
may_within w left before (repeated n v) m = let e : length (replicate n v) ≡ n = length-replicate n v in omega (arith, m.1)
may_within w left before (packed gs) m = groups_within gs left m.4

pub may_alive : (w left : ℕ) (before : Before) (run : Run) → May w left before run → Alive (after_of run) (left - length (values_of run))
may_alive w left before (repeated n v) m = tt
may_alive w left before (packed gs) m = groups_alive gs left m.4

pub some_of : (w left : ℕ) (before : Before) (run : Run) → May w left before run → 0 < length (values_of run)
some_of w left before (repeated n v) m = let e : length (replicate n v) ≡ n = length-replicate n v in omega (arith, m.0)
some_of w left before (packed gs) m = some_values gs left m.1 m.4

follows_repeated : (before : Before) (n v : ℕ) (xs : List ℕ) → 8 ≤ n → Apart before v → Follows before (replicate n v ++ xs)
follows_repeated Nothing n v xs le apart = tt
follows_repeated (Repeated u) zero v xs le apart = absurd (omega arith)
follows_repeated (Repeated u) (suc n) v xs le apart = as_many-other u v (replicate n v ++ xs) (λ e. apart (sym e))
follows_repeated Packed n v xs le apart = inr (omega (arith, equal_next-replicate v n xs (omega arith)))

follows_packed : (before : Before) (values xs : List ℕ) → is_packed before ≡ false → 0 < length values → Apart before (get_or values 0 0) → Follows before (values ++ xs)
follows_packed Nothing values xs start some apart = tt
follows_packed (Repeated u) values xs start some apart = none_at_head u values xs some (λ e. apart (sym e))
follows_packed Packed values xs start some apart = cc

-- a run may be put before runs
pub puts : (w left : ℕ) (before : Before) (run : Run) (runs : List Run) (values : List ℕ) → May w left before run → Goes (after_of run) runs values
    → length (values_of run) + length values ≡ left → Goes before (run ∷ runs) (values_of run ++ values)
puts w left before (repeated n v) runs values m goes e =
    let many : n ≡ equal_next (replicate n v ++ values) = omega (arith, equal_next-replicate v n values (omega (arith, m.0)), goes.1) in
    ((values, refl, m.0, many, goes.0), follows_repeated before n v values m.0 m.3)
puts w left before (packed gs) runs values m goes e =
    ((values, refl, m.1, groups_taken gs left values m.4 e goes.1, goes.0), follows_packed before (concat gs) values m.0 (some_values gs left m.1 m.4) m.3)

pub fit_left : (w : ℕ) (xs ys : List ℕ) → 0 < 2 ^ w → Digits w (xs ++ ys) → Digits w xs
fit_left w [] ys some fit i = some
fit_left w (x ∷ xs) ys some fit zero = fit 0
fit_left w (x ∷ xs) ys some fit (suc i) = fit_left w xs ys some (λ j. fit (suc j)) i

pub fit_right : (w : ℕ) (xs ys : List ℕ) → Digits w (xs ++ ys) → Digits w ys
fit_right w [] ys fit i = fit i
fit_right w (x ∷ xs) ys fit i = fit_right w xs ys (λ j. fit (suc j)) i

apart_repeated : (before : Before) (n v : ℕ) (xs : List ℕ) → 8 ≤ n → Follows before (replicate n v ++ xs) → Apart before v
apart_repeated Nothing n v xs le f = tt
apart_repeated (Repeated u) zero v xs le f = absurd (omega arith)
apart_repeated (Repeated u) (suc n) v xs le f = λ e. head_differs u v (replicate n v ++ xs) f (sym e)
apart_repeated Packed n v xs le f = tt

apart_packed : (before : Before) (values xs : List ℕ) → 0 < length values → Follows before (values ++ xs) → Apart before (get_or values 0 0)
apart_packed Nothing values xs some f = tt
apart_packed (Repeated u) [] xs some f = absurd (omega arith)
apart_packed (Repeated u) (v ∷ vs) xs some f = λ e. head_differs u v (vs ++ xs) f (sym e)
apart_packed Packed values xs some f = tt

-- no packed run follows a packed run
one_packed : (before : Before) (gs : List (List ℕ)) (behind : List ℕ) → gs ≢ [] → AreTaken gs behind → Follows before (concat gs ++ behind) → is_packed before ≡ false
one_packed Nothing gs behind some t f = refl
one_packed (Repeated u) gs behind some t f = refl
one_packed Packed [] behind some t f = absurd (some refl)
one_packed Packed (g ∷ gs) behind some t (inl none) =
    let e : length ((g ++ concat gs) ++ behind) ≡ 0 = ap length none in
    absurd (omega (arith, e, length-append (g ++ concat gs) behind, length-append g (concat gs), t.0.0))
one_packed Packed (g ∷ gs) behind some t (inr many) =
    let e : equal_next ((g ++ concat gs) ++ behind) ≡ equal_next (g ++ (concat gs ++ behind)) = ap equal_next (append_assoc g (concat gs) behind) in
    absurd (omega (arith, many, e, t.1))

-- the first run may stand there, and the others go on behind it
pub takes : (w : ℕ) (before : Before) (run : Run) (runs : List Run) (values : List ℕ) → 0 < 2 ^ w → Digits w values → Goes before (run ∷ runs) values
    → May w (length values) before run × ((behind : List ℕ) × (values ≡ values_of run ++ behind) × Goes (after_of run) runs behind)
takes w before (repeated n v) runs values some fit goes =
    let behind : List ℕ = goes.0.0 in
    let e : values ≡ replicate n v ++ behind = goes.0.1 in
    let le : 8 ≤ n = goes.0.2 in
    let many : n ≡ equal_next (replicate n v ++ behind) = goes.0.3 ∙ ap equal_next e in
    let follows : Follows before (replicate n v ++ behind) = subst (λ (xs : List ℕ). Follows before xs) e goes.1 in
    let none : as_many v behind ≡ 0 = omega (arith, equal_next-replicate v n behind (omega arith)) in
    let within : n ≤ length values = omega (arith, ap length e, length-append (replicate n v) behind, length-replicate n v) in
    let fits : v < 2 ^ w = head_fits n (omega arith) (subst (λ (xs : List ℕ). Digits w xs) e fit) in
    ((le, within, fits, apart_repeated before n v behind le follows), (behind, e, (goes.0.4, none)))
  where
    head_fits : (n : ℕ) → 0 < n → Digits w (replicate n v ++ goes.0.0) → v < 2 ^ w
    head_fits zero lt f = absurd (omega arith)
    head_fits (suc n) lt f = f 0
takes w before (packed gs) runs values some fit goes =
    let behind : List ℕ = goes.0.0 in
    let e : values ≡ concat gs ++ behind = goes.0.1 in
    let more : gs ≢ [] = goes.0.2 in
    let taken : AreTaken gs behind = goes.0.3 in
    let follows : Follows before (concat gs ++ behind) = subst (λ (xs : List ℕ). Follows before xs) e goes.1 in
    let count : length (concat gs) + length behind ≡ length values = sym (ap length e ∙ length-append (concat gs) behind) in
    let groups : Groups (length values) gs = subst (λ (n : ℕ). Groups n gs) count (taken_groups gs behind taken) in
    let fits : Digits w (concat gs) = fit_left w (concat gs) behind some (subst (λ (xs : List ℕ). Digits w xs) e fit) in (
      (one_packed before gs behind more taken follows, more, fits, apart_packed before (concat gs) behind (some_values gs (length values) more groups) follows, groups),
      (behind, e, (goes.0.4, ends gs taken)),
    )
  where
    ends : (gs : List (List ℕ)) → AreTaken gs goes.0.0 → Follows Packed goes.0.0
    ends [] t = t
    ends (g ∷ gs) t = ends gs t.2
