-- Reading one after the other, as a loop does.
use Rattle.std.proofs.Common.{◌≡◌, ℕ, suc, ◌-◌, ◌+◌, ◌≤◌, ◌<◌, List, [], ◌++◌, Result, Ok, Err, refl, sym, ap, ◌∙◌, append_assoc, arith}
use Rattle.std.proofs.lemmas.List.{append-nil}
use Rattle.fd_hybrid.specs.declared.fault.HybridFault.{HybridFault}
use Rattle.fd_hybrid.specs.declared.fault.HybridFault.TheVariants.{Cut, BadRun, OverWidth, NoMemory}
use Rattle.fd_hybrid.specs.Unpacker.{◌>>=◌, with_front, Fails, group_at, groups_at}

-- one thing is read, and then the next
abbrev pub in_turn : {A B : Type 0} → Result (List ℕ × A) HybridFault → (A → Result (List ℕ × B) HybridFault) → Result (List ℕ × B) HybridFault
in_turn first next = first >>= λ x. next x.1 >>= λ y. Ok (x.0 ++ y.0, y.1)

pub regroup : {B : Type 0} (front xs : List ℕ) (read : Result (List ℕ × B) HybridFault) → with_front front (read >>= λ y. Ok (xs ++ y.0, y.1)) ≡ with_front (front ++ xs) read
regroup {B} front xs (Ok y) = ap (λ (zs : List ℕ). let r : Result (List ℕ × B) HybridFault = Ok (zs, y.1) in r) (sym (append_assoc front xs y.0))
regroup front xs (Err e) = refl

pub ok_is : {A : Type 0} (x y : A) → (let r : Result A HybridFault = Ok x in r ≡ Ok y) → x ≡ y
ok_is {A} x y h = ap (value_of x) h
  where
    value_of : {A : Type 0} → A → Result A HybridFault → A
    value_of d (Ok x) = x
    value_of d (Err e) = d

pub then_ok : {A B : Type 0} (front front' : List ℕ) (first : Result (List ℕ × A) HybridFault) (next : A → Result (List ℕ × B) HybridFault) (rest : A)
    → with_front front first ≡ Ok (front', rest) → with_front front (in_turn first next) ≡ with_front front' (next rest)
then_ok {A} {B} front front' (Ok x) next rest h =
    let pair : (front ++ x.0, x.1) ≡ (front', rest) = ok_is (front ++ x.0, x.1) (front', rest) h in
    let e : front ++ x.0 ≡ front' = ap (λ (p : List ℕ × A). p.0) pair in
    let r : x.1 ≡ rest = ap (λ (p : List ℕ × A). p.1) pair in
    regroup front x.0 (next x.1) ∙ ap (λ zs. with_front zs (next x.1)) e ∙ ap (λ y. with_front front' (next y)) r
then_ok front front' (Err e) next rest h = cc

pub err_back : {A : Type 0} (front : List ℕ) (read : Result (List ℕ × A) HybridFault) (e : HybridFault) → with_front front read ≡ Err e → read ≡ Err e
err_back front (Ok x) e h = cc
err_back front (Err d) e h = h

pub refuses : {A B : Type 0} (e : HybridFault) (read : Result A HybridFault) (first : Result B HybridFault) → (first ≡ Err e → read ≡ Err e) → Fails e first → Fails e read
refuses Cut read first f h = f h
refuses BadRun read first f h = f h
refuses OverWidth read first f h = f h
refuses NoMemory read first f h = tt

pub groups-none : (w left : ℕ) (bytes : List ℕ) → groups_at w 0 left bytes ≡ Ok ([], bytes)
unfolding groups_at
groups-none w left bytes = refl

pub groups-more : (w m left : ℕ) (bytes : List ℕ) → groups_at w (suc m) left bytes ≡ in_turn (group_at w left bytes) (groups_at w m (left - 8))
unfolding groups_at
groups-more w m left bytes = refl

pub group_read : (w groups k left left' : ℕ) (front front' bytes rest : List ℕ) (total : Result (List ℕ × List ℕ) HybridFault) → k < groups → left' ≡ left - 8
    → with_front front (group_at w left bytes) ≡ Ok (front', rest)
    → with_front front (groups_at w (groups - k) left bytes) ≡ total → with_front front' (groups_at w (groups - (k + 1)) left' rest) ≡ total
group_read w groups k left left' front front' bytes rest total lt less read before =
    let e : groups - k ≡ suc (groups - (k + 1)) = omega arith in
    let m : ℕ = groups - (k + 1) in
    ap (λ n. with_front front' (groups_at w m n rest)) less
    ∙ sym (then_ok front front' (group_at w left bytes) (groups_at w m (left - 8)) rest read)
    ∙ ap (with_front front) (sym (groups-more w m left bytes)) ∙ ap (λ n. with_front front (groups_at w n left bytes)) (sym e) ∙ before

pub group_refused : (w groups k left : ℕ) (front old bytes : List ℕ) (e : HybridFault) (total : Result (List ℕ × List ℕ) HybridFault) → k < groups
    → group_at w left bytes ≡ Err e → with_front front (groups_at w (groups - k) left bytes) ≡ with_front old total → total ≡ Err e
group_refused w groups k left front old bytes fault total lt read before =
    let e : groups - k ≡ suc (groups - (k + 1)) = omega arith in
    let m : ℕ = groups - (k + 1) in
    let whole : groups_at w (groups - k) left bytes ≡ Err fault =
    ap (λ n. groups_at w n left bytes) e ∙ groups-more w m left bytes ∙ ap (λ r. in_turn r (groups_at w m (left - 8))) read in
    err_back old total fault (sym before ∙ ap (with_front front) whole)

pub groups_read : (w groups k left : ℕ) (front rest : List ℕ) (total : Result (List ℕ × List ℕ) HybridFault) → groups ≤ k
    → with_front front (groups_at w (groups - k) left rest) ≡ total → total ≡ Ok (front, rest)
groups_read w groups k left front rest total le before =
    let e : groups - k ≡ 0 = omega arith in
    sym before ∙ ap (λ n. with_front front (groups_at w n left rest)) e ∙ ap (with_front front) (groups-none w left rest)
    ∙ ap (λ (zs : List ℕ). let r : Result (List ℕ × List ℕ) HybridFault = Ok (zs, rest) in r) (append-nil front)
