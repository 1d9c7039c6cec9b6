-- Runs after runs: what is read, what is cut and what is too wide, over the whole of the bytes.
use Rattle.std.proofs.Common.{◌≡◌, ◌≢◌, ℕ, zero, suc, ◌+◌, ◌-◌, ◌*◌, ◌^◌, ◌<◌, ◌≤◌, false, inl, inr, List, [], ◌∷◌, ◌++◌, length, Result, Ok, Err, ◌==◌, if◌then◌else◌, refl, sym, ap, ◌∙◌, subst, append_assoc, length-append, arith}
use Rattle.std.proofs.lemmas.Bool.Decides.{nat_tests}
use Rattle.std.proofs.lemmas.Nat.{pow_pos}
use Rattle.fd_hybrid.specs.declared.fault.HybridFault.{HybridFault}
use Rattle.fd_hybrid.specs.declared.fault.HybridFault.TheVariants.{Cut, BadRun, OverWidth}
use Rattle.fd_hybrid.specs.declared.runs.Before.{Before}
use Rattle.fd_hybrid.specs.Digits.{digits}
use Rattle.fd_hybrid.specs.Runs.{Run}
use Rattle.fd_hybrid.specs.Format.{IsVarint, byte_count, IsRun, AreSpelled}
use Rattle.fd_hybrid.specs.Refusals.{IsTooWide}
use Rattle.fd_hybrid.specs.Unpacker.{◌>>=◌, Piece, run_at, runs_at}
use Rattle.fd_hybrid.proofs.DigitNumbers.{Digits}
use Rattle.fd_hybrid.proofs.NextRuns.{May, Goes, values_of, after_of, may_within, some_of, takes, fit_right}
use Rattle.fd_hybrid.proofs.GroupLaws.{split, not_empty}
use Rattle.fd_hybrid.proofs.OneRun.{run_ok, run_parts, header_of, content_of}
use Rattle.fd_hybrid.proofs.RunEnds.{run_cut, run_over_only}

pub runs-end : (fuel w left : ℕ) (before : Before) → runs_at fuel w left before [] ≡ (if left == 0 then Ok ([], []) else Err Cut)
unfolding runs_at
runs-end fuel w left before = refl

-- one run is read, and then the others
abbrev pub step : ℕ → ℕ → ℕ → Result Piece HybridFault → Result (List ℕ × List ℕ) HybridFault
step fuel w left read = read >>= λ run. runs_at fuel w (left - length run.0) run.1.0 run.1.1 >>= λ others. Ok (run.0 ++ others.0, others.1)

pub runs-more : (fuel w left : ℕ) (before : Before) (bytes : List ℕ) → bytes ≢ [] → runs_at (suc fuel) w left before bytes ≡ step fuel w left (run_at w left before bytes)
unfolding runs_at
runs-more fuel w left before [] some = absurd (some refl)
runs-more fuel w left before (b ∷ bs) some = refl

pub runs-out : (w left : ℕ) (before : Before) (bytes : List ℕ) → bytes ≢ [] → runs_at 0 w left before bytes ≡ Err BadRun
unfolding runs_at
runs-out w left before [] some = absurd (some refl)
runs-out w left before (b ∷ bs) some = refl

some_header : (n : ℕ) (header : List ℕ) → IsVarint header n → 0 < length header
some_header n [] h = absurd h
some_header n (b ∷ bs) h = omega arith

-- the bytes of a run are some
pub some_front : (w : ℕ) (front : List ℕ) (run : Run) → IsRun w front run → 0 < length front
some_front w front run is =
    let p = run_parts w front run is in
    omega (arith, ap length p.2, length-append p.0 (content_of w run), some_header (header_of run) p.0 p.1)

pub not_nil : (xs : List ℕ) → 0 < length xs → xs ≢ []
not_nil [] some = absurd (omega arith)
not_nil (x ∷ xs) some = λ e. cc

positive_test : (n : ℕ) → 0 < n → (n == 0) ≡ false
positive_test n h = grind (arith, nat_tests)

some_run : (w : ℕ) (run : List ℕ) → IsTooWide w run → 0 < length run
some_run w run (header, n, v, is, wide, fits, e) = omega (arith, ap length e, length-append header (digits 8 (byte_count w) v), some_header (2 * n) header is)

-- one run was read: what is left to read
pub step_ok : (fuel w left : ℕ) (before : Before) (run : Run) (front rest bytes : List ℕ) → 0 < w → left < 2 ^ 64 → May w left before run → IsRun w front run → bytes ≡ front ++ rest
    → runs_at (suc fuel) w left before bytes ≡ (runs_at fuel w (left - length (values_of run)) (after_of run) rest >>= λ others. Ok (values_of run ++ others.0, others.1))
step_ok fuel w left before run front rest bytes wide small may is e =
    let some : 0 < length front = some_front w front run is in
    let begun : bytes ≢ [] = not_nil bytes (omega (arith, ap length e, length-append front rest)) in
    let read : run_at w left before bytes ≡ Ok (values_of run, (after_of run, rest)) = ap (run_at w left before) e ∙ run_ok w left before run front rest wide small may is in
    runs-more fuel w left before bytes begun ∙ ap (step fuel w left) read

-- What is spelled so is read.
pub only_read : (fuel w left : ℕ) (before : Before) (runs : List Run) (values bytes : List ℕ) → 0 < w → left < 2 ^ 64 → Digits w values → Goes before runs values → length values ≡ left
    → AreSpelled w runs bytes → length bytes ≤ fuel → runs_at fuel w left before bytes ≡ Ok (values, [])
only_read fuel w left before [] values bytes wide small fit goes count spelled le =
    let none : left ≡ 0 = omega (arith, ap length goes.0) in
    ap (runs_at fuel w left before) spelled ∙ runs-end fuel w left before ∙ ap (λ k. if k == 0 then Ok ([], []) else Err Cut) none ∙ ap (λ xs. Ok (xs, [])) (sym goes.0)
only_read zero w left before (r ∷ rs) values bytes wide small fit goes count (front, rest, e, is, more) le =
    absurd (omega (arith, some_front w front r is, ap length e, length-append front rest))
only_read (suc fuel) w left before (r ∷ rs) values bytes wide small fit goes count (front, rest, e, is, more) le =
    let t = takes w before r rs values (pow_pos w) fit goes in
    let behind : List ℕ = t.1.0 in
    let may : May w left before r = subst (λ (n : ℕ). May w n before r) count t.0 in
    let sum : length (values_of r) + length behind ≡ left = sym (length-append (values_of r) behind) ∙ ap length (sym t.1.1) ∙ count in
    let next : length behind ≡ left - length (values_of r) = omega arith in
    let behind_fit : Digits w behind = fit_right w (values_of r) behind (subst (λ (xs : List ℕ). Digits w xs) t.1.1 fit) in
    let shorter : length rest ≤ fuel = omega (arith, some_front w front r is, ap length e, length-append front rest) in
    let below : left - length (values_of r) < 2 ^ 64 = omega arith in
    step_ok fuel w left before r front rest bytes wide small may is e
    ∙ ap (λ r'. r' >>= λ others. Ok (values_of r ++ others.0, others.1)) (only_read fuel w (left - length (values_of r)) (after_of r) rs behind rest wide below behind_fit t.1.2 next more shorter)
    ∙ ap (λ xs. Ok (xs, [])) (sym t.1.1)

-- What begins a spelling, and is not all of it, is cut.
pub only_cut : (fuel w left : ℕ) (before : Before) (runs : List Run) (values bytes y : List ℕ) → 0 < w → left < 2 ^ 64 → Digits w values → Goes before runs values → length values ≡ left
    → y ≢ [] → AreSpelled w runs (bytes ++ y) → length bytes ≤ fuel → runs_at fuel w left before bytes ≡ Err Cut
only_cut fuel w left before [] values bytes y wide small fit goes count more spelled le =
    absurd (omega (arith, ap length spelled, length-append bytes y, not_empty y more))
only_cut fuel w left before (r ∷ rs) values bytes y wide small fit goes count more (front, rest, e, is, others) le =
    let t = takes w before r rs values (pow_pos w) fit goes in
    let may : May w left before r = subst (λ (n : ℕ). May w n before r) count t.0 in
    elim (split bytes y front rest e) [
      | inl p ↦ whole fuel le t.1 may p.0 p.1 p.2 (λ k. only_cut k w (left - length (values_of r)) (after_of r) rs)
      | inr p ↦ short fuel le may bytes refl p.0 p.1 p.2
    ]
  where
    whole : (fuel : ℕ) → length bytes ≤ fuel → (b : (behind : List ℕ) × (values ≡ values_of r ++ behind) × Goes (after_of r) rs behind) → May w left before r
        → (x : List ℕ) → bytes ≡ front ++ x → x ++ y ≡ rest
        → ((k : ℕ) (values bytes y : List ℕ) → 0 < w → left - length (values_of r) < 2 ^ 64 → Digits w values → Goes (after_of r) rs values → length values ≡ left - length (values_of r)
        → y ≢ [] → AreSpelled w rs (bytes ++ y) → length bytes ≤ k → runs_at k w (left - length (values_of r)) (after_of r) bytes ≡ Err Cut)
        → runs_at fuel w left before bytes ≡ Err Cut
    whole zero le b may x f g again = absurd (omega (arith, some_front w front r is, ap length f, length-append front x))
    whole (suc k) le b may x f g again =
        let behind : List ℕ = b.0 in
        let sum : length (values_of r) + length behind ≡ left = sym (length-append (values_of r) behind) ∙ ap length (sym b.1) ∙ count in
        let behind_fit : Digits w behind = fit_right w (values_of r) behind (subst (λ (xs : List ℕ). Digits w xs) b.1 fit) in
        let spelled : AreSpelled w rs (x ++ y) = subst (λ (xs : List ℕ). AreSpelled w rs xs) (sym g) others in
        let shorter : length x ≤ k = omega (arith, some_front w front r is, ap length f, length-append front x) in
        step_ok k w left before r front x bytes wide small may is f
        ∙ ap (λ r'. r' >>= λ others. Ok (values_of r ++ others.0, others.1)) (again k behind x y wide (omega arith) behind_fit b.2 (omega arith) more spelled shorter)

    short : (fuel : ℕ) → length bytes ≤ fuel → May w left before r → (xs : List ℕ) → bytes ≡ xs → (z : List ℕ) → z ≢ [] → front ≡ bytes ++ z → runs_at fuel w left before bytes ≡ Err Cut
    short fuel le may [] f z some g =
        let left_some : 0 < left = omega (arith, some_of w left before r may, may_within w left before r may) in
        ap (runs_at fuel w left before) f ∙ runs-end fuel w left before ∙ ap (λ b. if b then Ok ([], []) else Err Cut) (positive_test left left_some)
    short zero le may (x ∷ xs) f z some g = absurd (omega (arith, ap length f))
    short (suc k) le may (x ∷ xs) f z some g =
        let begun : bytes ≢ [] = not_nil bytes (omega (arith, ap length f)) in
        runs-more k w left before bytes begun ∙ ap (step k w left) (run_cut w left before r front bytes z wide small may is g begun some)

-- Where a too wide value stands behind whole runs, it is told.
pub only_over : (fuel w left : ℕ) (before : Before) (first later : List Run) (values bytes front run more : List ℕ) → 0 < w → left < 2 ^ 64 → Digits w values
    → Goes before (first ++ later) values → length values ≡ left → AreSpelled w first front → IsTooWide w run → bytes ≡ front ++ (run ++ more) → length bytes ≤ fuel
    → runs_at fuel w left before bytes ≡ Err OverWidth
only_over zero w left before [] later values bytes front run more wide small fit goes count spelled over e le =
    absurd (omega (arith, some_run w run over, ap length e, length-append front (run ++ more), length-append run more))
only_over (suc fuel) w left before [] later values bytes front run more wide small fit goes count spelled over e le =
    let same : bytes ≡ run ++ more = e ∙ ap (λ xs. xs ++ (run ++ more)) spelled in
    let begun : bytes ≢ [] = not_nil bytes (omega (arith, some_run w run over, ap length same, length-append run more)) in
    runs-more fuel w left before bytes begun ∙ ap (step fuel w left) (ap (run_at w left before) same ∙ run_over_only w left before run more over)
only_over zero w left before (r ∷ rs) later values bytes front run more wide small fit goes count (f, g, s, is, others) over e le =
    absurd (omega (arith, some_front w f r is, ap length s, ap length e, length-append f g, length-append front (run ++ more)))
only_over (suc fuel) w left before (r ∷ rs) later values bytes front run more wide small fit goes count (f, g, s, is, others) over e le =
    let t = takes w before r (rs ++ later) values (pow_pos w) fit goes in
    let behind : List ℕ = t.1.0 in
    let may : May w left before r = subst (λ (n : ℕ). May w n before r) count t.0 in
    let sum : length (values_of r) + length behind ≡ left = sym (length-append (values_of r) behind) ∙ ap length (sym t.1.1) ∙ count in
    let behind_fit : Digits w behind = fit_right w (values_of r) behind (subst (λ (xs : List ℕ). Digits w xs) t.1.1 fit) in
    let rest : List ℕ = g ++ (run ++ more) in
    let same : bytes ≡ f ++ rest = e ∙ ap (λ xs. xs ++ (run ++ more)) s ∙ append_assoc f g (run ++ more) in
    let shorter : length rest ≤ fuel = omega (arith, some_front w f r is, ap length same, length-append f rest) in
    let below : left - length (values_of r) < 2 ^ 64 = omega arith in
    let next : length behind ≡ left - length (values_of r) = omega arith in
    step_ok fuel w left before r f rest bytes wide small may is same
    ∙ ap (λ r'. r' >>= λ others. Ok (values_of r ++ others.0, others.1))
    (only_over fuel w (left - length (values_of r)) (after_of r) rs later behind rest g run more wide below behind_fit t.1.2 next others over refl shorter)
