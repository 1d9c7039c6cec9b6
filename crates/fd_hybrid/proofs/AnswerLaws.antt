-- What was answered over the whole of the bytes holds of them.
use Rattle.std.proofs.Common.{◌≡◌, ◌≢◌, ℕ, zero, suc, ◌+◌, ◌-◌, ◌^◌, ◌<◌, ◌≤◌, Bool, true, false, cond, ◌⊎◌, inl, inr, List, [], ◌∷◌, ◌++◌, length, Result, Ok, Err, ◌==◌, if◌then◌else◌, refl, sym, ap, ◌∙◌, subst, append_assoc, length-append, arith}
use Rattle.std.proofs.lemmas.Bool.Decides.{nat_tests}
use Rattle.std.proofs.lemmas.Nat.{pow_pos}
use Rattle.fd_hybrid.specs.declared.fault.HybridFault.{HybridFault}
use Rattle.fd_hybrid.specs.declared.fault.HybridFault.TheVariants.{Cut, BadRun, OverWidth}
use Rattle.fd_hybrid.specs.declared.runs.Before.{Before}
use Rattle.fd_hybrid.specs.declared.runs.Before.TheVariants.{Nothing, Repeated, Packed}
use Rattle.fd_hybrid.specs.Runs.{Run}
use Rattle.fd_hybrid.specs.Format.{IsRun, AreSpelled}
use Rattle.fd_hybrid.specs.Refusals.{IsTooWide}
use Rattle.fd_hybrid.specs.Unpacker.{◌>>=◌, Piece, run_at, runs_at}
use Rattle.fd_hybrid.proofs.DigitNumbers.{Digits}
use Rattle.fd_hybrid.proofs.Loops.{ok_is}
use Rattle.fd_hybrid.proofs.NextRuns.{May, Goes, Follows, Alive, values_of, after_of, may_within, may_alive, puts, fit_right}
use Rattle.fd_hybrid.proofs.GroupLaws.{IsBytes}
use Rattle.fd_hybrid.proofs.GroupReads.{not_ok, was_ok, fit_both}
use Rattle.fd_hybrid.proofs.GroupEnds.{err_is}
use Rattle.fd_hybrid.proofs.RunReads.{run_found, RunCompleted, run_completed, run_over}
use Rattle.fd_hybrid.proofs.Sequences.{runs-end, runs-more, runs-out, step, some_front, not_nil}
use Rattle.fd_hybrid.proofs.Continuations.{Continued, continues, may_fit, spelled_exists, some_spelled}

-- what was read in turn: a run and then the others, or a refusal
to_step : (fuel w left : ℕ) (before : Before) (bytes : List ℕ) (r : Result (List ℕ × List ℕ) HybridFault) → bytes ≢ [] → runs_at (suc fuel) w left before bytes ≡ r
    → ((e : HybridFault) × (run_at w left before bytes ≡ Err e) × (r ≡ Err e))
    ⊎ ((x : Piece) × (run_at w left before bytes ≡ Ok x) × ((runs_at fuel w (left - length x.0) x.1.0 x.1.1 >>= λ others. Ok (x.0 ++ others.0, others.1)) ≡ r))
to_step fuel w left before bytes r some h = go (run_at w left before bytes) refl (sym (runs-more fuel w left before bytes some) ∙ h)
  where
    go : (y : Result Piece HybridFault) → run_at w left before bytes ≡ y → step fuel w left y ≡ r
        → ((e : HybridFault) × (run_at w left before bytes ≡ Err e) × (r ≡ Err e))
        ⊎ ((x : Piece) × (run_at w left before bytes ≡ Ok x) × ((runs_at fuel w (left - length x.0) x.1.0 x.1.1 >>= λ others. Ok (x.0 ++ others.0, others.1)) ≡ r))
    go (Err e) read h = inl (e, read, sym h)
    go (Ok x) read h = inr (x, read, h)

others_ok : (values : List ℕ) (r : Result (List ℕ × List ℕ) HybridFault) (x : List ℕ × List ℕ) → (r >>= λ others. Ok (values ++ others.0, others.1)) ≡ Ok x
    → (y : List ℕ × List ℕ) × (r ≡ Ok y) × (x.0 ≡ values ++ y.0)
others_ok values (Err e) x h = absurd (not_ok e x h)
others_ok values (Ok y) x h =
    let e : (values ++ y.0, y.1) ≡ x = ok_is (values ++ y.0, y.1) x h in
    (y, refl, sym (ap (λ (p : List ℕ × List ℕ). p.0) e))

others_err : (values : List ℕ) (r : Result (List ℕ × List ℕ) HybridFault) (e : HybridFault) → ◌>>=◌ {B = List ℕ × List ℕ} r (λ others. Ok (values ++ others.0, others.1)) ≡ Err e → r ≡ Err e
others_err values (Err d) e h = ap (λ (x : HybridFault). Err x) (err_is d e h)
others_err values (Ok y) e h = absurd (was_ok e (values ++ y.0, y.1) h)

none_or_some : (xs : List ℕ) → (xs ≡ []) ⊎ (xs ≢ [])
none_or_some [] = inl refl
none_or_some (x ∷ xs) = inr (λ e. cc)

-- the values that were read, and their spelling
pub record Found (w left : ℕ) (before : Before) (bytes values : List ℕ) : Type 0 where
  pub runs : List Run
  pub goes : Goes before runs values
  pub count : length values ≡ left
  pub fit : Digits w values
  pub spelled : AreSpelled w runs bytes

-- what follows a run that was read
pub record After (w left : ℕ) (before : Before) (bytes : List ℕ) (x : Piece) : Type 0 where
  pub run : Run
  pub front : List ℕ
  pub is : IsRun w front run
  pub may : May w left before run
  pub values : x.0 ≡ values_of run
  pub kind : x.1.0 ≡ after_of run
  pub spelled : bytes ≡ front ++ x.1.1
  pub fit : IsBytes x.1.1
  pub shorter : length x.1.1 < length bytes
  pub below : left - length x.0 < 2 ^ 64

pub after : (w left : ℕ) (before : Before) (bytes : List ℕ) (x : Piece) → 0 < w → left < 2 ^ 64 → IsBytes bytes → bytes ≢ [] → run_at w left before bytes ≡ Ok x → After w left before bytes x
after w left before bytes x wide small fit some h =
    let r = run_found w left before bytes x wide small fit some h in
    record {
      run = r.run;
      front = r.front;
      is = r.is;
      may = r.may;
      values = r.values;
      kind = r.after;
      spelled = r.spelled;
      fit = fit_right 8 r.front x.1.1 (subst (λ (xs : List ℕ). IsBytes xs) r.spelled fit);
      shorter = omega (arith, some_front w r.front r.run r.is, ap length r.spelled, length-append r.front x.1.1);
      below = omega arith;
    }

nothing_read : (w left : ℕ) (before : Before) (x : List ℕ × List ℕ) → (if left == 0 then Ok ([], []) else Err Cut) ≡ Ok x → Found w left before [] x.0
nothing_read w left before x h = go (left == 0) refl h
  where
    zero_of : (left == 0) ≡ true → left ≡ 0
    zero_of e = grind (arith, nat_tests)

    follows : (before : Before) → Follows before []
    follows Nothing = tt
    follows (Repeated u) = refl
    follows Packed = inl refl

    go : (b : Bool) → (left == 0) ≡ b → cond b (Ok ([], [])) (Err Cut) ≡ Ok x → Found w left before [] x.0
    go false e h = absurd (not_ok Cut x h)
    go true e h =
        let same : ([], []) ≡ x = ok_is ([], []) x h in
        let none : [] ≡ x.0 = ap (λ (p : List ℕ × List ℕ). p.0) same in
        let none_left : left ≡ 0 = zero_of e in
        record {
          runs = [];
          goes = (sym none, subst (λ (xs : List ℕ). Follows before xs) none (follows before));
          count = sym (ap length none) ∙ sym none_left;
          fit = subst (λ (xs : List ℕ). Digits w xs) none (λ i. pow_pos w);
          spelled = refl;
        }

-- What was read is spelled so.
pub found : (fuel w left : ℕ) (before : Before) (bytes : List ℕ) (x : List ℕ × List ℕ) → 0 < w → left < 2 ^ 64 → IsBytes bytes → runs_at fuel w left before bytes ≡ Ok x → Found w left before bytes x.0
found fuel w left before [] x wide small fit h = nothing_read w left before x (sym (runs-end fuel w left before) ∙ h)
found zero w left before (b ∷ bs) x wide small fit h = absurd (not_ok BadRun x (sym (runs-out w left before (b ∷ bs) (λ e. cc)) ∙ h))
found (suc fuel) w left before (b ∷ bs) x wide small fit h =
    elim (to_step fuel w left before (b ∷ bs) (Ok x) (λ e. cc) h) [
      | inl p ↦ absurd (was_ok p.0 x p.2)
      | inr p ↦
          let a = after w left before (b ∷ bs) p.0 wide small fit (λ e. cc) p.1 in
          let o = others_ok p.0.0 (runs_at fuel w (left - length p.0.0) p.0.1.0 p.0.1.1) x p.2 in
          let rest : Found w (left - length p.0.0) p.0.1.0 p.0.1.1 o.0.0 = found fuel w (left - length p.0.0) p.0.1.0 p.0.1.1 o.0 wide a.below a.fit o.1 in
          let size : length p.0.0 ≡ length (values_of a.run) = ap length a.values in
          let goes : Goes (after_of a.run) rest.runs o.0.0 = subst (λ (k : Before). Goes k rest.runs o.0.0) a.kind rest.goes in
          let whole : x.0 ≡ values_of a.run ++ o.0.0 = o.2 ∙ ap (λ xs. xs ++ o.0.0) a.values in
          let sum : length (values_of a.run) + length o.0.0 ≡ left = omega (arith, rest.count, may_within w left before a.run a.may) in
          record {
            runs = a.run ∷ rest.runs;
            goes = subst (λ (xs : List ℕ). Goes before (a.run ∷ rest.runs) xs) (sym whole) (puts w left before a.run rest.runs o.0.0 a.may goes sum);
            count = ap length whole ∙ length-append (values_of a.run) o.0.0 ∙ sum;
            fit = subst (λ (xs : List ℕ). Digits w xs) (sym whole) (fit_both w (values_of a.run) o.0.0 (may_fit w left before a.run a.may) rest.fit);
            spelled = (a.front, p.0.1.1, a.spelled, a.is, rest.spelled);
          }
    ]

-- what more bytes would make of them
pub record FoundCut (w left : ℕ) (before : Before) (bytes : List ℕ) : Type 0 where
  pub values : List ℕ
  pub more : List ℕ
  pub some : more ≢ []
  pub whole : Found w left before (bytes ++ more) values

alive_after : (w left : ℕ) (before : Before) (bytes : List ℕ) (x : Piece) → After w left before bytes x → Alive x.1.0 (left - length x.0)
alive_after w left before bytes x a =
    let all : Alive (after_of a.run) (left - length (values_of a.run)) = may_alive w left before a.run a.may in
    subst (λ (k : Before). Alive k (left - length x.0)) (sym a.kind) (subst (λ (xs : List ℕ). Alive (after_of a.run) (left - length xs)) (sym a.values) all)

-- a run before what was found
before_found : (w left : ℕ) (before : Before) (run : Run) (front rest values : List ℕ) → May w left before run → IsRun w front run
    → Found w (left - length (values_of run)) (after_of run) rest values → Found w left before (front ++ rest) (values_of run ++ values)
before_found w left before run front rest values may is f =
    let within : length (values_of run) ≤ left = may_within w left before run may in
    record {
      runs = run ∷ f.runs;
      goes = puts w left before run f.runs values may f.goes (omega (arith, f.count));
      count = length-append (values_of run) values ∙ omega (arith, f.count);
      fit = fit_both w (values_of run) values (may_fit w left before run may) f.fit;
      spelled = (front, rest, refl, is, f.spelled);
    }

-- as many values as are left, and their bytes
fresh : (w left : ℕ) (before : Before) → Continued w left before → (bytes : List ℕ) × (values : List ℕ) × Found w left before bytes values
fresh w left before c = let t = spelled_exists w c.runs in (t.0, c.values, record { runs = c.runs; goes = c.goes; count = c.count; fit = c.fit; spelled = t.1 })

ended : (w left : ℕ) (before : Before) → 0 < w → Alive before left → 0 < left → FoundCut w left before []
ended w left before wide alive some =
    let c = continues w left before wide alive in
    let t = spelled_exists w c.runs in
    record {
      values = c.values;
      more = t.0;
      some = not_nil t.0 (some_spelled w c.runs c.values t.0 c.goes.0 (omega (arith, c.count)) t.1);
      whole = record { runs = c.runs; goes = c.goes; count = c.count; fit = c.fit; spelled = t.1 };
    }

longer_some : (xs ys : List ℕ) → xs ≢ [] → xs ++ ys ≢ []
longer_some [] ys some = absurd (some refl)
longer_some (x ∷ xs) ys some = λ e. cc

-- a run that ends early, and values behind it
in_run : (w left : ℕ) (before : Before) (bytes : List ℕ) → 0 < w → RunCompleted w left before bytes → FoundCut w left before bytes
in_run w left before bytes wide r =
    let f = fresh w (left - length (values_of r.run)) (after_of r.run) (continues w (left - length (values_of r.run)) (after_of r.run) wide (may_alive w left before r.run r.may)) in
    let whole : Found w left before ((bytes ++ r.more) ++ f.0) (values_of r.run ++ f.1) = before_found w left before r.run (bytes ++ r.more) f.0 f.1 r.may r.is f.2 in
    record {
      values = values_of r.run ++ f.1;
      more = r.more ++ f.0;
      some = longer_some r.more f.0 r.some;
      whole = subst (λ (xs : List ℕ). Found w left before xs (values_of r.run ++ f.1)) (append_assoc bytes r.more f.0) whole;
    }

nothing_cut : (left : ℕ) → (let r : Result (List ℕ × List ℕ) HybridFault = if left == 0 then Ok ([], []) else Err Cut in r ≡ Err Cut) → 0 < left
nothing_cut zero h = absurd (was_ok Cut ([], []) h)
nothing_cut (suc left) h = omega arith

-- What is cut begins a spelling.
pub found_cut : (fuel w left : ℕ) (before : Before) (bytes : List ℕ) → 0 < w → left < 2 ^ 64 → IsBytes bytes → Alive before left → runs_at fuel w left before bytes ≡ Err Cut → FoundCut w left before bytes
found_cut fuel w left before [] wide small fit alive h = ended w left before wide alive (nothing_cut left (sym (runs-end fuel w left before) ∙ h))
found_cut zero w left before (b ∷ bs) wide small fit alive h = let e : BadRun ≡ Cut = err_is BadRun Cut (sym (runs-out w left before (b ∷ bs) (λ e. cc)) ∙ h) in cc
found_cut (suc fuel) w left before (b ∷ bs) wide small fit alive h =
    elim (to_step fuel w left before (b ∷ bs) (Err Cut) (λ e. cc) h) [
      | inl p ↦
          let cut : p.0 ≡ Cut = sym (err_is Cut p.0 p.2) in
          let read : run_at w left before (b ∷ bs) ≡ Err Cut = p.1 ∙ ap (λ (x : HybridFault). Err x) cut in
          in_run w left before (b ∷ bs) wide (run_completed w left before (b ∷ bs) wide small fit (λ e. cc) read)
      | inr p ↦
          let a = after w left before (b ∷ bs) p.0 wide small fit (λ e. cc) p.1 in
          let rest : FoundCut w (left - length p.0.0) p.0.1.0 p.0.1.1 =
          found_cut fuel w (left - length p.0.0) p.0.1.0 p.0.1.1 wide a.below a.fit (alive_after w left before (b ∷ bs) p.0 a)
          (others_err p.0.0 (runs_at fuel w (left - length p.0.0) p.0.1.0 p.0.1.1) Cut p.2) in
          let there : Found w (left - length (values_of a.run)) (after_of a.run) (p.0.1.1 ++ rest.more) rest.values =
          subst (λ (k : Before). Found w (left - length (values_of a.run)) k (p.0.1.1 ++ rest.more) rest.values) a.kind
          (subst (λ (xs : List ℕ). Found w (left - length xs) p.0.1.0 (p.0.1.1 ++ rest.more) rest.values) a.values rest.whole) in
          let all : Found w left before (a.front ++ (p.0.1.1 ++ rest.more)) (values_of a.run ++ rest.values) = before_found w left before a.run a.front (p.0.1.1 ++ rest.more) rest.values a.may a.is there in
          let same : a.front ++ (p.0.1.1 ++ rest.more) ≡ (b ∷ bs) ++ rest.more = sym (append_assoc a.front p.0.1.1 rest.more) ∙ ap (λ xs. xs ++ rest.more) (sym a.spelled) in
          record {
            values = values_of a.run ++ rest.values;
            more = rest.more;
            some = rest.some;
            whole = subst (λ (xs : List ℕ). Found w left before xs (values_of a.run ++ rest.values)) same all;
          }
    ]

-- whole runs, and then a value that is too wide
pub record FoundOver (w left : ℕ) (before : Before) (bytes : List ℕ) : Type 0 where
  pub values : List ℕ
  pub first : List Run
  pub later : List Run
  pub front : List ℕ
  pub run : List ℕ
  pub more : List ℕ
  pub goes : Goes before (first ++ later) values
  pub count : length values ≡ left
  pub fit : Digits w values
  pub spelled : AreSpelled w first front
  pub wide : IsTooWide w run
  pub are : bytes ≡ front ++ (run ++ more)

nothing_over : (left : ℕ) → (let r : Result (List ℕ × List ℕ) HybridFault = if left == 0 then Ok ([], []) else Err Cut in r ≡ Err OverWidth) → ⊥
nothing_over left h = go (left == 0) h
  where
    go : (b : Bool) → (let r : Result (List ℕ × List ℕ) HybridFault = cond b (Ok ([], [])) (Err Cut) in r ≡ Err OverWidth) → ⊥
    go true h = was_ok OverWidth ([], []) h
    go false h = let e : Cut ≡ OverWidth = err_is Cut OverWidth h in cc

-- What is told to be too wide stands behind whole runs.
pub found_over : (fuel w left : ℕ) (before : Before) (bytes : List ℕ) → 0 < w → left < 2 ^ 64 → IsBytes bytes → Alive before left → runs_at fuel w left before bytes ≡ Err OverWidth → FoundOver w left before bytes
found_over fuel w left before [] wide small fit alive h = absurd (nothing_over left (sym (runs-end fuel w left before) ∙ h))
found_over zero w left before (b ∷ bs) wide small fit alive h = let e : BadRun ≡ OverWidth = err_is BadRun OverWidth (sym (runs-out w left before (b ∷ bs) (λ e. cc)) ∙ h) in cc
found_over (suc fuel) w left before (b ∷ bs) wide small fit alive h =
    elim (to_step fuel w left before (b ∷ bs) (Err OverWidth) (λ e. cc) h) [
      | inl p ↦
          let over : p.0 ≡ OverWidth = sym (err_is OverWidth p.0 p.2) in
          let read : run_at w left before (b ∷ bs) ≡ Err OverWidth = p.1 ∙ ap (λ (x : HybridFault). Err x) over in
          let o = run_over w left before (b ∷ bs) wide fit (λ e. cc) read in
          let c = continues w left before wide alive in
          record {
            values = c.values;
            first = [];
            later = c.runs;
            front = [];
            run = o.run;
            more = o.more;
            goes = c.goes;
            count = c.count;
            fit = c.fit;
            spelled = refl;
            wide = o.is;
            are = o.spelled;
          }
      | inr p ↦
          let a = after w left before (b ∷ bs) p.0 wide small fit (λ e. cc) p.1 in
          let rest : FoundOver w (left - length p.0.0) p.0.1.0 p.0.1.1 =
          found_over fuel w (left - length p.0.0) p.0.1.0 p.0.1.1 wide a.below a.fit (alive_after w left before (b ∷ bs) p.0 a)
          (others_err p.0.0 (runs_at fuel w (left - length p.0.0) p.0.1.0 p.0.1.1) OverWidth p.2) in
          let goes : Goes (after_of a.run) (rest.first ++ rest.later) rest.values = subst (λ (k : Before). Goes k (rest.first ++ rest.later) rest.values) a.kind rest.goes in
          let size : length p.0.0 ≡ length (values_of a.run) = ap length a.values in
          let sum : length (values_of a.run) + length rest.values ≡ left = omega (arith, rest.count, may_within w left before a.run a.may) in
          record {
            values = values_of a.run ++ rest.values;
            first = a.run ∷ rest.first;
            later = rest.later;
            front = a.front ++ rest.front;
            run = rest.run;
            more = rest.more;
            goes = puts w left before a.run (rest.first ++ rest.later) rest.values a.may goes sum;
            count = length-append (values_of a.run) rest.values ∙ sum;
            fit = fit_both w (values_of a.run) rest.values (may_fit w left before a.run a.may) rest.fit;
            spelled = (a.front, rest.front, refl, a.is, rest.spelled);
            wide = rest.wide;
            are = a.spelled ∙ ap (λ xs. a.front ++ xs) rest.are ∙ sym (append_assoc a.front rest.front (rest.run ++ rest.more));
          }
    ]
