-- Reading run after run, as the loop does.
use Rattle.std.proofs.Common.{◌≡◌, ◌≢◌, ℕ, zero, suc, ◌+◌, ◌-◌, ◌^◌, ◌<◌, ◌≤◌, Bool, true, false, List, [], ◌++◌, length, Result, Ok, Err, ◌==◌, if◌then◌else◌, refl, sym, ap, ◌∙◌, length-append, arith}
use Rattle.std.proofs.lemmas.List.{append-nil, nil_from_length}
use Rattle.std.proofs.lemmas.Bool.Decides.{nat_tests}
use Rattle.fd_hybrid.specs.declared.fault.HybridFault.{HybridFault}
use Rattle.fd_hybrid.specs.declared.fault.HybridFault.TheVariants.{Cut}
use Rattle.fd_hybrid.specs.declared.runs.Before.{Before}
use Rattle.fd_hybrid.specs.Unpacker.{Piece, with_front, run_at, runs_at}
use Rattle.fd_hybrid.proofs.Loops.{ok_is, regroup}
use Rattle.fd_hybrid.proofs.NextRuns.{may_within}
use Rattle.fd_hybrid.proofs.GroupLaws.{IsBytes}
use Rattle.fd_hybrid.proofs.Sequences.{runs-end, runs-more, step, not_nil}
use Rattle.fd_hybrid.proofs.AnswerLaws.{after}

-- a run that was read in the loop
pub record Taken (w left : ℕ) (before : Before) (bytes front new : List ℕ) (kind : Before) (rest : List ℕ) : Type 0 where
  pub values : List ℕ
  pub read : run_at w left before bytes ≡ Ok (values, (kind, rest))
  pub is : new ≡ front ++ values

pub taken_of : (w left : ℕ) (before : Before) (bytes front new : List ℕ) (kind : Before) (rest : List ℕ)
    → with_front front (run_at w left before bytes) ≡ Ok (new, (kind, rest)) → Taken w left before bytes front new kind rest
taken_of w left before bytes front new kind rest h = go (run_at w left before bytes) refl h
  where
    go : (r : Result Piece HybridFault) → run_at w left before bytes ≡ r → with_front front r ≡ Ok (new, (kind, rest)) → Taken w left before bytes front new kind rest
    go (Err e) read h = cc
    go (Ok x) read h =
        let e : (front ++ x.0, x.1) ≡ (new, (kind, rest)) = ok_is (front ++ x.0, x.1) (new, (kind, rest)) h in
        let behind : x.1 ≡ (kind, rest) = ap (λ (p : List ℕ × (Before × List ℕ)). p.1) e in
        record {
          values = x.0;
          read = read ∙ ap (λ (b : Before × List ℕ). let r : Result Piece HybridFault = Ok (x.0, b) in r) behind;
          is = sym (ap (λ (p : List ℕ × (Before × List ℕ)). p.0) e);
        }

pub some_rest : (bytes : List ℕ) → 0 < length bytes → bytes ≢ []
some_rest bytes some = not_nil bytes some

-- what is known after a run was read
pub after_taken : (w left : ℕ) (before : Before) (bytes front new : List ℕ) (kind : Before) (rest : List ℕ) → 0 < w → left < 2 ^ 64 → IsBytes bytes → 0 < length bytes
    → (t : Taken w left before bytes front new kind rest) → (length rest < length bytes) × (length new ≤ length front + left) × IsBytes rest
after_taken w left before bytes front new kind rest wide small fit some t =
    let a = after w left before bytes (t.values, (kind, rest)) wide small fit (some_rest bytes some) t.read in
    (a.shorter, omega (arith, ap length t.is, length-append front t.values, ap length a.values, may_within w left before a.run a.may), a.fit)

pub run_more : (most w left left' : ℕ) (before : Before) (bytes front new : List ℕ) (kind : Before) (rest : List ℕ) (total : Result (List ℕ × List ℕ) HybridFault)
    → 0 < length bytes → length bytes ≤ most → (t : Taken w left before bytes front new kind rest) → left' ≡ left - length t.values
    → with_front front (runs_at most w left before bytes) ≡ total → with_front new (runs_at (most - 1) w left' kind rest) ≡ total
run_more zero w left left' before bytes front new kind rest total some le t less h = absurd (omega arith)
run_more (suc k) w left left' before bytes front new kind rest total some le t less h =
    let fuel : suc k - 1 ≡ k = omega arith in
    ap (λ j. with_front new (runs_at j w left' kind rest)) fuel ∙ ap (λ j. with_front new (runs_at k w j kind rest)) less
    ∙ ap (λ xs. with_front xs (runs_at k w (left - length t.values) kind rest)) t.is
    ∙ sym (regroup front t.values (runs_at k w (left - length t.values) kind rest))
    ∙ ap (with_front front) (sym (runs-more k w left before bytes (some_rest bytes some) ∙ ap (step k w left) t.read)) ∙ h

pub run_refused : (most w left : ℕ) (before : Before) (bytes front : List ℕ) (total : Result (List ℕ × List ℕ) HybridFault) (e : HybridFault)
    → 0 < length bytes → length bytes ≤ most → run_at w left before bytes ≡ Err e → with_front front (runs_at most w left before bytes) ≡ total → total ≡ Err e
run_refused zero w left before bytes front total e some le read h = absurd (omega arith)
run_refused (suc k) w left before bytes front total e some le read h =
    sym h ∙ ap (with_front front) (runs-more k w left before bytes (some_rest bytes some) ∙ ap (step k w left) read)

pub ends_early : (most w left : ℕ) (before : Before) (bytes front : List ℕ) (total : Result (List ℕ × List ℕ) HybridFault)
    → length bytes ≡ 0 → 0 < left → with_front front (runs_at most w left before bytes) ≡ total → total ≡ Err Cut
ends_early most w left before bytes front total none some h =
    let test : (left == 0) ≡ false = grind (arith, nat_tests) in
    sym h ∙ ap (λ xs. with_front front (runs_at most w left before xs)) (nil_from_length bytes none) ∙ ap (with_front front) (runs-end most w left before)
    ∙ ap (λ b. with_front front (if b then Ok ([], []) else Err Cut)) test

pub ends_whole : (most w left : ℕ) (before : Before) (bytes front : List ℕ) (total : Result (List ℕ × List ℕ) HybridFault)
    → length bytes ≡ 0 → left ≡ 0 → with_front front (runs_at most w left before bytes) ≡ total → total ≡ Ok (front, [])
ends_whole most w left before bytes front total none done h =
    sym h ∙ ap (λ xs. with_front front (runs_at most w left before xs)) (nil_from_length bytes none) ∙ ap (λ k. with_front front (runs_at most w k before [])) done
    ∙ ap (with_front front) (runs-end most w 0 before) ∙ ap (λ (zs : List ℕ). let r : Result (List ℕ × List ℕ) HybridFault = Ok (zs, []) in r) (append-nil front)

pub some_there : (b : Bool) (n : ℕ) → b ≡ (n == 0) → b ≡ false → 0 < n
some_there b n is other = let e : (n == 0) ≡ false = sym is ∙ other in grind (arith, nat_tests)

pub none_there : (b : Bool) (n : ℕ) → b ≡ (n == 0) → b ≡ true → n ≡ 0
none_there b n is same = let e : (n == 0) ≡ true = sym is ∙ same in grind (arith, nat_tests)
