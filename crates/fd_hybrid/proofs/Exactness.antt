-- Each answer has its condition, and each condition its answer.
use Rattle.std.proofs.Common.{◌≡◌, ℕ, zero, suc, ◌^◌, ◌<◌, List, [], ◌∷◌, ◌++◌, length, Result, Ok, Err, IfOk, refl, sym, ap, ◌∙◌, arith}
use Rattle.std.specs.Result.{IsErrOf}
use Rattle.std.proofs.lemmas.Nat.{pow_pos}
use Rattle.fd_hybrid.specs.declared.fault.HybridFault.{HybridFault}
use Rattle.fd_hybrid.specs.declared.fault.HybridFault.TheVariants.{Cut, BadRun, OverWidth, NoMemory}
use Rattle.fd_hybrid.specs.declared.runs.Before.TheVariants.{Nothing}
use Rattle.fd_hybrid.specs.Format.{Fit}
use Rattle.fd_hybrid.specs.Refusals.{Spells, IsCut, IsOverWidth, IsBad, Gives}
use Rattle.fd_hybrid.specs.Unpacker.{runs_at, DecodesAllOrRunsOut}
use Rattle.fd_hybrid.proofs.DigitNumbers.{Digits}
use Rattle.fd_hybrid.proofs.GroupLaws.{IsBytes}
use Rattle.fd_hybrid.proofs.GroupReads.{not_ok, was_ok}
use Rattle.fd_hybrid.proofs.GroupEnds.{err_is}
use Rattle.fd_hybrid.proofs.Loops.{ok_is}
use Rattle.fd_hybrid.proofs.Sequences.{only_read, only_cut, only_over}
use Rattle.fd_hybrid.proofs.AnswerLaws.{Found, found, found_cut, found_over}

pub fit_digits : (w : ℕ) (values : List ℕ) → Fit w values → Digits w values
fit_digits w [] fit i = pow_pos w
fit_digits w (v ∷ vs) fit zero = fit 0 0 (omega arith)
fit_digits w (v ∷ vs) fit (suc i) = fit_digits w vs (λ k d lt. fit (suc k) d (omega arith)) i

pub digits_fit : (w : ℕ) (values : List ℕ) → Digits w values → Fit w values
digits_fit w [] fit k d lt = absurd (omega arith)
digits_fit w (v ∷ vs) fit zero d lt = fit 0
digits_fit w (v ∷ vs) fit (suc k) d lt = digits_fit w vs (λ i. fit (suc i)) k d (omega arith)

-- what all of the bytes are read as
abbrev pub whole : ℕ → ℕ → List ℕ → Result (List ℕ × List ℕ) HybridFault
whole w count bytes = runs_at (length bytes) w count Nothing bytes

spells_of : (w count : ℕ) (bytes values : List ℕ) → Found w count Nothing bytes values → Spells w count bytes values
spells_of w count bytes values f = ((f.count, digits_fit w values f.fit), (f.runs, f.goes.0, f.spelled))

read_of : (w count : ℕ) (bytes values : List ℕ) → 0 < w → count < 2 ^ 64 → Spells w count bytes values → whole w count bytes ≡ Ok (values, [])
read_of w count bytes values wide small s =
    only_read (length bytes) w count Nothing s.1.0 values bytes wide small (fit_digits w values s.0.1) (s.1.1, tt) s.0.0 s.1.2 (omega arith)

cut_of : (w count : ℕ) (bytes : List ℕ) → 0 < w → count < 2 ^ 64 → IsCut w count bytes → whole w count bytes ≡ Err Cut
cut_of w count bytes wide small (values, more, some, s) =
    only_cut (length bytes) w count Nothing s.1.0 values bytes more wide small (fit_digits w values s.0.1) (s.1.1, tt) s.0.0 some s.1.2 (omega arith)

over_of : (w count : ℕ) (bytes : List ℕ) → 0 < w → count < 2 ^ 64 → IsOverWidth w count bytes → whole w count bytes ≡ Err OverWidth
over_of w count bytes wide small (values, are, first, later, runs, front, run, more, spelled, over, e) =
    only_over (length bytes) w count Nothing first later values bytes front run more wide small (fit_digits w values are.1) (runs, tt) are.0 spelled over e (omega arith)

gives_ok : (r : Result (List ℕ) HybridFault) (read : Result (List ℕ × List ℕ) HybridFault) (values : List ℕ) → DecodesAllOrRunsOut r read → read ≡ Ok (values, []) → Gives r (Ok values)
gives_ok (Ok vs) read values h e =
    let same : (vs, []) ≡ (values, []) = ok_is (vs, []) (values, []) (sym h ∙ e) in
    ap (λ (p : List ℕ × List ℕ). let r : Result (List ℕ) HybridFault = Ok p.0 in r) same
gives_ok (Err Cut) read values h e = absurd (not_ok Cut (values, []) (sym h ∙ e))
gives_ok (Err BadRun) read values h e = absurd (not_ok BadRun (values, []) (sym h ∙ e))
gives_ok (Err OverWidth) read values h e = absurd (not_ok OverWidth (values, []) (sym h ∙ e))
gives_ok (Err NoMemory) read values h e = tt

gives_err : (r : Result (List ℕ) HybridFault) (read : Result (List ℕ × List ℕ) HybridFault) (fault : HybridFault) → DecodesAllOrRunsOut r read → read ≡ Err fault → Gives r (Err fault)
gives_err (Ok vs) read fault h e = absurd (was_ok fault (vs, []) (sym h ∙ e))
gives_err (Err Cut) read fault h e = ap (λ (x : HybridFault). Err x) (err_is Cut fault (sym h ∙ e))
gives_err (Err BadRun) read fault h e = ap (λ (x : HybridFault). Err x) (err_is BadRun fault (sym h ∙ e))
gives_err (Err OverWidth) read fault h e = ap (λ (x : HybridFault). Err x) (err_is OverWidth fault (sym h ∙ e))
gives_err (Err NoMemory) read fault h e = tt

-- a fault other than want of memory is what was read
told : (r : Result (List ℕ) HybridFault) (read : Result (List ℕ × List ℕ) HybridFault) (fault : HybridFault) → (fault ≡ NoMemory → ⊥) → DecodesAllOrRunsOut r read → IsErrOf r fault → read ≡ Err fault
told (Ok vs) read fault known h e = absurd (was_ok fault vs e)
told (Err Cut) read fault known h e = h ∙ ap (λ (x : HybridFault). Err x) (err_is Cut fault e)
told (Err BadRun) read fault known h e = h ∙ ap (λ (x : HybridFault). Err x) (err_is BadRun fault e)
told (Err OverWidth) read fault known h e = h ∙ ap (λ (x : HybridFault). Err x) (err_is OverWidth fault e)
told (Err NoMemory) read fault known h e = absurd (known (sym (err_is NoMemory fault e)))

pub found_exact : (w count : ℕ) (bytes : List ℕ) (r : Result (List ℕ) HybridFault) → 0 < w → count < 2 ^ 64 → IsBytes bytes → DecodesAllOrRunsOut r (whole w count bytes) → IfOk r (Spells w count bytes)
found_exact w count bytes (Ok values) wide small fit h = spells_of w count bytes values (found (length bytes) w count Nothing bytes (values, []) wide small fit h)
found_exact w count bytes (Err e) wide small fit h = tt

pub only_exact : (w count : ℕ) (bytes : List ℕ) (r : Result (List ℕ) HybridFault) → 0 < w → count < 2 ^ 64 → DecodesAllOrRunsOut r (whole w count bytes)
    → (values : List ℕ) → Spells w count bytes values → Gives r (Ok values)
only_exact w count bytes r wide small h values s = gives_ok r (whole w count bytes) values h (read_of w count bytes values wide small s)

cut_found : (w count : ℕ) (bytes : List ℕ) → 0 < w → count < 2 ^ 64 → IsBytes bytes → whole w count bytes ≡ Err Cut → IsCut w count bytes
cut_found w count bytes wide small fit h =
    let c = found_cut (length bytes) w count Nothing bytes wide small fit tt h in
    (c.values, c.more, c.some, spells_of w count (bytes ++ c.more) c.values c.whole)

pub cut_exact : (w count : ℕ) (bytes : List ℕ) (r : Result (List ℕ) HybridFault) → 0 < w → count < 2 ^ 64 → IsBytes bytes → DecodesAllOrRunsOut r (whole w count bytes) → IsErrOf r Cut → IsCut w count bytes
cut_exact w count bytes r wide small fit h e = cut_found w count bytes wide small fit (told r (whole w count bytes) Cut (λ k. cc) h e)

pub cut_only : (w count : ℕ) (bytes : List ℕ) (r : Result (List ℕ) HybridFault) → 0 < w → count < 2 ^ 64 → DecodesAllOrRunsOut r (whole w count bytes) → IsCut w count bytes → Gives r (Err Cut)
cut_only w count bytes r wide small h cut = gives_err r (whole w count bytes) Cut h (cut_of w count bytes wide small cut)

over_found : (w count : ℕ) (bytes : List ℕ) → 0 < w → count < 2 ^ 64 → IsBytes bytes → whole w count bytes ≡ Err OverWidth → IsOverWidth w count bytes
over_found w count bytes wide small fit h =
    let o = found_over (length bytes) w count Nothing bytes wide small fit tt h in
    (o.values, (o.count, digits_fit w o.values o.fit), o.first, o.later, o.goes.0, o.front, o.run, o.more, o.spelled, o.wide, o.are)

pub over_exact : (w count : ℕ) (bytes : List ℕ) (r : Result (List ℕ) HybridFault) → 0 < w → count < 2 ^ 64 → IsBytes bytes → DecodesAllOrRunsOut r (whole w count bytes) → IsErrOf r OverWidth → IsOverWidth w count bytes
over_exact w count bytes r wide small fit h e = over_found w count bytes wide small fit (told r (whole w count bytes) OverWidth (λ k. cc) h e)

pub over_only : (w count : ℕ) (bytes : List ℕ) (r : Result (List ℕ) HybridFault) → 0 < w → count < 2 ^ 64 → DecodesAllOrRunsOut r (whole w count bytes) → IsOverWidth w count bytes → Gives r (Err OverWidth)
over_only w count bytes r wide small h over = gives_err r (whole w count bytes) OverWidth h (over_of w count bytes wide small over)

pub bad_exact : (w count : ℕ) (bytes : List ℕ) (r : Result (List ℕ) HybridFault) → 0 < w → count < 2 ^ 64 → DecodesAllOrRunsOut r (whole w count bytes) → IsErrOf r BadRun → IsBad w count bytes
bad_exact w count bytes r wide small h e =
    let bad : whole w count bytes ≡ Err BadRun = told r (whole w count bytes) BadRun (λ k. cc) h e in (
      (λ values s. not_ok BadRun (values, []) (sym bad ∙ read_of w count bytes values wide small s)),
      (λ cut. let d : BadRun ≡ Cut = err_is BadRun Cut (sym bad ∙ cut_of w count bytes wide small cut) in cc),
      (λ over. let d : BadRun ≡ OverWidth = err_is BadRun OverWidth (sym bad ∙ over_of w count bytes wide small over) in cc),
    )

pub bad_only : (w count : ℕ) (bytes : List ℕ) (r : Result (List ℕ) HybridFault) → 0 < w → count < 2 ^ 64 → IsBytes bytes → DecodesAllOrRunsOut r (whole w count bytes) → IsBad w count bytes → Gives r (Err BadRun)
bad_only w count bytes (Ok values) wide small fit h bad = absurd (bad.0 values (found_exact w count bytes (Ok values) wide small fit h))
bad_only w count bytes (Err Cut) wide small fit h bad = absurd (bad.1 (cut_found w count bytes wide small fit h))
bad_only w count bytes (Err BadRun) wide small fit h bad = refl
bad_only w count bytes (Err OverWidth) wide small fit h bad = absurd (bad.2 (over_found w count bytes wide small fit h))
bad_only w count bytes (Err NoMemory) wide small fit h bad = tt

pub one_values : (w count : ℕ) (bytes a b : List ℕ) → 0 < w → count < 2 ^ 64 → Spells w count bytes a → Spells w count bytes b → a ≡ b
one_values w count bytes a b wide small s t =
    let e : (a, []) ≡ (b, []) = ok_is (a, []) (b, []) (sym (read_of w count bytes a wide small s) ∙ read_of w count bytes b wide small t) in
    ap (λ (p : List ℕ × List ℕ). p.0) e

pub spelled_not_cut : (w count : ℕ) (bytes values : List ℕ) → 0 < w → count < 2 ^ 64 → Spells w count bytes values → IsCut w count bytes → ⊥
spelled_not_cut w count bytes values wide small s cut = was_ok Cut (values, []) (sym (read_of w count bytes values wide small s) ∙ cut_of w count bytes wide small cut)

pub spelled_not_wide : (w count : ℕ) (bytes values : List ℕ) → 0 < w → count < 2 ^ 64 → Spells w count bytes values → IsOverWidth w count bytes → ⊥
spelled_not_wide w count bytes values wide small s over = was_ok OverWidth (values, []) (sym (read_of w count bytes values wide small s) ∙ over_of w count bytes wide small over)

pub cut_not_wide : (w count : ℕ) (bytes : List ℕ) → 0 < w → count < 2 ^ 64 → IsCut w count bytes → IsOverWidth w count bytes → ⊥
cut_not_wide w count bytes wide small cut over =
    let e : Cut ≡ OverWidth = err_is Cut OverWidth (sym (cut_of w count bytes wide small cut) ∙ over_of w count bytes wide small over) in cc
