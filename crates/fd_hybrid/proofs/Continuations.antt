-- What was read over the whole of the bytes, and how bytes that end early go on.
use Rattle.std.proofs.Common.{◌≡◌, ℕ, zero, suc, ◌+◌, ◌-◌, ◌*◌, ◌/◌, ◌%◌, ◌^◌, ◌<◌, ◌≤◌, min, false, inl, inr, List, [], ◌∷◌, ◌++◌, length, get_or, replicate, refl, sym, ap, ◌∙◌, subst, length-append, arith}
use Rattle.std.specs.List.{concat, flat_map}
use Rattle.std.proofs.lemmas.List.{append-nil}
use Rattle.std.proofs.lemmas.Bool.{cases_lt}
use Rattle.std.proofs.lemmas.Nat.{pow_pos}
use Rattle.std.proofs.Math.ListN.{length-replicate}
use Rattle.fd_hybrid.specs.declared.runs.Before.{Before}
use Rattle.fd_hybrid.specs.declared.runs.Before.TheVariants.{Nothing, Repeated, Packed}
use Rattle.fd_hybrid.specs.Digits.{digits}
use Rattle.fd_hybrid.specs.Runs.{Run, repeated, packed, equal_next, AreRuns}
use Rattle.fd_hybrid.specs.Format.{IsVarint, byte_count, group_bytes, IsRun, AreSpelled}
use Rattle.fd_hybrid.specs.Unpacker.{is_packed}
use Rattle.fd_hybrid.proofs.Stretches.{equal_next-le}
use Rattle.fd_hybrid.proofs.DigitNumbers.{Digits}
use Rattle.fd_hybrid.proofs.Varints.{longer}
use Rattle.fd_hybrid.proofs.NextRuns.{May, Goes, Follows, Alive, values_of, after_of, may_within, Apart, puts}
use Rattle.fd_hybrid.proofs.GroupReads.{fit_both}
use Rattle.fd_hybrid.proofs.GroupCompletions.{pow_le}
use Rattle.fd_hybrid.proofs.Sequences.{some_front}

-- a spelling of so many values
pub record Continued (w left : ℕ) (before : Before) : Type 0 where
  pub runs : List Run
  pub values : List ℕ
  pub goes : Goes before runs values
  pub count : length values ≡ left
  pub fit : Digits w values

-- a value other than the one before
record Other (w : ℕ) (before : Before) : Type 0 where
  value : ℕ
  fits : value < 2 ^ w
  apart : Apart before value

two : (w : ℕ) → 0 < w → 1 < 2 ^ w
two w some = let le : 1 ≤ w = omega arith in omega (arith, pow_le 1 w le)

other_than : (w : ℕ) (before : Before) → 0 < w → Other w before
other_than w Nothing some = record { value = 0; fits = pow_pos w; apart = tt }
other_than w Packed some = record { value = 0; fits = pow_pos w; apart = tt }
other_than w (Repeated zero) some = record { value = 1; fits = two w some; apart = λ e. absurd (omega arith) }
other_than w (Repeated (suc u)) some = record { value = 0; fits = pow_pos w; apart = λ e. absurd (omega arith) }

copies_fit : (w n v : ℕ) → v < 2 ^ w → Digits w (replicate n v)
copies_fit w zero v lt i = pow_pos w
copies_fit w (suc n) v lt zero = lt
copies_fit w (suc n) v lt (suc i) = copies_fit w n v lt i

pub may_fit : (w left : ℕ) (before : Before) (run : Run) → May w left before run → Digits w (values_of run)
may_fit w left before (repeated n v) m = copies_fit w n v m.2
may_fit w left before (packed gs) m = m.2

-- a run before what goes on
pub put : (w left : ℕ) (before : Before) (run : Run) → May w left before run → Continued w (left - length (values_of run)) (after_of run) → Continued w left before
put w left before run may c =
    let within : length (values_of run) ≤ left = may_within w left before run may in
    record {
      runs = run ∷ c.runs;
      values = values_of run ++ c.values;
      goes = puts w left before run c.runs c.values may c.goes (omega (arith, c.count));
      count = length-append (values_of run) c.values ∙ omega (arith, c.count);
      fit = fit_both w (values_of run) c.values (may_fit w left before run may) c.fit;
    }

none_follow : (before : Before) → Follows before []
none_follow Nothing = tt
none_follow (Repeated u) = refl
none_follow Packed = inl refl

finished : (w left : ℕ) (before : Before) → left ≡ 0 → Continued w left before
finished w left before e = record { runs = []; values = []; goes = (refl, none_follow before); count = sym e; fit = λ i. pow_pos w }

not_packed : (before : Before) (left : ℕ) → Alive before left → 0 < left → left < 8 → is_packed before ≡ false
not_packed Nothing left alive some few = refl
not_packed (Repeated u) left alive some few = refl
not_packed Packed left (inl none) some few = absurd (omega arith)
not_packed Packed left (inr many) some few = absurd (omega arith)

one_group : (w left : ℕ) (before : Before) → 0 < w → Alive before left → 0 < left → left < 8 → Continued w left before
one_group w left before wide alive some few =
    let o = other_than w before wide in
    let g : List ℕ = replicate left o.value in
    let size : length g ≡ left = length-replicate left o.value in
    let all : concat (g ∷ []) ≡ g = append-nil g in
    let min_is : length g ≡ min left 8 = omega arith in
    let short : equal_next g < 8 = omega (arith, equal_next-le g) in
    let fits : Digits w (concat (g ∷ [])) = subst (λ (xs : List ℕ). Digits w xs) (sym all) (copies_fit w left o.value o.fits) in
    let apart : Apart before (get_or (concat (g ∷ [])) 0 0) = subst (λ (xs : List ℕ). Apart before (get_or xs 0 0)) (sym all) (first left some o.value o.apart) in
    let rest : left - 8 ≡ 0 = omega arith in
    let may : May w left before (packed (g ∷ [])) = (not_packed before left alive some few, (λ e. cc), fits, apart, (some, min_is, short, inl rest)) in
    put w left before (packed (g ∷ [])) may (finished w (left - length (concat (g ∷ []))) Packed (omega (arith, ap length all)))
  where
    first : (n : ℕ) → 0 < n → (v : ℕ) → Apart before v → Apart before (get_or (replicate n v) 0 0)
    first zero lt v a = absurd (omega arith)
    first (suc n) lt v a = a

-- So many values can follow.
pub continues : (w left : ℕ) (before : Before) → 0 < w → Alive before left → Continued w left before
continues w left before wide alive =
    elim (cases_lt left 8) [
      | inr many ↦
          let o = other_than w before wide in
          let size : length (replicate left o.value) ≡ left = length-replicate left o.value in
          let same : left ≤ left = omega arith in
          put w left before (repeated left o.value) (many, same, o.fits, o.apart) (finished w (left - length (replicate left o.value)) (Repeated o.value) (omega arith))
      | inl few ↦ elim (cases_lt 0 left) [
        | inl some ↦ one_group w left before wide alive some few
        | inr none ↦ finished w left before (omega arith)
      ]
    ]

varint_within : (k n : ℕ) → n ≤ k → (header : List ℕ) × IsVarint header n
varint_within zero n le = (n ∷ [], (omega arith, refl))
varint_within (suc k) n le =
    elim (cases_lt n 128) [
      | inl lt ↦ (n ∷ [], (lt, refl))
      | inr ge ↦
          let high : ℕ = n / 128 in
          let b : ℕ = n % 128 + 128 in
          let rest = varint_within k high (omega arith) in
          (b ∷ rest.0, longer b high n rest.0 (omega arith) (omega arith) (omega arith) (omega arith) rest.1)
    ]

run_exists : (w : ℕ) (run : Run) → (front : List ℕ) × IsRun w front run
run_exists w (repeated n v) = let h = varint_within (2 * n) (2 * n) (omega arith) in (h.0 ++ digits 8 (byte_count w) v, (h.0, h.1, refl))
run_exists w (packed gs) = let h = varint_within (2 * length gs + 1) (2 * length gs + 1) (omega arith) in (h.0 ++ flat_map (group_bytes w) gs, (h.0, h.1, refl))

-- runs have bytes
pub spelled_exists : (w : ℕ) (runs : List Run) → (bytes : List ℕ) × AreSpelled w runs bytes
spelled_exists w [] = ([], refl)
spelled_exists w (r ∷ rs) = let f = run_exists w r in let t = spelled_exists w rs in (f.0 ++ t.0, (f.0, t.0, refl, f.1, t.1))

pub some_spelled : (w : ℕ) (runs : List Run) (values bytes : List ℕ) → AreRuns runs values → 0 < length values → AreSpelled w runs bytes → 0 < length bytes
some_spelled w [] values bytes are some spelled = absurd (omega (arith, ap length are))
some_spelled w (r ∷ rs) values bytes are some (front, rest, e, is, others) = omega (arith, some_front w front r is, ap length e, length-append front rest)
