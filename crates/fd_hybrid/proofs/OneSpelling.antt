-- Values have one spelling.
use Rattle.std.proofs.Common.{◌≡◌, ℕ, zero, suc, ◌+◌, ◌*◌, ◌<◌, ◌≤◌, ◌⊎◌, inl, inr, List, [], ◌∷◌, ◌++◌, length, get_or, take, drop, replicate, refl, sym, ap, ◌∙◌, subst, append_assoc, length-append, arith}
use Rattle.std.specs.List.{concat, flat_map}
use Rattle.std.proofs.Math.ListN.{length-replicate}
use Rattle.fd_hybrid.specs.Digits.{digits}
use Rattle.fd_hybrid.specs.Runs.{Run, repeated, packed, equal_next, AreTaken, AreRuns}
use Rattle.fd_hybrid.specs.Format.{IsVarint, byte_count, group_bytes, IsRun, AreSpelled, IsSpelling}
use Rattle.fd_hybrid.proofs.GroupLaws.{take_front, drop_front}
use Rattle.fd_hybrid.proofs.Stretches.{equal_next-le}

-- a number has one varint
one_varint : (a b : List ℕ) (n : ℕ) → IsVarint a n → IsVarint b n → a ≡ b
one_varint [] b n h g = absurd h
one_varint (x ∷ []) [] n h g = absurd g
one_varint (x ∷ y ∷ xs) [] n h g = absurd g
one_varint (x ∷ []) (z ∷ []) n h g = let e : x ≡ z = sym h.1 ∙ g.1 in ap (λ k. k ∷ []) e
one_varint (x ∷ []) (z ∷ w ∷ zs) n h g = absurd (omega (arith, h.0, h.1, g.0, g.3, g.4))
one_varint (x ∷ y ∷ xs) (z ∷ []) n h g = absurd (omega (arith, g.0, g.1, h.0, h.3, h.4))
one_varint (x ∷ y ∷ xs) (z ∷ w ∷ zs) n h g =
    let high : h.2 ≡ g.2 = omega (arith, h.0, h.1, h.4, g.0, g.1, g.4) in
    let low : x ≡ z = omega (arith, h.4, g.4) in
    let rest : y ∷ xs ≡ w ∷ zs = one_varint (y ∷ xs) (w ∷ zs) h.2 h.5 (subst (λ (k : ℕ). IsVarint (w ∷ zs) k) (sym high) g.5) in
    ap (λ k. k ∷ y ∷ xs) low ∙ ap (λ ks. z ∷ ks) rest

one_run : (w : ℕ) (run : Run) (a b : List ℕ) → IsRun w a run → IsRun w b run → a ≡ b
one_run w (repeated n v) a b (h, is, e) (g, is', e') = e ∙ ap (λ k. k ++ digits 8 (byte_count w) v) (one_varint h g (2 * n) is is') ∙ sym e'
one_run w (packed gs) a b (h, is, e) (g, is', e') = e ∙ ap (λ k. k ++ flat_map (group_bytes w) gs) (one_varint h g (2 * length gs + 1) is is') ∙ sym e'

-- runs have one spelling
pub one_bytes : (w : ℕ) (runs : List Run) (a b : List ℕ) → AreSpelled w runs a → AreSpelled w runs b → a ≡ b
one_bytes w [] a b h g = h ∙ sym g
one_bytes w (r ∷ rs) a b (f, t, e, is, more) (f', t', e', is', more') =
    e ∙ ap (λ k. k ++ t) (one_run w r f f' is is') ∙ ap (λ k. f' ++ k) (one_bytes w rs t t' more more') ∙ sym e'

-- a packed run takes no values where none are left or eight equal ones stand next
no_group : (h : List ℕ) (hs : List (List ℕ)) (a b : List ℕ) → a ≡ (h ++ concat hs) ++ b → (a ≡ []) ⊎ (8 ≤ equal_next a) → AreTaken (h ∷ hs) b → ⊥
no_group h hs a b e (inl none) u =
    omega (arith, ap length e, ap length none, length-append (h ++ concat hs) b, length-append h (concat hs), u.0.0)
no_group h hs a b e (inr many) u =
    let same : equal_next a ≡ equal_next (h ++ (concat hs ++ b)) = ap equal_next (e ∙ append_assoc h (concat hs) b) in
    omega (arith, same, many, u.1)

same_size : (g h r s : List ℕ) → g ++ r ≡ h ++ s → length g ≤ 8 → length h ≤ 8 → (length g < 8 → r ≡ []) → (length h < 8 → s ≡ []) → length g ≡ length h
same_size g h r s e a b c d =
    let total : length g + length r ≡ length h + length s = sym (length-append g r) ∙ ap length e ∙ length-append h s in
    let c' : length g < 8 → length r ≡ 0 = λ lt. ap length (c lt) in
    let d' : length h < 8 → length s ≡ 0 = λ lt. ap length (d lt) in
    grind arith

-- groups that are taken from the same values are the same
one_taking : (gs hs : List (List ℕ)) (a b : List ℕ) → concat gs ++ a ≡ concat hs ++ b → AreTaken gs a → AreTaken hs b → (gs ≡ hs) × (a ≡ b)
one_taking [] [] a b e t u = (refl, e)
one_taking [] (h ∷ hs) a b e t u = absurd (no_group h hs a b e t u)
one_taking (g ∷ gs) [] a b e t u = absurd (no_group g gs b a (sym e) u t)
one_taking (g ∷ gs) (h ∷ hs) a b e t u =
    let r : List ℕ = concat gs ++ a in
    let s : List ℕ = concat hs ++ b in
    let same : g ++ r ≡ h ++ s = sym (append_assoc g (concat gs) a) ∙ e ∙ append_assoc h (concat hs) b in
    let size : length g ≡ length h = same_size g h r s same t.0.1 u.0.1 t.0.2 u.0.2 in
    let first : g ≡ h = sym (take_front (length g) g r refl) ∙ ap (take (length g)) same ∙ take_front (length g) h s (sym size) in
    let rest : r ≡ s = sym (drop_front (length g) g r refl) ∙ ap (drop (length g)) same ∙ drop_front (length g) h s (sym size) in
    let others = one_taking gs hs a b rest t.2 u.2 in
    (ap (λ k. k ∷ gs) first ∙ ap (λ ks. h ∷ ks) others.0, others.1)

head_value : (n v : ℕ) (xs : List ℕ) → 0 < n → get_or (replicate n v ++ xs) 0 0 ≡ v
head_value zero v xs lt = absurd (omega arith)
head_value (suc n) v xs lt = refl

-- a repeated run stands only where eight equal values stand next
not_both : (n v : ℕ) (rs : List Run) (gs : List (List ℕ)) (ss : List Run) (values : List ℕ) → AreRuns (repeated n v ∷ rs) values → AreRuns (packed gs ∷ ss) values → ⊥
not_both n v rs [] ss values h (behind, e, some, t, more) = some refl
not_both n v rs (g ∷ gs) ss values h (behind, e, some, t, more) =
    let same : equal_next values ≡ equal_next (g ++ (concat gs ++ behind)) = ap equal_next (e ∙ append_assoc g (concat gs) behind) in
    omega (arith, same, h.2, h.3, t.1)

some_values : (r : Run) (rs : List Run) (values : List ℕ) → values ≡ [] → AreRuns (r ∷ rs) values → ⊥
some_values (repeated n v) rs values none h = omega (arith, ap length none, h.2, h.3, equal_next-le values)
some_values (packed []) rs values none h = h.2 refl
some_values (packed (g ∷ gs)) rs values none (behind, e, some, t, more) =
    omega (arith, ap length none, ap length e, length-append (g ++ concat gs) behind, length-append g (concat gs), t.0.0)

-- values have one division into runs
pub one_division : (rs ss : List Run) (values : List ℕ) → AreRuns rs values → AreRuns ss values → rs ≡ ss
one_division [] [] values h g = refl
one_division [] (s ∷ ss) values h g = absurd (some_values s ss values h g)
one_division (r ∷ rs) [] values h g = absurd (some_values r rs values g h)
one_division (repeated n v ∷ rs) (packed gs ∷ ss) values h g = absurd (not_both n v rs gs ss values h g)
one_division (packed gs ∷ rs) (repeated n v ∷ ss) values h g = absurd (not_both n v ss gs rs values g h)
one_division (repeated n v ∷ rs) (repeated m u ∷ ss) values (a, e, many, n_is, are) (b, e', many', m_is, are') =
    let count : n ≡ m = n_is ∙ sym m_is in
    let value : v ≡ u = sym (head_value n v a (omega arith)) ∙ ap (λ xs. get_or xs 0 0) (sym e ∙ e') ∙ head_value m u b (omega arith) in
    let front : length (replicate n v) ≡ n = length-replicate n v in
    let front' : length (replicate m u) ≡ n = length-replicate m u ∙ sym count in
    let rest : a ≡ b = sym (drop_front n (replicate n v) a front) ∙ ap (drop n) (sym e ∙ e') ∙ drop_front n (replicate m u) b front' in
    let others : rs ≡ ss = one_division rs ss a are (subst (λ (xs : List ℕ). AreRuns ss xs) (sym rest) are') in
    ap (λ k. repeated k v ∷ rs) count ∙ ap (λ k. repeated m k ∷ rs) value ∙ ap (λ ks. repeated m u ∷ ks) others
one_division (packed gs ∷ rs) (packed hs ∷ ss) values (a, e, some, t, are) (b, e', some', t', are') =
    let both = one_taking gs hs a b (sym e ∙ e') t t' in
    let others : rs ≡ ss = one_division rs ss a are (subst (λ (xs : List ℕ). AreRuns ss xs) (sym both.1) are') in
    ap (λ k. packed k ∷ rs) both.0 ∙ ap (λ ks. packed hs ∷ ks) others

pub one_spelling : (w : ℕ) (values a b : List ℕ) → IsSpelling w values a → IsSpelling w values b → a ≡ b
one_spelling w values a b (rs, are, h) (ss, are', g) =
    let same : rs ≡ ss = one_division rs ss values are are' in
    one_bytes w rs a b h (subst (λ (k : List Run). AreSpelled w k b) (sym same) g)
