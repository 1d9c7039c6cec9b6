-- What reading answers is what the text is, and a text is one thing alone.
use Rattle.std.proofs.Common.{ℕ, suc, ◌≡◌, ◌<◌, ◌+◌, ◌-◌, Bool, true, false, cond, List, [], ◌∷◌, ◌++◌, length, take, Result, Ok, Err, refl, sym, ap, subst, ◌∙◌, arith, append_assoc, inl, inr, ◌⊎◌, IsUtf8, length-append, codes, ltb}
use Rattle.std.proofs.lemmas.Bool.Decides.{nat_tests}
use Rattle.std.proofs.lemmas.Str.{IsUtf8-append, IsUtf8-from_ascii}
use Rattle.std.proofs.lemmas.Str.Ascii.{IsAscii-cons, IsAscii-nil}
use Rattle.fd_kinds.specs.declared.query.Matcher.{Matcher}
use Rattle.fd_kinds.specs.declared.query.ProfileType.{ProfileType}
use Rattle.fd_kinds.specs.declared.query.Selector.{Selector}
use Rattle.fd_select.specs.declared.faults.SelectFault.{SelectFault}
use Rattle.fd_select.specs.declared.faults.SelectFault.TheVariants.{BadType, BadMatcher, NoMemory}
use Rattle.std.proofs.lemmas.Option.{same_Some}
use Rattle.fd_select.specs.declared.reader.Reader.{Reader}
use Rattle.fd_select.specs.declared.reader.Stage.TheVariants.{End}
use Rattle.fd_select.specs.SelectorTexts.{type_part, braces_part, parts_of, kind_parts, IsBraced, AreMatchers, IsSelectorText, IsLongestBeginning, HasNoMatchers, HasSelectFault}
use Rattle.fd_select.specs.Braces.{IsStop}
use Rattle.fd_select.specs.Outcomes.{ReadsKind, Meets}
use Rattle.fd_select.proofs.PathLemmas.{reader, braced_leads}
use Rattle.fd_select.proofs.Parts.{type_front, braces_front, no_braces}

-- ---- each exit

pub kind_refused : (text front : List ℕ) (fault : SelectFault) → type_part text ≡ front → ReadsKind front (Err fault) → Meets text (Err fault)
kind_refused text front BadType e h = λ kind k. h kind (ap parts_of (sym e) ∙ k)
kind_refused text front (BadMatcher at) e h = absurd h
kind_refused text front NoMemory e h = tt

pub selected : (front rest : List ℕ) (kind : ProfileType) (ms : List Matcher) → type_part front ≡ front → parts_of front ≡ kind_parts kind → IsBraced (123 ∷ rest) ms → IsSelectorText (front ++ 123 ∷ rest) (record { kind = kind; matchers = ms })
selected front rest kind ms alone k b =
    record { kind = ap parts_of (type_front front rest alone) ∙ k; matchers = subst (λ t. AreMatchers t ms) (sym (braces_front front rest alone)) b }

pub selected_bare : (text : List ℕ) (kind : ProfileType) (ms : List Matcher) → type_part text ≡ text → parts_of text ≡ kind_parts kind → ms ≡ [] → IsSelectorText text (record { kind = kind; matchers = ms })
selected_bare text kind ms alone k e =
    record { kind = ap parts_of alone ∙ k; matchers = subst (λ t. AreMatchers t ms) (sym (no_braces text alone)) e }

braced_text : (front rest : List ℕ) → IsUtf8 front → IsUtf8 rest → IsUtf8 (front ++ 123 ∷ rest)
braced_text front rest f r =
    IsUtf8-append front (123 ∷ rest) f (IsUtf8-append (123 ∷ []) rest (IsUtf8-from_ascii (123 ∷ []) (IsAscii-cons 123 [] (omega arith) IsAscii-nil)) r)

-- a prefix that reaches behind the brace
prefix : (front rest : List ℕ) (n : ℕ) → take (length front + 1 + n) (front ++ 123 ∷ rest) ≡ front ++ 123 ∷ take n rest
prefix [] rest n = let one : length {A = ℕ} [] + 1 + n ≡ suc n = omega arith in ap (λ k. take k (123 ∷ rest)) one
prefix (b ∷ bs) rest n =
    let one : length (b ∷ bs) + 1 + n ≡ suc (length bs + 1 + n) = omega arith in
    ap (λ k. take k (b ∷ (bs ++ 123 ∷ rest))) one ∙ ap (λ t. b ∷ t) (prefix bs rest n)

pub stopped : (front rest : List ℕ) (kind : ProfileType) (at : ℕ) → type_part front ≡ front → parts_of front ≡ kind_parts kind → IsUtf8 front → IsStop rest at → HasNoMatchers (front ++ 123 ∷ rest) (length front + 1 + at)
stopped front rest kind at alone k u h =
    let text = front ++ 123 ∷ rest in
    let b = h.begins in
    let cut : take (length front + 1 + at) text ≡ front ++ 123 ∷ take at rest = prefix front rest at in
    let joined : take (length front + 1 + at) text ++ b.more ≡ front ++ 123 ∷ (take at rest ++ b.more) = ap (λ t. t ++ b.more) cut ∙ append_assoc front (123 ∷ take at rest) b.more in
    record {
      kind = kind;
      is_kind = ap parts_of (type_front front rest alone) ∙ k;
      no_matchers = λ ms m. h.none ms (subst (λ t. AreMatchers t ms) (braces_front front rest alone) m);
      place = record {
        within = omega (arith, h.within, length-append front (123 ∷ rest));
        begins = record {
          more = b.more;
          is_text = subst IsUtf8 (sym joined) (braced_text front (take at rest ++ b.more) u b.is_text);
          selector = record { kind = kind; matchers = b.matchers };
          spells = subst (λ t. IsSelectorText t (record { kind = kind; matchers = b.matchers })) (sym joined) (selected front (take at rest ++ b.more) kind b.matchers alone k b.is_braced);
        };
        longest = λ n lt le g.
            let m = n - (length front + 1) in
            let split : n ≡ length front + 1 + m = omega arith in
            let far : take n text ++ g.more ≡ front ++ 123 ∷ (take m rest ++ g.more) =
            ap (λ i. take i text ++ g.more) split ∙ ap (λ t. t ++ g.more) (prefix front rest m) ∙ append_assoc front (123 ∷ take m rest) g.more in
            let braces : braces_part (take n text ++ g.more) ≡ 123 ∷ (take m rest ++ g.more) = ap braces_part far ∙ braces_front front (take m rest ++ g.more) alone in
            let long : length text ≡ length front + (length rest + 1) = length-append front (123 ∷ rest) ∙ omega arith in
            h.longest m (omega arith) (omega arith) g.more g.selector.matchers (subst (λ t. AreMatchers t g.selector.matchers) braces g.spells.matchers);
      };
    }

-- ---- a text is one thing alone

same_delta : (a b : Bool) → cond a (codes "delta" ∷ []) [] ≡ cond b (codes "delta" ∷ []) [] → a ≡ b
same_delta true true e = refl
same_delta true false e = cc
same_delta false true e = cc
same_delta false false e = refl

kind_from : List ℕ → List ℕ → List ℕ → List ℕ → List ℕ → Bool → ProfileType
kind_from a b c d e f = record { name = a; sample_type = b; sample_unit = c; period_type = d; period_unit = e; delta = f }

same_kind : (a b : ProfileType) → kind_parts a ≡ kind_parts b → a ≡ b
unfolding kind_from
same_kind a b h =
    let d : a.delta ≡ b.delta = same_delta a.delta b.delta cc in
    let e : kind_from a.name a.sample_type a.sample_unit a.period_type a.period_unit a.delta ≡ kind_from b.name b.sample_type b.sample_unit b.period_type b.period_unit b.delta = cc in
    e

same_matchers : (bs : List ℕ) (ms ns : List Matcher) → AreMatchers bs ms → AreMatchers bs ns → ms ≡ ns
same_matchers [] ms ns h k = h ∙ sym k
same_matchers (b ∷ bs) ms ns h k =
    let brace : b ∷ bs ≡ 123 ∷ bs = cc (h.parts) in
    let one = braced_leads bs ms (subst (λ t. IsBraced t ms) brace h) in
    let two = braced_leads bs ns (subst (λ t. IsBraced t ns) brace k) in
    ap (λ (r : Reader). r.matchers) (same_Some (reader ms End) (reader ns End) (sym one ∙ two))

pub one_selector : (text : List ℕ) (a b : Selector) → IsSelectorText text a → IsSelectorText text b → a ≡ b
one_selector text a b h k =
    let kind : a.kind ≡ b.kind = same_kind a.kind b.kind (sym h.kind ∙ k.kind) in
    let matchers : a.matchers ≡ b.matchers = same_matchers (braces_part text) a.matchers b.matchers h.matchers k.matchers in
    ap (λ kd. record { kind = kd; matchers = a.matchers }) kind ∙ ap (λ ms. record { kind = b.kind; matchers = ms }) matchers

one_place : (text : List ℕ) (m n : ℕ) → IsLongestBeginning text m → IsLongestBeginning text n → m ≡ n
one_place text m n h k = by (ltb m n) refl
  where
    by_other : (t : Bool) → ltb n m ≡ t → ltb m n ≡ false → m ≡ n
    by_other true e f = let below : n < m = grind (arith, nat_tests) in absurd (k.longest m below h.within h.begins)
    by_other false e f = grind (arith, nat_tests)

    by : (t : Bool) → ltb m n ≡ t → m ≡ n
    by true e = let below : m < n = grind (arith, nat_tests) in absurd (h.longest n below k.within k.begins)
    by false e = by_other (ltb n m) refl e

pub one_refusal : (text : List ℕ) (a b : SelectFault) → HasSelectFault text a → HasSelectFault text b → a ≡ b
one_refusal text NoMemory b h k = absurd h
one_refusal text BadType NoMemory h k = absurd k
one_refusal text (BadMatcher at) NoMemory h k = absurd k
one_refusal text BadType BadType h k = refl
one_refusal text BadType (BadMatcher at) h k = absurd (h k.kind k.is_kind)
one_refusal text (BadMatcher at) BadType h k = absurd (k h.kind h.is_kind)
one_refusal text (BadMatcher at) (BadMatcher other) h k = ap (λ n. BadMatcher n) (one_place text at other h.place k.place)

pub apart : (text : List ℕ) (s : Selector) (fault : SelectFault) → IsSelectorText text s → HasSelectFault text fault → ⊥
apart text s BadType h k = k s.kind h.kind
apart text s (BadMatcher at) h k = k.no_matchers s.matchers h.matchers
apart text s NoMemory h k = k

pub selects : (text : List ℕ) (r : Result Selector SelectFault) (s : Selector) → Meets text r → IsSelectorText text s → (r ≡ Ok s) ⊎ (r ≡ Err NoMemory)
selects text (Ok t) s h k = inl (ap (λ x. Ok x) (one_selector text t s h k))
selects text (Err BadType) s h k = absurd (apart text s BadType k h)
selects text (Err (BadMatcher at)) s h k = absurd (apart text s (BadMatcher at) k h)
selects text (Err NoMemory) s h k = inr refl

pub refuses : (text : List ℕ) (r : Result Selector SelectFault) (fault : SelectFault) → Meets text r → HasSelectFault text fault → (r ≡ Err fault) ⊎ (r ≡ Err NoMemory)
refuses text (Ok t) fault h k = absurd (apart text t fault h k)
refuses text (Err BadType) fault h k = inl (ap (λ f. Err f) (one_refusal text BadType fault h k))
refuses text (Err (BadMatcher at)) fault h k = inl (ap (λ f. Err f) (one_refusal text (BadMatcher at) fault h k))
refuses text (Err NoMemory) fault h k = inr refl

pub ruleset selector_facts = (one_selector, one_refusal, apart)
