-- `Cut` tells a front of a spelling, and each other refusal the first byte with which there is none.
use Rattle.std.proofs.Common.{◌≡◌, ◌≢◌, ℕ, zero, suc, ◌+◌, ◌-◌, IfErr, ◌<◌, List, [], ◌∷◌, ◌++◌, length, Result, Ok, Err, refl, sym, ap, subst, ◌∙◌, arith, append_assoc, append-nil, length-append}
use Rattle.fd_thrift.specs.declared.fault.ThriftFault.{ThriftFault}
use Rattle.fd_thrift.specs.declared.fault.ThriftFault.TheVariants.{Cut, BadType, BadSize, Deep, NoMemory}
use Rattle.fd_thrift.specs.Values.{Value}
use Rattle.fd_thrift.specs.Format.{Spells}
use Rattle.fd_thrift.specs.Reader.{◌>>=◌, Reading, tree_at, read_at, AreBytes, DecodesOrRunsOut, IsCutShort, StopsBy}
use Rattle.fd_thrift.proofs.Roundtrips.{tree_again}
use Rattle.fd_thrift.proofs.Soundness.{ok_is, no_ok, tree_takes}
use Rattle.fd_thrift.proofs.Extensions.{Keeps, tree_keeps}
use Rattle.fd_thrift.proofs.Completions.{tree_ends}

kept_fault : (bytes more : List ℕ) (e : ThriftFault) → tree_at bytes ≡ Err e → e ≢ Cut → tree_at (bytes ++ more) ≡ Err e
kept_fault bytes more e h other = by_fault e other (subst (λ (r : Reading Value). Keeps more r (tree_at (bytes ++ more))) h (tree_keeps bytes more))
  where
    by_fault : (e : ThriftFault) → e ≢ Cut → Keeps {A = Value} more (Err e) (tree_at (bytes ++ more)) → tree_at (bytes ++ more) ≡ Err e
    by_fault Cut other k = absurd (other refl)
    by_fault BadType other k = k
    by_fault BadSize other k = k
    by_fault Deep other k = k
    by_fault NoMemory other k = k

pub refusals_stay : (bytes more : List ℕ) (e : ThriftFault) → tree_at bytes ≡ Err e → e ≢ Cut → tree_at (bytes ++ more) ≡ Err e
refusals_stay = kept_fault

same_end : (v w : Value) (x y : List ℕ) (r : Reading Value) → r ≡ Ok (v, x) → r ≡ Ok (w, y) → x ≡ y
same_end v w x y r h g = ap (λ (p : Value × List ℕ). p.1) (ok_is (v, x) (w, y) r h g)

-- the front of a spelling is cut
pub front_is_cut : (bytes : List ℕ) → IsCutShort bytes → tree_at bytes ≡ Err Cut
front_is_cut bytes s = by_reading (tree_at bytes) refl (tree_keeps bytes s.more)
  where
    whole : tree_at (bytes ++ s.more) ≡ Ok (s.value, [])
    whole = ap tree_at (sym (append-nil (bytes ++ s.more))) ∙ tree_again (bytes ++ s.more) [] s.value s.spelled

    by_reading : (r : Reading Value) → tree_at bytes ≡ r → Keeps s.more r (tree_at (bytes ++ s.more)) → tree_at bytes ≡ Err Cut
    by_reading (Ok x) e k = absurd (omega (arith, s.some, ap length (same_end x.0 s.value (x.1 ++ s.more) [] (tree_at (bytes ++ s.more)) k whole), length-append x.1 s.more))
    by_reading (Err Cut) e k = e
    by_reading (Err BadType) e k = absurd (no_ok BadType (s.value, []) (tree_at (bytes ++ s.more)) k whole)
    by_reading (Err BadSize) e k = absurd (no_ok BadSize (s.value, []) (tree_at (bytes ++ s.more)) k whole)
    by_reading (Err Deep) e k = absurd (no_ok Deep (s.value, []) (tree_at (bytes ++ s.more)) k whole)
    by_reading (Err NoMemory) e k = absurd (no_ok NoMemory (s.value, []) (tree_at (bytes ++ s.more)) k whole)

join : (a b : List ℕ) → AreBytes a → AreBytes b → AreBytes (a ++ b)
join [] b h g i = g i
join (x ∷ a) b h g zero = h 0
join (x ∷ a) b h g (suc i) = join a b (λ j. h (suc j)) g i

-- what is cut is the front of a spelling
pub cut_is_front : (bytes : List ℕ) → AreBytes bytes → tree_at bytes ≡ Err Cut → IsCutShort bytes
cut_is_front bytes fits h =
    let e = tree_ends bytes fits h in
    let t = tree_takes (bytes ++ e.more) [] e.value (join bytes e.more fits e.are) e.read in
    let whole : bytes ++ e.more ≡ t.0 = t.1 ∙ append-nil t.0 in
    record { more = e.more; are = e.are; some = some e.more e.value e.read; value = e.value; spelled = subst (λ (bs : List ℕ). Spells bs e.value) (sym whole) t.2 }
  where
    some : (more : List ℕ) (v : Value) → tree_at (bytes ++ more) ≡ Ok (v, []) → 0 < length more
    some [] v read = absurd (no_ok Cut (v, []) (tree_at bytes) h (ap tree_at (sym (append-nil bytes)) ∙ read))
    some (b ∷ bs) v read = omega arith

-- ---- the first fault

bytes_front : (front rest : List ℕ) → AreBytes (front ++ rest) → AreBytes front
bytes_front [] rest h i = omega arith
bytes_front (b ∷ front) rest h zero = h 0
bytes_front (b ∷ front) rest h (suc i) = bytes_front front rest (λ k. h (suc k)) i

nothing_cut : tree_at [] ≡ Err Cut
unfolding tree_at
nothing_cut = refl

same_fault : (e f : ThriftFault) (r : Reading Value) → r ≡ Err e → r ≡ Err f → e ≡ f
same_fault e f r h g = cc

-- the first byte of what is left with which the reading is refused
stops_behind : (e : ThriftFault) → e ≢ Cut → (left done : List ℕ) → AreBytes (done ++ left) → tree_at done ≡ Err Cut → tree_at (done ++ left) ≡ Err e → StopsBy e (done ++ left)
stops_behind e other [] done fits cut h = absurd (other (same_fault e Cut (tree_at done) (ap tree_at (sym (append-nil done)) ∙ h) cut))
stops_behind e other (b ∷ bs) done fits cut h = by_reading (tree_at (done ++ b ∷ [])) refl (tree_keeps (done ++ b ∷ []) bs)
    (λ cut. stops_behind e other bs (done ++ b ∷ []) (subst AreBytes (sym (append_assoc done (b ∷ []) bs)) fits) cut (ap tree_at (append_assoc done (b ∷ []) bs) ∙ h))
  where
    split : (done ++ b ∷ []) ++ bs ≡ done ++ b ∷ bs
    split = append_assoc done (b ∷ []) bs

    whole : tree_at ((done ++ b ∷ []) ++ bs) ≡ Err e
    whole = ap tree_at split ∙ h

    stops : (f : ThriftFault) → tree_at (done ++ b ∷ []) ≡ Err f → f ≡ e → StopsBy e (done ++ b ∷ bs)
    stops f is same = record {
      front = done;
      byte = b;
      rest = bs;
      whole = refl;
      before = cut_is_front done (bytes_front done (b ∷ bs) fits) cut;
      refused = is ∙ ap (λ (k : ThriftFault). Err k) same;
    }

    by_reading : (r : Reading Value) → tree_at (done ++ b ∷ []) ≡ r → Keeps bs r (tree_at ((done ++ b ∷ []) ++ bs))
        → (tree_at (done ++ b ∷ []) ≡ Err Cut → StopsBy e ((done ++ b ∷ []) ++ bs)) → StopsBy e (done ++ b ∷ bs)
    by_reading (Ok x) is k later = absurd (no_ok e (x.0, x.1 ++ bs) (tree_at ((done ++ b ∷ []) ++ bs)) whole k)
    by_reading (Err Cut) is k later = subst (StopsBy e) split (later is)
    by_reading (Err BadType) is k later = stops BadType is (same_fault BadType e _ k whole)
    by_reading (Err BadSize) is k later = stops BadSize is (same_fault BadSize e _ k whole)
    by_reading (Err Deep) is k later = stops Deep is (same_fault Deep e _ k whole)
    by_reading (Err NoMemory) is k later = stops NoMemory is (same_fault NoMemory e _ k whole)

pub first_fault : (e : ThriftFault) (bytes : List ℕ) → AreBytes bytes → e ≢ Cut → tree_at bytes ≡ Err e → StopsBy e bytes
first_fault e bytes fits other h = stops_behind e other bytes [] fits nothing_cut h

-- ---- what calls answer

err_at : (at : ℕ) (piece : List ℕ) (e : ThriftFault) → read_at at piece ≡ Err e → tree_at piece ≡ Err e
unfolding read_at
err_at at piece e h = by_reading (tree_at piece) h
  where
    by_reading : (r : Reading Value) → ◌>>=◌ {B = Value × ℕ} r (λ v. Ok (v.0, at + (length piece - length v.1))) ≡ Err e → r ≡ Err e
    by_reading (Ok x) k = cc
    by_reading (Err f) k = let same : f ≡ e = cc in ap (λ (g : ThriftFault). Err g) same

cut_at : (at : ℕ) (piece : List ℕ) → tree_at piece ≡ Err Cut → read_at at piece ≡ Err Cut
unfolding read_at
cut_at at piece h = rw h refl

pub answer_cut : {X : Type 0} (see : X → Value × ℕ) (r : Result X ThriftFault) (at : ℕ) (piece : List ℕ) → AreBytes piece → DecodesOrRunsOut see r (read_at at piece) → r ≡ Err Cut → IsCutShort piece
answer_cut {X} see r at piece fits h is =
    let gives : DecodesOrRunsOut see (Err Cut) (read_at at piece) = subst (λ (x : Result X ThriftFault). DecodesOrRunsOut see x (read_at at piece)) is h in
    cut_is_front piece fits (err_at at piece Cut gives)

pub answer_front : {X : Type 0} (see : X → Value × ℕ) (r : Result X ThriftFault) (at : ℕ) (piece : List ℕ) → DecodesOrRunsOut see r (read_at at piece) → IsCutShort piece → DecodesOrRunsOut {Y = Value × ℕ} see r (Err Cut)
answer_front {X} see r at piece h s = subst (λ (read : Result (Value × ℕ) ThriftFault). DecodesOrRunsOut see r read) (cut_at at piece (front_is_cut piece s)) h

pub answer_first : {X : Type 0} (see : X → Value × ℕ) (r : Result X ThriftFault) (at : ℕ) (piece : List ℕ) → AreBytes piece → DecodesOrRunsOut see r (read_at at piece)
    → IfErr r (λ fault. fault ≢ Cut → fault ≢ NoMemory → StopsBy fault piece)
answer_first see (Ok x) at piece fits h = tt
answer_first see (Err Cut) at piece fits h = λ other some. absurd (other refl)
answer_first see (Err BadType) at piece fits h = λ other some. first_fault BadType piece fits other (err_at at piece BadType h)
answer_first see (Err BadSize) at piece fits h = λ other some. first_fault BadSize piece fits other (err_at at piece BadSize h)
answer_first see (Err Deep) at piece fits h = λ other some. first_fault Deep piece fits other (err_at at piece Deep h)
answer_first see (Err NoMemory) at piece fits h = λ other some. absurd (some refl)
