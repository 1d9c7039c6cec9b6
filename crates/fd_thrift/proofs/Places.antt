-- Reading at a place, by the laws of reading.
use Rattle.std.proofs.Common.{◌≡◌, ℕ, zero, suc, ◌+◌, ◌-◌, List, [], ◌∷◌, ◌++◌, length, take, drop, slice_range, Result, Ok, Err, IfOk, refl, sym, ap, ◌∙◌, subst, arith, length-append}
use Rattle.fd_thrift.specs.declared.fault.ThriftFault.{ThriftFault}
use Rattle.fd_thrift.specs.Values.{Value}
use Rattle.fd_thrift.specs.Format.{spelling, Spells}
use Rattle.fd_thrift.specs.Reader.{tree_at, read_at, AreBytes, DecodesOrRunsOut, Begins}
use Rattle.fd_thrift.proofs.Roundtrips.{tree_again}
use Rattle.fd_thrift.proofs.Soundness.{bind_ok, ok_is, tree_takes}

bytes_drop : (n : ℕ) (bytes : List ℕ) → AreBytes bytes → AreBytes (drop n bytes)
bytes_drop zero bytes h = h
bytes_drop (suc n) [] h = h
bytes_drop (suc n) (b ∷ bs) h = bytes_drop n bs (λ i. h (suc i))

bytes_take : (n : ℕ) (bytes : List ℕ) → AreBytes bytes → AreBytes (take n bytes)
bytes_take zero bytes h i = omega arith
bytes_take (suc n) [] h i = h i
bytes_take (suc n) (b ∷ bs) h zero = h 0
bytes_take (suc n) (b ∷ bs) h (suc i) = bytes_take n bs (λ j. h (suc j)) i

pub bytes_range : (bytes : List ℕ) (at end : ℕ) → AreBytes bytes → AreBytes (slice_range bytes at end)
bytes_range bytes at end h = bytes_take (end - at) (drop at bytes) (bytes_drop at bytes h)

read_found : (at : ℕ) (piece : List ℕ) (v : Value) (after : ℕ) → AreBytes piece → read_at at piece ≡ Ok (v, after) → Begins at piece v after
unfolding read_at
read_found at piece v after fits h =
    let r = bind_ok (tree_at piece) (λ x. Ok (x.0, at + (length piece - length x.1))) (v, after) h in
    let e = ok_is (r.0.0, at + (length piece - length r.0.1)) (v, after) (Ok (r.0.0, at + (length piece - length r.0.1))) refl r.2 in
    let t = tree_takes piece r.0.1 r.0.0 fits r.1 in
    let lengths : length piece ≡ length t.0 + length r.0.1 = ap length t.1 ∙ length-append t.0 r.0.1 in
    let place : at + (length piece - length r.0.1) ≡ at + length t.0 = omega arith in
    subst (λ (x : Value × ℕ). Begins at piece x.0 x.1) e (t.0, r.0.1, t.1, t.2, place)

read_only : (at : ℕ) (piece : List ℕ) (v : Value) (after : ℕ) → Begins at piece v after → read_at at piece ≡ Ok (v, after)
unfolding read_at
read_only at piece v after b =
    let read : tree_at piece ≡ Ok (v, b.1) = ap tree_at b.2 ∙ tree_again b.0 b.1 v b.3 in
    let lengths : length piece ≡ length b.0 + length b.1 = ap length b.2 ∙ length-append b.0 b.1 in
    let place : at + (length piece - length b.1) ≡ after = omega (arith, b.4) in
    rw read (ap (λ (n : ℕ). Ok (v, n)) place)

pub answer_found : {X : Type 0} (see : X → Value × ℕ) (r : Result X ThriftFault) (at : ℕ) (piece : List ℕ) → AreBytes piece → DecodesOrRunsOut see r (read_at at piece)
    → IfOk r (λ x. Begins at piece (see x).0 (see x).1)
answer_found see (Ok x) at piece fits h = read_found at piece (see x).0 (see x).1 fits h
answer_found see (Err e) at piece fits h = tt

pub answer_only : {X : Type 0} (see : X → Value × ℕ) (r : Result X ThriftFault) (at : ℕ) (piece : List ℕ) → DecodesOrRunsOut see r (read_at at piece)
    → (v : Value) (after : ℕ) → Begins at piece v after → DecodesOrRunsOut {Y = Value × ℕ} see r (Ok (v, after))
answer_only see r at piece h v after b = subst (λ (read : Result (Value × ℕ) ThriftFault). DecodesOrRunsOut see r read) (read_only at piece v after b) h

-- one list of bytes is no front of two spellings
pub one_of : (a b x y : List ℕ) (v w : Value) → Spells a v → Spells b w → a ++ x ≡ b ++ y → (v ≡ w) × (a ≡ b)
one_of a b x y v w h g e =
    let same = ok_is (v, x) (w, y) (tree_at (a ++ x)) (tree_again a x v h) (ap tree_at e ∙ tree_again b y w g) in
    let values : v ≡ w = ap (λ (p : Value × List ℕ). p.0) same in
    (values, h.whole ∙ ap spelling values ∙ sym g.whole)
