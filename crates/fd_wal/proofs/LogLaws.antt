-- A log is one thing, and no bytes are both a log and damaged.
use Rattle.std.proofs.Common.{◌≡◌, ℕ, zero, suc, ◌+◌, ◌*◌, ◌^◌, ◌<◌, ◌⊎◌, inl, inr, List, [], ◌∷◌, ◌++◌, length, take, drop, refl, sym, ap, subst, ◌∙◌, append_assoc, arith}
use Rattle.std.specs.Prelude.{Some}
use Rattle.std.specs.List.{AllByRecursion}
use Rattle.std.specs.Int.{w32, w64, to_le_bytes}
use Rattle.sha2.specs.Sha256.{sha256, digest_bytes, final_hash, initial_hash_256}
use Rattle.std.proofs.lemmas.Option.{same_Some}
use Rattle.std.proofs.lemmas.List.{append-nil, length-append, take_at, drop_at}
use Rattle.fd_wal.specs.Frames.{Frame, Transactions, Rotation, payload, framed, frame_bytes, log_bytes}
use Rattle.fd_wal.specs.Logs.{Continues, FollowOn, AreFrames, IsOpen, IsClosed, IsLog, IsDamaged}
use Rattle.fd_wal.specs.Reading.{number_at, transactions_at, ended}
use Rattle.fd_wal.proofs.Numbers.{wide32, wide64, number_again}
use Rattle.fd_wal.proofs.Payloads.{FrameFits, transactions_body, transactions_again, transactions_fit}

-- ---- frames

digest_length : (h : List ℕ) (n : ℕ) → length (digest_bytes h n) ≡ 4 * n
unfolding digest_bytes
digest_length h zero = refl
digest_length h (suc n) =
    let less = digest_length h n in
    length-append (digest_bytes h n) _ ∙ omega (arith, less)

pub sha256_length : (bytes : List ℕ) → length (sha256 bytes) ≡ 32
unfolding sha256
sha256_length bytes = digest_length (final_hash initial_hash_256 bytes) 8

-- two fronts of the same length
same_fronts : (a b x y : List ℕ) → a ++ x ≡ b ++ y → length a ≡ length b → (a ≡ b) × (x ≡ y)
same_fronts a b x y e len = (
  sym (take_at a x (length a) refl) ∙ ap (take (length a)) e ∙ take_at b y (length a) (sym len),
  sym (drop_at a x (length a) refl) ∙ ap (drop (length a)) e ∙ drop_at b y (length a) (sym len),
)

pub one_framing : (p q x y : List ℕ) → length p < 2 ^ 32 → length q < 2 ^ 32 → framed p ++ x ≡ framed q ++ y → (p ≡ q) × (x ≡ y)
one_framing p q x y small short e =
    let first : number_at w32 (framed p ++ x) ≡ Some (length p, (sha256 p ++ p) ++ x) = number_again w32 (2 ^ 32) wide32 (length p) ((sha256 p ++ p) ++ x) small in
    let second : number_at w32 (framed q ++ y) ≡ Some (length q, (sha256 q ++ q) ++ y) = number_again w32 (2 ^ 32) wide32 (length q) ((sha256 q ++ q) ++ y) short in
    let heads : ◌≡◌ {A = ℕ × List ℕ} (length p, (sha256 p ++ p) ++ x) (length q, (sha256 q ++ q) ++ y) = same_Some _ _ (sym first ∙ ap (number_at w32) e ∙ second) in
    let sizes : length p ≡ length q = ap (λ (z : ℕ × List ℕ). z.0) heads in
    let tails : sha256 p ++ (p ++ x) ≡ sha256 q ++ (q ++ y) = sym (append_assoc (sha256 p) p x) ∙ ap (λ (z : ℕ × List ℕ). z.1) heads ∙ append_assoc (sha256 q) q y in
    let digests = same_fronts (sha256 p) (sha256 q) (p ++ x) (q ++ y) tails (sha256_length p ∙ sym (sha256_length q)) in
    same_fronts p q x y digests.1 sizes

-- a frame that is read from its bytes
pub record FrameIs (frame : Frame) : Type 0 where
  pub fits : FrameFits frame
  pub short : length (payload frame) < 2 ^ 32

number_is : (m n : ℕ) → m < 2 ^ 64 → n < 2 ^ 64 → to_le_bytes w64 m ≡ to_le_bytes w64 n → m ≡ n
number_is m n small below e =
    let a : number_at w64 (to_le_bytes w64 m ++ []) ≡ Some (m, []) = number_again w64 (2 ^ 64) wide64 m [] small in
    let b : number_at w64 (to_le_bytes w64 n ++ []) ≡ Some (n, []) = number_again w64 (2 ^ 64) wide64 n [] below in
    ap (λ (z : ℕ × List ℕ). z.0) (same_Some (m, []) (n, []) (sym a ∙ ap (λ (t : List ℕ). number_at w64 (t ++ [])) e ∙ b))

abbrev behind : List ℕ → List ℕ
behind [] = []
behind (b ∷ bytes) = bytes

one_payload : (f g : Frame) → FrameFits f → FrameFits g → payload f ≡ payload g → f ≡ g
one_payload (Transactions m a) (Transactions n b) fit also e =
    let bodies : transactions_body m a ≡ transactions_body n b = ap (λ (t : List ℕ). behind (behind t)) e in
    same_Some (Transactions m a) (Transactions n b) (sym (transactions_again m a fit) ∙ ap (λ (t : List ℕ). ended (transactions_at t)) bodies ∙ transactions_again n b also)
one_payload (Transactions m a) (Rotation hi) fit also e = absurd (cc)
one_payload (Rotation lo) (Transactions n b) fit also e = absurd (cc)
one_payload (Rotation lo) (Rotation hi) fit also e = ap (λ (n : ℕ). Rotation n) (number_is lo hi fit also (ap (λ (t : List ℕ). behind (behind t)) e))

pub one_frame : (f g : Frame) (x y : List ℕ) → FrameIs f → FrameIs g → frame_bytes f ++ x ≡ frame_bytes g ++ y → (f ≡ g) × (x ≡ y)
one_frame f g x y is also e =
    let both = one_framing (payload f) (payload g) x y is.short also.short e in
    (one_payload f g is.fits also.fits both.0, both.1)

-- ---- lists of frames

pub frame_is : (first : ℕ) (before : List Frame) (f : Frame) → Continues first before f → FrameIs f
frame_is first before (Transactions n batches) right = record { fits = transactions_fit n batches right.transactions; short = right.transactions.short }
frame_is first before (Rotation hi) right = let below = right.below in record { fits = omega (arith, below); short = omega arith }

frames_are : (first : ℕ) (before frames : List Frame) → FollowOn first before frames → AllByRecursion FrameIs frames
frames_are first before [] right = tt
frames_are first before (f ∷ frames) right = (frame_is first before f right.0, frames_are first (before ++ f ∷ []) frames right.1)

-- one more frame, at the end and in the middle
pub follow_more : (first : ℕ) (before frames : List Frame) (f : Frame) → FollowOn first before frames → Continues first (before ++ frames) f → FollowOn first before (frames ++ f ∷ [])
follow_more first before [] f right last = (subst (λ (fs : List Frame). Continues first fs f) (append-nil before) last, tt)
follow_more first before (g ∷ frames) f right last =
    (right.0, follow_more first (before ++ g ∷ []) frames f right.1 (subst (λ (fs : List Frame). Continues first fs f) (sym (append_assoc before (g ∷ []) frames)) last))

follow_at : (first : ℕ) (before frames : List Frame) (f : Frame) (more : List Frame) → FollowOn first before (frames ++ f ∷ more) → Continues first (before ++ frames) f
follow_at first before [] f more right = subst (λ (fs : List Frame). Continues first fs f) (sym (append-nil before)) right.0
follow_at first before (g ∷ frames) f more right =
    subst (λ (fs : List Frame). Continues first fs f) (append_assoc before (g ∷ []) frames) (follow_at first (before ++ g ∷ []) frames f more right.1)

pub log_more : (frames : List Frame) (f : Frame) (rest : List ℕ) → log_bytes (frames ++ f ∷ []) rest ≡ log_bytes frames (1 ∷ (frame_bytes f ++ rest))
log_more [] f rest = refl
log_more (g ∷ frames) f rest = ap (λ (t : List ℕ). 1 ∷ (frame_bytes g ++ t)) (log_more frames f rest)

-- of two readings of the same bytes one goes on where the other ends
pub record GoesFurther (frames others : List Frame) (rest behind : List ℕ) : Type 0 where
  pub more : List Frame
  pub frames_are : others ≡ frames ++ more
  pub rest_is : rest ≡ log_bytes more behind

compare : (fs gs : List Frame) (r s : List ℕ) → AllByRecursion FrameIs fs → AllByRecursion FrameIs gs → log_bytes fs r ≡ log_bytes gs s → GoesFurther fs gs r s ⊎ GoesFurther gs fs s r
compare [] gs r s is also e = inl (record { more = gs; frames_are = refl; rest_is = e })
compare (f ∷ fs) [] r s is also e = inr (record { more = f ∷ fs; frames_are = refl; rest_is = sym e })
compare (f ∷ fs) (g ∷ gs) r s is also e =
    let one = one_frame f g (log_bytes fs r) (log_bytes gs s) is.0 also.0 (ap behind e) in
    elim (compare fs gs r s is.1 also.1 one.1) [
      | inl m ↦ inl (record { more = m.more; frames_are = ap (λ (h : Frame). h ∷ gs) (sym one.0) ∙ ap (λ (hs : List Frame). f ∷ hs) m.frames_are; rest_is = m.rest_is })
      | inr m ↦ inr (record { more = m.more; frames_are = ap (λ (h : Frame). h ∷ fs) one.0 ∙ ap (λ (hs : List Frame). g ∷ hs) m.frames_are; rest_is = m.rest_is })
    ]

-- ---- gates

one_gate : (rest : List ℕ) → IsOpen rest → IsClosed rest → ⊥
one_gate [] o c = o
one_gate (gate ∷ []) o c = o
one_gate (gate ∷ next ∷ rest) o c = c o

open_some : (rest : List ℕ) → IsOpen rest → 0 < length rest
open_some [] o = absurd o
open_some (gate ∷ rest) o = omega arith

-- a frame behind an open gate
framed_open : (f : Frame) (rest : List ℕ) → IsClosed (1 ∷ (frame_bytes f ++ rest)) → ⊥
framed_open f rest c = c refl

-- ---- the laws

-- a reading that ends at a closed gate goes no further
closed_ends : (frames others : List Frame) (rest behind : List ℕ) → IsClosed rest → GoesFurther frames others rest behind → (others ≡ frames) × (rest ≡ behind)
closed_ends frames others rest behind closed further = by further.more further.frames_are further.rest_is
  where
    by : (more : List Frame) → others ≡ frames ++ more → rest ≡ log_bytes more behind → (others ≡ frames) × (rest ≡ behind)
    by [] same e = (same ∙ append-nil frames, e)
    by (m ∷ more) same e = absurd (framed_open m (log_bytes more behind) (subst IsClosed e closed))

same_place : (a b : ℕ) (r s bytes : List ℕ) → r ≡ s → a + length r ≡ length bytes → b + length s ≡ length bytes → a ≡ b
same_place a b r s bytes e p q = let n : length r ≡ length s = ap length e in omega (arith, n, p, q)

pub one_log_by : (bytes : List ℕ) (first : ℕ) (frames others : List Frame) (gate place : ℕ) → IsLog bytes first frames gate → IsLog bytes first others place → (frames ≡ others) × (gate ≡ place)
one_log_by bytes first frames others gate place a b =
    elim (compare frames others a.rest b.rest (frames_are first [] frames a.right) (frames_are first [] others b.right) (sym a.spelled ∙ b.spelled)) [
      | inl m ↦ let e = closed_ends frames others a.rest b.rest a.closed m in (sym e.0, same_place gate place a.rest b.rest bytes e.1 a.place b.place)
      | inr m ↦ let e = closed_ends others frames b.rest a.rest b.closed m in (e.0, same_place gate place a.rest b.rest bytes (sym e.1) a.place b.place)
    ]

-- behind frames there is a byte, where there is one behind the last
some_behind : (frames : List Frame) (rest : List ℕ) → 0 < length rest → 0 < length (log_bytes frames rest)
some_behind [] rest some = some
some_behind (f ∷ frames) rest some = omega arith

-- where a reading is stuck, no other goes on
stuck_ends : (bytes : List ℕ) (first at : ℕ) (damaged : IsDamaged bytes first at) (others : List Frame) (behind : List ℕ) → 0 < length behind → AreFrames first others
    → GoesFurther damaged.frames others damaged.rest behind → damaged.rest ≡ behind
stuck_ends bytes first at damaged others behind some right further = by further.more further.frames_are further.rest_is
  where
    by : (more : List Frame) → others ≡ damaged.frames ++ more → damaged.rest ≡ log_bytes more behind → damaged.rest ≡ behind
    by [] same e = e
    by (m ∷ more) same e =
        absurd (damaged.stuck m (log_bytes more behind) e (some_behind more behind some)
        (follow_at first [] damaged.frames m more (subst (AreFrames first) same right)))

pub not_both_by : (bytes : List ℕ) (first : ℕ) (frames : List Frame) (gate at : ℕ) → IsLog bytes first frames gate → IsDamaged bytes first at → ⊥
not_both_by bytes first frames gate at a b =
    elim (compare frames b.frames a.rest b.rest (frames_are first [] frames a.right) (frames_are first [] b.frames b.right) (sym a.spelled ∙ b.spelled)) [
      | inl m ↦ one_gate b.rest b.opened (subst IsClosed (closed_ends frames b.frames a.rest b.rest a.closed m).1 a.closed)
      | inr m ↦ further m
    ]
  where
    further : GoesFurther b.frames frames b.rest a.rest → ⊥
    further m = by a.rest refl
      where
        by : (rest : List ℕ) → a.rest ≡ rest → ⊥
        by [] e = nothing m.more m.frames_are m.rest_is
          where
            nothing : (more : List Frame) → frames ≡ b.frames ++ more → b.rest ≡ log_bytes more a.rest → ⊥
            nothing [] same is = one_gate b.rest b.opened (subst IsClosed (sym is) a.closed)
            nothing (f ∷ more) same is =
                let some : 0 < length frames = omega (arith, ap length same, length-append b.frames (f ∷ more)) in
                let there : 0 < length a.rest = a.gated some in
                omega (arith, there, ap length e)
        by (gate ∷ rest) e =
            let some : 0 < length a.rest = omega (arith, ap length e) in
            one_gate b.rest b.opened (subst IsClosed (sym (stuck_ends bytes first at b frames a.rest some a.right m)) a.closed)

pub one_damage_by : (bytes : List ℕ) (first at place : ℕ) → IsDamaged bytes first at → IsDamaged bytes first place → at ≡ place
one_damage_by bytes first at place a b =
    elim (compare a.frames b.frames a.rest b.rest (frames_are first [] a.frames a.right) (frames_are first [] b.frames b.right) (sym a.spelled ∙ b.spelled)) [
      | inl m ↦ same_place at place a.rest b.rest bytes (stuck_ends bytes first at a b.frames b.rest (open_some b.rest b.opened) b.right m) a.place b.place
      | inr m ↦ same_place at place a.rest b.rest bytes (sym (stuck_ends bytes first place b a.frames a.rest (open_some a.rest a.opened) a.right m)) a.place b.place
    ]
