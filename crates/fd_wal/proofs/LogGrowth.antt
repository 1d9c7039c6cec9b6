-- What is written behind a gate, while it is closed and once it is open.
use Rattle.std.proofs.Common.{◌≡◌, ℕ, suc, ◌+◌, List, [], ◌∷◌, ◌++◌, length, take, refl, sym, ap, ◌∙◌, append_assoc, arith}
use Rattle.std.proofs.lemmas.List.{length-append, take_at}
use Rattle.fd_wal.specs.Frames.{Frame, frame_bytes, log_bytes}
use Rattle.fd_wal.specs.Logs.{Continues, IsClosed, IsLog}
use Rattle.fd_wal.proofs.LogLaws.{log_more, follow_more}

log_front : (frames : List Frame) (rest : List ℕ) → log_bytes frames rest ≡ log_bytes frames [] ++ rest
log_front [] rest = refl
log_front (f ∷ frames) rest = ap (λ t. 1 ∷ t) (ap (λ t. frame_bytes f ++ t) (log_front frames rest) ∙ sym (append_assoc (frame_bytes f) (log_bytes frames []) rest))

-- the bytes before the gate
before_gate : (bytes : List ℕ) (first : ℕ) (frames : List Frame) (gate : ℕ) (log : IsLog bytes first frames gate) → take gate bytes ≡ log_bytes frames []
before_gate bytes first frames gate log =
    let split : bytes ≡ log_bytes frames [] ++ log.rest = log.spelled ∙ log_front frames log.rest in
    let long : length bytes ≡ length (log_bytes frames []) + length log.rest = ap length split ∙ length-append (log_bytes frames []) log.rest in
    let place = log.place in
    ap (take gate) split ∙ take_at (log_bytes frames []) log.rest gate (omega (arith, long, place))

front_length : (bytes : List ℕ) (first : ℕ) (frames : List Frame) (gate : ℕ) (log : IsLog bytes first frames gate) → length (log_bytes frames []) ≡ gate
front_length bytes first frames gate log =
    let split : bytes ≡ log_bytes frames [] ++ log.rest = log.spelled ∙ log_front frames log.rest in
    let long : length bytes ≡ length (log_bytes frames []) + length log.rest = ap length split ∙ length-append (log_bytes frames []) log.rest in
    let place = log.place in
    omega (arith, long, place)

zero_closed : (tail : List ℕ) → IsClosed (0 ∷ tail)
zero_closed [] = tt
zero_closed (b ∷ tail) = λ e. omega (arith, e)

pub closed_gate : (bytes tail : List ℕ) (first : ℕ) (frames : List Frame) (gate : ℕ) → IsLog bytes first frames gate → IsLog (take gate bytes ++ 0 ∷ tail) first frames gate
closed_gate bytes tail first frames gate log =
    let front = before_gate bytes first frames gate log in
    let long = front_length bytes first frames gate log in
    let whole : take gate bytes ++ 0 ∷ tail ≡ log_bytes frames (0 ∷ tail) = ap (λ t. t ++ 0 ∷ tail) front ∙ sym (log_front frames (0 ∷ tail)) in
    let sum : length (take gate bytes ++ 0 ∷ tail) ≡ gate + length (0 ∷ tail) = ap (λ t. length (t ++ 0 ∷ tail)) front ∙ length-append (log_bytes frames []) (0 ∷ tail) ∙ ap (λ n. n + length (0 ∷ tail)) long in
    record { rest = 0 ∷ tail; spelled = whole; place = sym sum; closed = zero_closed tail; gated = λ _. omega arith; right = log.right }

pub one_more : (bytes tail : List ℕ) (first : ℕ) (frames : List Frame) (gate : ℕ) (frame : Frame) → IsLog bytes first frames gate → Continues first frames frame
    → IsLog (take gate bytes ++ 1 ∷ (frame_bytes frame ++ 0 ∷ tail)) first (frames ++ frame ∷ []) (gate + 1 + length (frame_bytes frame))
one_more bytes tail first frames gate frame log right =
    let front = before_gate bytes first frames gate log in
    let long = front_length bytes first frames gate log in
    let behind : List ℕ = 1 ∷ (frame_bytes frame ++ 0 ∷ tail) in
    let whole : take gate bytes ++ behind ≡ log_bytes (frames ++ frame ∷ []) (0 ∷ tail) = ap (λ t. t ++ behind) front ∙ sym (log_front frames behind) ∙ sym (log_more frames frame (0 ∷ tail)) in
    let inner = length-append (frame_bytes frame) (0 ∷ tail) in
    let added : length behind ≡ suc (length (frame_bytes frame ++ 0 ∷ tail)) = refl in
    let sum : length (take gate bytes ++ behind) ≡ gate + length behind = ap (λ t. length (t ++ behind)) front ∙ length-append (log_bytes frames []) behind ∙ ap (λ n. n + length behind) long in
    record {
      rest = 0 ∷ tail;
      spelled = whole;
      place = omega (arith, added, inner, sum);
      closed = zero_closed tail;
      gated = λ _. omega arith;
      right = follow_more first [] frames frame log.right right;
    }
