-- The end of a log: what stands behind its closed gate counts for nothing.
use Rattle.std.proofs.Common.{◌≡◌, ℕ, zero, suc, ◌+◌, ◌-◌, ◌<◌, ◌≤◌, min, List, [], ◌∷◌, ◌++◌, length, take, drop, refl, sym, ◌∙◌, ap, subst, arith, append_assoc, length-append, take-append-drop, length-drop}
use Rattle.std.proofs.Math.Seq.{take-append-add}
use Rattle.std.proofs.lemmas.List.{append-nil, take_all, drop_all, take_at, length-take, length-take-le, take-append-le}
use Rattle.fd_device.specs.Disks.{Torn, Cut, written}
use Rattle.fd_wal.specs.Frames.{Frame, frame_bytes, log_bytes}
use Rattle.fd_wal.specs.Logs.{IsClosed, IsLog}
use Rattle.fd_keeper.specs.Keepers.{EndsWithClosedGate}

log_front : (frames : List Frame) (rest : List ℕ) → log_bytes frames rest ≡ log_bytes frames [] ++ rest
log_front [] rest = refl
log_front (f ∷ frames) rest = ap (λ (t : List ℕ). 1 ∷ t) (ap (λ (t : List ℕ). frame_bytes f ++ t) (log_front frames rest) ∙ sym (append_assoc (frame_bytes f) (log_bytes frames []) rest))

short_closed : (tail : List ℕ) → length tail ≤ 1 → IsClosed tail
short_closed [] short = tt
short_closed (a ∷ []) short = tt
short_closed (a ∷ b ∷ tail) short = absurd (omega (arith, short))

closed_front : (n : ℕ) (rest : List ℕ) → IsClosed rest → IsClosed (take n rest)
closed_front zero rest shut = tt
closed_front (suc n) [] shut = subst IsClosed (sym (take_all (suc n) [] (omega arith))) tt
closed_front (suc n) (a ∷ []) shut = subst IsClosed (sym (take_all (suc n) (a ∷ []) (omega arith))) tt
closed_front (suc zero) (a ∷ b ∷ rest) shut = tt
closed_front (suc (suc n)) (a ∷ b ∷ rest) shut = shut

-- the bytes before the gate
front_take : (n gate : ℕ) (bytes : List ℕ) → gate ≤ n → n ≤ length bytes → take gate (take n bytes) ≡ take gate bytes
front_take n gate bytes less long =
    let fits : gate ≤ length (take n bytes) = omega (arith, length-take-le n bytes long, less) in
    sym (take-append-le gate (take n bytes) (drop n bytes) fits) ∙ ap (take gate) (take-append-drop n bytes)

module _ (bytes : List ℕ) (first gate : ℕ) (frames : List Frame) (log : IsLog bytes first frames gate) where
  split : bytes ≡ log_bytes frames [] ++ log.rest
  split = log.spelled ∙ log_front frames log.rest

  front_length : length (log_bytes frames []) ≡ gate
  front_length =
      let long : length bytes ≡ length (log_bytes frames []) + length log.rest = ap length split ∙ length-append (log_bytes frames []) log.rest in
      let place = log.place in
      omega (arith, long, place)

  before_gate : take gate bytes ≡ log_bytes frames []
  before_gate = ap (take gate) split ∙ take_at (log_bytes frames []) log.rest gate front_length

  pub gate_within : gate ≤ length bytes
  gate_within = let place = log.place in omega (arith, place)

  -- another end behind the frames
  ends_with : (new tail : List ℕ) → new ≡ take gate bytes ++ tail → IsClosed tail → (0 < length log.rest → 0 < length tail) → IsLog new first frames gate
  ends_with new tail is shut some =
      let whole : new ≡ log_bytes frames tail = is ∙ ap (λ (l : List ℕ). l ++ tail) before_gate ∙ sym (log_front frames tail) in
      let sum : length new ≡ gate + length tail = ap length is ∙ ap (λ (l : List ℕ). length (l ++ tail)) before_gate ∙ length-append (log_bytes frames []) tail ∙ ap (λ (n : ℕ). n + length tail) front_length in
      record { rest = tail; spelled = whole; place = sym sum; closed = shut; gated = λ any. some (log.gated any); right = log.right }

  module _ (end : ℕ) (end_is : end ≡ min (length bytes) (gate + 1)) where
    -- what a cut leaves
    pub cut_log : (new : List ℕ) → Cut end bytes new → IsLog new first frames gate
    cut_log new cut =
        let shorter = cut.no_shorter in
        let place = log.place in
        let more = length new - gate in
        let sum : length new ≡ length (log_bytes frames []) + more = omega (arith, shorter, end_is, place, front_length) in
        let parts : new ≡ log_bytes frames [] ++ take more log.rest =
        sym cut.front ∙ ap (λ (n : ℕ). take n bytes) sum ∙ ap (take (length (log_bytes frames []) + more)) split ∙ take-append-add (log_bytes frames []) log.rest more in
        ends_with new (take more log.rest) (parts ∙ ap (λ (l : List ℕ). l ++ take more log.rest) (sym before_gate)) (closed_front more log.rest log.closed)
        (λ some. omega (arith, some, length-take more log.rest, shorter, end_is, place))

    module _ (mid : List ℕ) (mid_is : mid ≡ take end bytes) where
      mid_length : length mid ≡ end
      mid_length = ap length mid_is ∙ length-take-le end bytes (omega (arith, end_is))

      mid_front : take gate mid ≡ take gate bytes
      mid_front = ap (take gate) mid_is ∙ front_take end gate bytes (omega (arith, end_is, gate_within)) (omega (arith, end_is))

      pub gate_fits : gate ≤ length mid
      gate_fits = omega (arith, mid_length, end_is, gate_within)

      -- what a torn write of the gate leaves
      pub torn_log : (new : List ℕ) → Torn gate 1 mid new → IsLog new first frames gate
      torn_log new torn =
          let longer = torn.no_shorter in
          let shorter = torn.no_longer in
          let place = log.place in
          ends_with new (drop gate new) (sym (take-append-drop gate new) ∙ ap (λ (l : List ℕ). l ++ drop gate new) (torn.before ∙ mid_front)) (short_closed (drop gate new) (omega (arith, length-drop gate new, shorter, mid_length, end_is)))
          (λ some. omega (arith, some, length-drop gate new, longer, mid_length, end_is, place))

      -- what the whole write leaves
      gate_is : (last : List ℕ) → last ≡ written gate (0 ∷ []) mid → last ≡ take gate bytes ++ 0 ∷ []
      gate_is last is =
          is
          ∙ ap (λ (l : List ℕ). take gate mid ++ (0 ∷ []) ++ l) (drop_all (gate + 1) mid (omega (arith, mid_length, end_is)))
          ∙ append-nil (take gate mid ++ 0 ∷ [])
          ∙ ap (λ (l : List ℕ). l ++ 0 ∷ []) mid_front

      pub written_log : (last : List ℕ) → last ≡ written gate (0 ∷ []) mid → IsLog last first frames gate
      written_log last is = ends_with last (0 ∷ []) (gate_is last is) tt (λ some. omega arith)

      pub written_ends : (last : List ℕ) → last ≡ written gate (0 ∷ []) mid → EndsWithClosedGate gate last
      written_ends last is = record { front = take gate bytes; place = length-take-le gate bytes gate_within; whole = gate_is last is }
