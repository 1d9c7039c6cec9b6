-- What a disk stands for while a frame of batches is appended, and afterwards.
use Rattle.std.proofs.Common.{◌≡◌, ℕ, suc, ◌+◌, ⊎_elim, false, List, [], ◌∷◌, ◌++◌, length, take, sym, ◌∙◌, ap, subst, arith, append_assoc, length-append}
use Rattle.std.proofs.lemmas.List.{append-nil}
use Rattle.fd_kinds.specs.History.{History}
use Rattle.fd_device.specs.Disks.{Files, Steps, Reaches, Follows, OthersStay, IsDurable}
use Rattle.fd_wal.specs.Frames.{Frame, Transactions, frame_bytes}
use Rattle.fd_wal.specs.Logs.{is_rotated, IsLog}
use Rattle.fd_keeper.specs.Blocks.{Block, log_of, history_in, recovered, Extends}
use Rattle.fd_keeper.specs.Keepers.{EndsWithClosedGate, Appends, Rests, IsNext}
use Rattle.fd_keeper.proofs.Appending.{front_is}
use Rattle.fd_keeper.proofs.Recovery.{rotated_append}
use Rattle.fd_keeper.proofs.Growth.{Opens, gated, transactions_images, recovers_anew, recovered_append, extends_none, extends_all}

module _ {D : Type 0} (seen : D → Files) (may_leave : D → Files → Type 0) (opens : Opens) (disk : D) (block gate synced : ℕ) (closed : List Block) (active : List Frame) (rests : Rests seen may_leave disk block gate synced closed active) (frame bytes : List ℕ) (n : ℕ) (batches : History) (next : IsNext closed active frame n batches) (same : bytes ≡ frame ++ 0 ∷ []) where
  is_gated : bytes ≡ gated (Transactions n batches)
  is_gated = same ∙ ap (λ (l : List ℕ). l ++ 0 ∷ []) next.spelled

  pub extends_images : (image : Files) → Reaches (Steps (log_of block) (Appends gate bytes)) (may_leave disk) image → Extends (recovered closed active) batches image
  extends_images image (before, left, steps) =
      let log : IsLog (before (log_of block)) (1 + length (history_in closed)) active gate = subst (λ (l : List ℕ). IsLog l (1 + length (history_in closed)) active gate) (sym (rests.durable before left)) rests.log in
      let as_gated : Steps (log_of block) (Appends gate (gated (Transactions n batches))) before image = subst (λ (l : List ℕ). Steps (log_of block) (Appends gate l) before image) is_gated steps in
      ⊎_elim (extends_none closed active batches image) (extends_all closed active n batches image)
      (transactions_images block closed rests.number opens gate n active batches before image next.right (rests.images before left) log as_gated)

  module _ (new : D) (done : seen new (log_of block) ≡ take gate (seen disk (log_of block)) ++ 1 ∷ bytes) (others : OthersStay (log_of block) (seen disk) (seen new)) (durable : IsDurable (log_of block) (seen new) (may_leave new)) (crash : Follows (Steps (log_of block) (Appends gate bytes)) (may_leave disk) (may_leave new)) (place count : ℕ) (place_is : place ≡ gate + length bytes) (counts : count ≡ length batches) where
    abbrev grown : List Frame
    grown = active ++ Transactions n batches ∷ []

    unended : is_rotated grown ≡ false
    unended = rotated_append active (Transactions n batches ∷ []) rests.recovers.unended

    sized : length bytes ≡ length frame + 1
    sized = ap length same ∙ length-append frame (0 ∷ [])

    new_log : IsLog (seen new (log_of block)) (1 + length (history_in closed)) grown place
    new_log =
        let opened = opens (seen disk (log_of block)) [] (1 + length (history_in closed)) active gate (Transactions n batches) rests.log next.right in
        let long : length frame ≡ length (frame_bytes (Transactions n batches)) = ap length next.spelled in
        let at : gate + 1 + length (frame_bytes (Transactions n batches)) ≡ place = omega (arith, long, sized, place_is) in
        let is : take gate (seen disk (log_of block)) ++ 1 ∷ gated (Transactions n batches) ≡ seen new (log_of block) = ap (λ (l : List ℕ). take gate (seen disk (log_of block)) ++ 1 ∷ l) (sym is_gated) ∙ sym done in
        subst (λ (l : List ℕ). IsLog l (1 + length (history_in closed)) grown place) is (subst (λ (k : ℕ). IsLog (take gate (seen disk (log_of block)) ++ 1 ∷ gated (Transactions n batches)) (1 + length (history_in closed)) grown k) at opened)

    new_end : EndsWithClosedGate place (seen new (log_of block))
    new_end =
        let front = take gate (seen disk (log_of block)) in
        let long : length front ≡ gate = ap length (front_is gate (seen disk (log_of block)) rests.last) ∙ rests.last.place in
        let both : length (front ++ 1 ∷ frame) ≡ length front + suc (length frame) = length-append front (1 ∷ frame) in
        record {
          front = front ++ 1 ∷ frame;
          place = omega (arith, long, both, sized, place_is);
          whole = done ∙ ap (λ (l : List ℕ). front ++ 1 ∷ l) same ∙ sym (append_assoc front (1 ∷ frame) (0 ∷ []));
        }

    counted : synced + count ≡ length (recovered closed grown)
    counted =
        let all : length (recovered closed grown) ≡ length (recovered closed active) + length (batches ++ []) =
        ap length (recovered_append closed active (Transactions n batches ∷ [])) ∙ length-append (recovered closed active) (batches ++ []) in
        let tail : length (batches ++ []) ≡ length batches = ap length (append-nil batches) in
        let was = rests.count in
        omega (arith, all, tail, was, counts)

    pub rests_after : Rests seen may_leave new block place (synced + count) closed grown
    rests_after = record {
      number = rests.number;
      count = counted;
      log = new_log;
      last = new_end;
      durable = durable;
      recovers = recovers_anew block closed rests.number (seen disk) (seen new) active grown place others rests.recovers new_log unended;
      images = λ image left.
          let was = crash image left in
          let log : IsLog (image (log_of block)) (1 + length (history_in closed)) grown place = subst (λ (l : List ℕ). IsLog l (1 + length (history_in closed)) grown place) (sym (durable image left)) new_log in
          recovers_anew block closed rests.number was.0 image active grown place was.2.others (rests.images was.0 was.1) log unended;
    }
