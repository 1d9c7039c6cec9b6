-- What the two steps of writing a frame leave of a log, and of all files.
use Rattle.std.proofs.Common.{◌≡◌, ℕ, suc, ◌+◌, ◌<◌, ◌≤◌, List, [], ◌∷◌, ◌++◌, length, take, drop, get_or, inl, inr, refl, sym, ◌∙◌, ap, subst, arith, append_assoc, length-append, take-append-drop, eq-eqb}
use Rattle.std.proofs.lemmas.List.{take_at, drop_at, drop_more, take_all, drop_all, append-nil}
use Rattle.std.proofs.lemmas.Bool.{cond-true}
use Rattle.fd_device.specs.declared.files.FileId.{FileId}
use Rattle.fd_device.specs.Disks.{Files, written, changed, same_file, Torn, Steps, Reaches, Follows, IsDurable}
use Rattle.fd_keeper.specs.Blocks.{log_of}
use Rattle.fd_keeper.specs.Keepers.{EndsWithClosedGate, Shut, Whole, Appends}

pub front_is : (gate : ℕ) (old : List ℕ) (e : EndsWithClosedGate gate old) → take gate old ≡ e.front
front_is gate old e = ap (take gate) e.whole ∙ take_at e.front (0 ∷ []) gate e.place

pub ends_length : (gate : ℕ) (old : List ℕ) → EndsWithClosedGate gate old → length old ≡ gate + 1
ends_length gate old e = ap length e.whole ∙ length-append e.front (0 ∷ []) ∙ ap (λ (n : ℕ). n + 1) e.place

front_length : (gate : ℕ) (old : List ℕ) → EndsWithClosedGate gate old → length (take gate old) ≡ gate
front_length gate old e = ap length (front_is gate old e) ∙ e.place

-- the gate stays closed while something is written behind it
pub shut : (gate n : ℕ) (old new : List ℕ) → EndsWithClosedGate gate old → Torn (gate + 1) n old new → Shut gate old new
shut gate n old new e torn = record {
  tail = drop (gate + 1) new;
  whole =
      let long : length old ≡ gate + 1 = ends_length gate old e in
      let front : take (gate + 1) new ≡ e.front ++ 0 ∷ [] = torn.before ∙ take_all (gate + 1) old (omega (arith, long)) ∙ e.whole in
      sym (take-append-drop (gate + 1) new)
      ∙ ap (λ (l : List ℕ). l ++ drop (gate + 1) new) front
      ∙ append_assoc e.front (0 ∷ []) (drop (gate + 1) new)
      ∙ ap (λ (l : List ℕ). l ++ 0 ∷ drop (gate + 1) new) (sym (front_is gate old e));
}

-- the frame stands behind the closed gate
pub staged : (gate : ℕ) (frame old : List ℕ) → EndsWithClosedGate gate old → written (gate + 1) frame old ≡ take gate old ++ 0 ∷ frame
staged gate frame old e =
    let long : length old ≡ gate + 1 = ends_length gate old e in
    ap (λ (l : List ℕ). l ++ frame ++ drop (gate + 1 + length frame) old) (take_all (gate + 1) old (omega (arith, long)))
    ∙ ap (λ (l : List ℕ). old ++ frame ++ l) (drop_all (gate + 1 + length frame) old (omega (arith, long)))
    ∙ append-nil (old ++ frame)
    ∙ ap (λ (l : List ℕ). l ++ frame) e.whole
    ∙ append_assoc e.front (0 ∷ []) frame
    ∙ ap (λ (l : List ℕ). l ++ 0 ∷ frame) (sym (front_is gate old e))

behind : (gate : ℕ) (front frame : List ℕ) → length front ≡ gate → drop (gate + 1) (front ++ 0 ∷ frame) ≡ frame
behind gate front frame place =
    ap (λ (l : List ℕ). drop (gate + 1) l) (sym (append_assoc front (0 ∷ []) frame))
    ∙ drop_at (front ++ 0 ∷ []) frame (gate + 1) (length-append front (0 ∷ []) ∙ ap (λ (n : ℕ). n + 1) place)

-- the gate is opened
pub opened : (gate : ℕ) (front frame mid : List ℕ) → length front ≡ gate → mid ≡ front ++ 0 ∷ frame → written gate (1 ∷ []) mid ≡ front ++ 1 ∷ frame
opened gate front frame mid place is =
    ap (λ (l : List ℕ). written gate (1 ∷ []) l) is
    ∙ ap (λ (l : List ℕ). l ++ (1 ∷ []) ++ drop (gate + 1) (front ++ 0 ∷ frame)) (take_at front (0 ∷ frame) gate place)
    ∙ ap (λ (l : List ℕ). front ++ (1 ∷ []) ++ l) (behind gate front frame place)
    ∙ append_assoc front (1 ∷ []) frame

-- while it is opened, the frame stands behind it
pub torn_gate : (gate : ℕ) (old frame mid new : List ℕ) → EndsWithClosedGate gate old → mid ≡ take gate old ++ 0 ∷ frame → Torn gate 1 mid new → Whole gate frame old new
torn_gate gate old frame mid new e is torn =
    let front = take gate old in
    let place : length front ≡ gate = front_length gate old e in
    let long : length mid ≡ gate + suc (length frame) = ap length is ∙ length-append front (0 ∷ frame) ∙ ap (λ (n : ℕ). n + suc (length frame)) place in
    let more = torn.no_shorter in
    let some : gate < length new = omega (arith, more, long) in
    let rest : drop gate new ≡ get_or new gate 0 ∷ frame =
    drop_more new gate 0 some ∙ ap (λ (l : List ℕ). get_or new gate 0 ∷ l) (torn.after ∙ ap (λ (l : List ℕ). drop (gate + 1) l) is ∙ behind gate front frame place) in
    record {
      byte = get_or new gate 0;
      whole =
          sym (take-append-drop gate new)
          ∙ ap (λ (l : List ℕ). l ++ drop gate new) (torn.before ∙ ap (λ (l : List ℕ). take gate l) is ∙ take_at front (0 ∷ frame) gate place)
          ∙ ap (λ (l : List ℕ). front ++ l) rest;
    }

-- ---- the same of all files

pub changed_log : (block : ℕ) (change : List ℕ → List ℕ) (files next : Files) → next ≡ changed (log_of block) change files → next (log_of block) ≡ change (files (log_of block))
changed_log block change files next is =
    ap (λ (g : Files). g (log_of block)) is ∙ cond-true (same_file (log_of block) (log_of block)) (change (files (log_of block))) (files (log_of block)) (eq-eqb block block refl)

module _ (block gate : ℕ) (frame : List ℕ) (seen : Files) (may_leave : Files → Type 0) (ends : EndsWithClosedGate gate (seen (log_of block))) (durable : IsDurable (log_of block) seen may_leave) where
  abbrev log : FileId
  log = log_of block

  ends_in : (image : Files) → may_leave image → EndsWithClosedGate gate (image log)
  ends_in image left = subst (λ (l : List ℕ). EndsWithClosedGate gate l) (sym (durable image left)) ends

  -- the images of the first write
  pub first_images : (image : Files) → Reaches (Steps log (Torn (gate + 1) (length frame))) may_leave image → Reaches (Steps log (Appends gate frame)) may_leave image
  first_images image (before, left, steps) =
      (before, left, record { here = inl (shut gate (length frame) (before log) (image log) (ends_in before left) steps.here); others = steps.others })

  pub fits_behind : gate + 1 ≤ length (seen log)
  fits_behind = let long = ends_length gate (seen log) ends in omega (arith, long)

  module _ (mid : Files) (may_leave_mid : Files → Type 0) (one : mid ≡ changed log (written (gate + 1) frame) seen) (durable_mid : IsDurable log mid may_leave_mid) (follows : Follows (Steps log (Torn (gate + 1) (length frame))) may_leave may_leave_mid) where
    is_staged : mid log ≡ take gate (seen log) ++ 0 ∷ frame
    is_staged = changed_log block (written (gate + 1) frame) seen mid one ∙ staged gate frame (seen log) ends

    pub fits_gate : gate ≤ length (mid log)
    fits_gate =
        let long : length (mid log) ≡ gate + suc (length frame) =
        ap length is_staged ∙ length-append (take gate (seen log)) (0 ∷ frame) ∙ ap (λ (n : ℕ). n + suc (length frame)) (front_length gate (seen log) ends) in
        omega (arith, long)

    -- the images of the second
    pub second_images : (image : Files) → Reaches (Steps log (Torn gate 1)) may_leave_mid image → Reaches (Steps log (Appends gate frame)) may_leave image
    second_images image (between, left, steps) =
        let was = follows between left in
        let before = was.0 in
        let same : between log ≡ take gate (before log) ++ 0 ∷ frame =
        durable_mid between left ∙ is_staged ∙ ap (λ (l : List ℕ). take gate l ++ 0 ∷ frame) (sym (durable before was.1)) in (
          before,
          was.1,
          record {
            here = inr (torn_gate gate (before log) frame (between log) (image log) (ends_in before was.1) same steps.here);
            others = λ f other. steps.others f other ∙ was.2.others f other;
          },
        )

    pub is_appended : (last : Files) → last ≡ changed log (written gate (1 ∷ [])) mid → last log ≡ take gate (seen log) ++ 1 ∷ frame
    is_appended last two = changed_log block (written gate (1 ∷ [])) mid last two ∙ opened gate (take gate (seen log)) frame (mid log) (front_length gate (seen log) ends) is_staged

    pub second_follows : (may_leave_last : Files → Type 0) → Follows (Steps log (Torn gate 1)) may_leave_mid may_leave_last → Follows (Steps log (Appends gate frame)) may_leave may_leave_last
    second_follows may_leave_last two image left = second_images image (two image left)
