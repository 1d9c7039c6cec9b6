-- Rows in bytes: what is read is what was spelled, and what was spelled is read again.
use Rattle.std.proofs.Common.{◌≡◌, ℕ, ◌+◌, ◌*◌, ◌^◌, ◌<◌, ◌≤◌, ℤ, Bool, true, false, List, [], ◌∷◌, ◌++◌, length, All, IsTrue, refl, sym, ap, subst, ◌∙◌, append_assoc, arith}
use Rattle.std.specs.Prelude.{Some, None, IsUtf8, sum_by}
use Rattle.std.specs.List.{AllByRecursion}
use Rattle.std.proofs.Props.{props}
use mathlib.Core.HLevel.{Σ_prop_path}
use Rattle.std.proofs.lemmas.Option.{none-some, same_Some}
use Rattle.std.proofs.lemmas.List.{length-append}
use Rattle.std.proofs.lemmas.List.Elements.{All-from_recursion, recursion_from_All}
use Rattle.std.proofs.lemmas.List.Sums.{sum_by-cons}
use Rattle.fd_kinds.specs.declared.pair.Pair.{Pair}
use Rattle.fd_kinds.specs.declared.labels.Labels.{Labels}
use Rattle.fd_kinds.specs.declared.row.Row.{Row}
use Rattle.fd_kinds.specs.Labels.{are_labels}
use Rattle.fd_kinds.specs.RowSize.{text_size, pair_size, labels_size, stack_size, row_size}
use Rattle.fd_kinds.specs.RowSpelling.{text_spelling, pair_spelling, labels_spelling, stack_spelling, whole_spelling, row_spelling}
use Rattle.fd_wal.specs.Frames.{IsWhole, IsTextPair, IsRow}
use Rattle.fd_wal.specs.Reading.{◌>>=◌, Reading, whole_at, text_at, pair_at, list_at, checked_labels, labels_at, stack_at, Both, both_at, RowParts, numbers_at, row_parts_at, row_of, row_at, least_pair, least_text}
use Rattle.fd_wal.proofs.Numbers.{IsBytes, bind_some, Takes, Takes-then, IsText, IsPair, whole_takes, whole_again, text_takes, text_again, pair_takes, pair_again}
use Rattle.fd_wal.proofs.Many.{list_take, list_again}

-- ---- labels

-- pairs and frames that have a spelling
pub record PairsFit (pairs : List Pair) : Type 0 where
  pub few : length pairs < 2 ^ 32
  pub each : AllByRecursion IsPair pairs

pub record FramesFit (frames : List (List ℕ)) : Type 0 where
  pub few : length frames < 2 ^ 32
  pub each : AllByRecursion IsText frames

same_labels : (a b : Labels) → a.pairs ≡ b.pairs → a ≡ b
same_labels a b e =
    let both : ◌≡◌ {A = (ps : List Pair) × IsTrue (are_labels ps)} (a.pairs, a.in_order) (b.pairs, b.in_order) = Σ_prop_path (λ ps. hlevel props) e in
    λ i. record { pairs = (both i).0; in_order = (both i).1 }

checked_pairs : (pairs : List Pair) (b : Bool) (e : are_labels pairs ≡ b) (labels : Labels) → checked_labels pairs b e ≡ Some labels → labels.pairs ≡ pairs
checked_pairs pairs true e labels h = sym (ap (λ (l : Labels). l.pairs) (same_Some (record { pairs = pairs; in_order = e }) labels h))
checked_pairs pairs false e labels h = absurd (none-some labels h)

checked_is : (pairs : List Pair) (b : Bool) (e : are_labels pairs ≡ b) (labels : Labels) → labels.pairs ≡ pairs → checked_labels pairs b e ≡ Some labels
checked_is pairs true e labels same = ap (λ (l : Labels). Some l) (same_labels (record { pairs = pairs; in_order = e }) labels (sym same))
checked_is pairs false e labels same =
    let so : are_labels pairs ≡ true = ap are_labels (sym same) ∙ labels.in_order in
    absurd (cc)

pub checked_again : (labels : Labels) → checked_labels labels.pairs (are_labels labels.pairs) refl ≡ Some labels
checked_again labels = checked_is labels.pairs (are_labels labels.pairs) refl labels refl

-- what a call answers that checks pairs
checked_some : (pairs : List Pair) (labels : Labels) → labels.pairs ≡ pairs → checked_labels pairs (are_labels pairs) refl ≡ Some labels
checked_some pairs labels same = checked_is pairs (are_labels pairs) refl labels same

checked_not : (pairs : List Pair) (b : Bool) (e : are_labels pairs ≡ b) → b ≡ false → checked_labels pairs b e ≡ None
checked_not pairs true e out = absurd (cc)
checked_not pairs false e out = refl

-- the same where the pairs are shared first
pub shared_some : (pairs given : List Pair) (labels : Labels) → labels.pairs ≡ given → given ≡ pairs → checked_labels pairs (are_labels pairs) refl ≡ Some labels
shared_some pairs given labels same shared = checked_some pairs labels (same ∙ shared)

checked_none : (pairs : List Pair) → are_labels pairs ≡ false → checked_labels pairs (are_labels pairs) refl ≡ None
checked_none pairs out = checked_not pairs (are_labels pairs) refl out

pub shared_none : (pairs given : List Pair) → are_labels given ≡ false → given ≡ pairs → checked_labels pairs (are_labels pairs) refl ≡ None
shared_none pairs given out shared = checked_none pairs (ap are_labels (sym shared) ∙ out)

least_of_pair : (p : Pair) → least_pair ≤ length (pair_spelling p)
least_of_pair p = omega (arith, length-append (text_spelling p.name) (text_spelling p.value))

least_of_text : (text : List ℕ) → least_text ≤ length (text_spelling text)
least_of_text text = omega arith

labels_takes : (bytes : List ℕ) (x : Labels × List ℕ) → IsBytes bytes → labels_at bytes ≡ Some x → Takes bytes (labels_spelling x.0.pairs) x.1 × PairsFit x.0.pairs
unfolding labels_at
labels_takes bytes x fits e =
    let a = bind_some (list_at least_pair pair_at bytes) (λ pairs. checked_labels pairs.0 (are_labels pairs.0) refl >>= λ labels. Some (labels, pairs.1)) x e in
    let b = bind_some (checked_labels a.0.0 (are_labels a.0.0) refl) (λ labels. Some (labels, a.0.1)) x a.2 in
    let same : b.0.pairs ≡ a.0.0 = checked_pairs a.0.0 (are_labels a.0.0) refl b.0 b.1 in
    let t = list_take least_pair pair_at pair_spelling IsPair pair_takes bytes a.0 fits a.1 in
    let made : Labels × List ℕ = (b.0, a.0.1) in
    subst (λ (y : Labels × List ℕ). Takes bytes (labels_spelling y.0.pairs) y.1 × PairsFit y.0.pairs) (same_Some made x b.2)
    (subst (λ (ps : List Pair). Takes bytes (labels_spelling ps) a.0.1 × PairsFit ps) (sym same) (t.0, record { few = t.1; each = t.2 }))

labels_again : (labels : Labels) (rest : List ℕ) → PairsFit labels.pairs → labels_at (labels_spelling labels.pairs ++ rest) ≡ Some (labels, rest)
unfolding labels_at
labels_again labels rest fit = rw (list_again least_pair pair_at pair_spelling IsPair pair_again least_of_pair labels.pairs rest fit.few fit.each, checked_again labels) refl

stack_takes : (bytes : List ℕ) (x : List (List ℕ) × List ℕ) → IsBytes bytes → stack_at bytes ≡ Some x → Takes bytes (stack_spelling x.0) x.1 × FramesFit x.0
unfolding stack_at
stack_takes bytes x fits e =
    let t = list_take least_text text_at text_spelling IsText text_takes bytes x fits e in
    (t.0, record { few = t.1; each = t.2 })

stack_again : (frames : List (List ℕ)) (rest : List ℕ) → FramesFit frames → stack_at (stack_spelling frames ++ rest) ≡ Some (frames, rest)
unfolding stack_at
stack_again frames rest fit = list_again least_text text_at text_spelling IsText text_again least_of_text frames rest fit.few fit.each

-- ---- rows

-- a row that has a spelling
pub record RowFits (row : Row) : Type 0 where
  pub name : IsText row.name
  pub sample_type : IsText row.sample_type
  pub sample_unit : IsText row.sample_unit
  pub period_type : IsText row.period_type
  pub period_unit : IsText row.period_unit
  pub labels : PairsFit row.labels.pairs
  pub timestamp : IsWhole row.timestamp
  pub stack : FramesFit row.stack
  pub pprof_labels : PairsFit row.pprof_labels.pairs
  pub period : IsWhole row.period
  pub duration : IsWhole row.duration
  pub value : IsWhole row.value

-- what is read is what was spelled, and what was spelled is read again, whatever follows
record IsCodec (A : Type 0) (read : List ℕ → Reading A) (spell : A → List ℕ) (P : A → Type 0) : Type 0 where
  takes : (bytes : List ℕ) (x : A × List ℕ) → IsBytes bytes → read bytes ≡ Some x → Takes bytes (spell x.0) x.1 × P x.0
  again : (x : A) (rest : List ℕ) → P x → read (spell x ++ rest) ≡ Some (x, rest)

record AreBoth {A B : Type 0} (P : A → Type 0) (Q : B → Type 0) (x : Both A B) : Type 0 where
  one : P x.first
  other : Q x.second

both_codec : {A B : Type 0} {read : List ℕ → Reading A} {spell : A → List ℕ} {P : A → Type 0} {next : List ℕ → Reading B} {say : B → List ℕ} {Q : B → Type 0}
    → IsCodec A read spell P → IsCodec B next say Q → IsCodec (Both A B) (both_at read next) (λ x. spell x.first ++ say x.second) (AreBoth P Q)
unfolding both_at
both_codec {A} {B} {read} {spell} {P} {next} {say} {Q} a b = record {
  takes = λ bytes x fits e.
      let s = bind_some (read bytes) (λ v. next v.1 >>= λ w. Some (record { first = v.0; second = w.0 }, w.1)) x e in
      let u = bind_some (next s.0.1) (λ w. Some (record { first = s.0.0; second = w.0 }, w.1)) x s.2 in
      let t = a.takes bytes s.0 fits s.1 in
      let v = b.takes s.0.1 u.0 t.0.rest_fits u.1 in
      let made : Both A B × List ℕ = (record { first = s.0.0; second = u.0.0 }, u.0.1) in
      subst (λ (y : Both A B × List ℕ). Takes bytes (spell y.0.first ++ say y.0.second) y.1 × AreBoth P Q y.0) (same_Some made x u.2)
      (Takes-then t.0 v.0, record { one = t.1; other = v.1 });
  again = λ x rest fit.
      ap (λ (t : List ℕ). read t >>= λ v. next v.1 >>= λ w. Some (record { first = v.0; second = w.0 }, w.1)) (append_assoc (spell x.first) (say x.second) rest)
      ∙ rw (a.again x.first (say x.second ++ rest) fit.one, b.again x.second rest fit.other) refl;
}

text_codec : IsCodec (List ℕ) text_at text_spelling IsText
text_codec = record { takes = text_takes; again = text_again }

whole_codec : IsCodec ℤ whole_at whole_spelling IsWhole
whole_codec = record { takes = whole_takes; again = whole_again }

labels_codec : IsCodec Labels labels_at (λ labels. labels_spelling labels.pairs) (λ labels. PairsFit labels.pairs)
labels_codec = record { takes = labels_takes; again = labels_again }

stack_codec : IsCodec (List (List ℕ)) stack_at stack_spelling FramesFit
stack_codec = record { takes = stack_takes; again = stack_again }

abbrev IsThree : Both ℤ (Both ℤ ℤ) → Type 0
IsThree = AreBoth IsWhole (AreBoth IsWhole IsWhole)

numbers_codec : IsCodec (Both ℤ (Both ℤ ℤ)) numbers_at (λ x. whole_spelling x.first ++ (whole_spelling x.second.first ++ whole_spelling x.second.second)) IsThree
unfolding numbers_at
numbers_codec = both_codec whole_codec (both_codec whole_codec whole_codec)

abbrev parts_spelling : RowParts → List ℕ
parts_spelling p = text_spelling p.first ++ (text_spelling p.second.first ++ (text_spelling p.second.second.first ++ (text_spelling p.second.second.second.first ++ (text_spelling p.second.second.second.second.first ++ (labels_spelling p.second.second.second.second.second.first.pairs ++ (whole_spelling p.second.second.second.second.second.second.first ++ (stack_spelling p.second.second.second.second.second.second.second.first ++ (labels_spelling p.second.second.second.second.second.second.second.second.first.pairs ++ (whole_spelling p.second.second.second.second.second.second.second.second.second.first ++ (whole_spelling p.second.second.second.second.second.second.second.second.second.second.first ++ (whole_spelling p.second.second.second.second.second.second.second.second.second.second.second)))))))))))

abbrev PartsFit : RowParts → Type 0
PartsFit = AreBoth IsText (AreBoth IsText (AreBoth IsText (AreBoth IsText (AreBoth IsText (AreBoth (λ labels. PairsFit labels.pairs) (AreBoth IsWhole (AreBoth FramesFit (AreBoth (λ labels. PairsFit labels.pairs) (AreBoth IsWhole (AreBoth IsWhole IsWhole))))))))))

parts_codec : IsCodec RowParts row_parts_at parts_spelling PartsFit
parts_codec = both_codec text_codec (both_codec text_codec (both_codec text_codec (both_codec text_codec (both_codec text_codec (both_codec labels_codec (both_codec whole_codec (both_codec stack_codec (both_codec labels_codec numbers_codec))))))))

abbrev parts_of : Row → RowParts
parts_of r = record { first = r.name; second = record { first = r.sample_type; second = record { first = r.sample_unit; second = record { first = r.period_type; second = record { first = r.period_unit; second = record { first = r.labels; second = record { first = r.timestamp; second = record { first = r.stack; second = record { first = r.pprof_labels; second = record { first = r.period; second = record { first = r.duration; second = r.value } } } } } } } } } } }

fits_of : (p : RowParts) → PartsFit p → RowFits (row_of p)
fits_of p fit = record { name = fit.one; sample_type = fit.other.one; sample_unit = fit.other.other.one; period_type = fit.other.other.other.one; period_unit = fit.other.other.other.other.one; labels = fit.other.other.other.other.other.one; timestamp = fit.other.other.other.other.other.other.one; stack = fit.other.other.other.other.other.other.other.one; pprof_labels = fit.other.other.other.other.other.other.other.other.one; period = fit.other.other.other.other.other.other.other.other.other.one; duration = fit.other.other.other.other.other.other.other.other.other.other.one; value = fit.other.other.other.other.other.other.other.other.other.other.other }

parts_fit : (r : Row) → RowFits r → PartsFit (parts_of r)
parts_fit r fit = record { one = fit.name; other = record { one = fit.sample_type; other = record { one = fit.sample_unit; other = record { one = fit.period_type; other = record { one = fit.period_unit; other = record { one = fit.labels; other = record { one = fit.timestamp; other = record { one = fit.stack; other = record { one = fit.pprof_labels; other = record { one = fit.period; other = record { one = fit.duration; other = fit.value } } } } } } } } } } }

pub row_takes : (bytes : List ℕ) (x : Row × List ℕ) → IsBytes bytes → row_at bytes ≡ Some x → Takes bytes (row_spelling x.0) x.1 × RowFits x.0
unfolding row_at
row_takes bytes x fits e =
    let a = bind_some (row_parts_at bytes) (λ p. Some (row_of p.0, p.1)) x e in
    let t = parts_codec.takes bytes a.0 fits a.1 in
    let made : Row × List ℕ = (row_of a.0.0, a.0.1) in
    subst (λ (y : Row × List ℕ). Takes bytes (row_spelling y.0) y.1 × RowFits y.0) (same_Some made x a.2) (t.0, fits_of a.0.0 t.1)

pub row_again : (r : Row) (rest : List ℕ) → RowFits r → row_at (row_spelling r ++ rest) ≡ Some (r, rest)
unfolding row_at
row_again r rest fit = ap (λ (o : Reading RowParts). o >>= λ p. Some (row_of p.0, p.1)) (parts_codec.again (parts_of r) rest (parts_fit r fit))

-- ---- which rows have a spelling

text_pair : (p : Pair) → IsPair p → IsTextPair p
text_pair p is = record { name = is.name.utf8; value = is.value.utf8 }

pairs_texts : (pairs : List Pair) → AllByRecursion IsPair pairs → AllByRecursion IsTextPair pairs
pairs_texts [] all = tt
pairs_texts (p ∷ pairs) all = (text_pair p all.0, pairs_texts pairs all.1)

frames_texts : (frames : List (List ℕ)) → AllByRecursion IsText frames → AllByRecursion IsUtf8 frames
frames_texts [] all = tt
frames_texts (f ∷ frames) all = (all.0.utf8, frames_texts frames all.1)

pub row_is : (r : Row) → RowFits r → IsRow r
row_is r fit = record {
  name = fit.name.utf8;
  sample_type = fit.sample_type.utf8;
  sample_unit = fit.sample_unit.utf8;
  period_type = fit.period_type.utf8;
  period_unit = fit.period_unit.utf8;
  labels = All-from_recursion IsTextPair r.labels.pairs (pairs_texts r.labels.pairs fit.labels.each);
  timestamp = fit.timestamp;
  stack = All-from_recursion IsUtf8 r.stack (frames_texts r.stack fit.stack.each);
  pprof_labels = All-from_recursion IsTextPair r.pprof_labels.pairs (pairs_texts r.pprof_labels.pairs fit.pprof_labels.each);
  period = fit.period;
  duration = fit.duration;
  value = fit.value;
}

-- pairs of so few bytes
pairs_fit : (pairs : List Pair) → AllByRecursion IsTextPair pairs → sum_by pair_size pairs < 2 ^ 32 → AllByRecursion IsPair pairs × (8 * length pairs ≤ sum_by pair_size pairs)
pairs_fit [] all small = (tt, omega arith)
pairs_fit (p ∷ pairs) all small =
    let split : sum_by pair_size (p ∷ pairs) ≡ pair_size p + sum_by pair_size pairs = sum_by-cons pair_size p pairs in
    let more = pairs_fit pairs all.1 (omega (arith, split, small)) in
    let few = more.1 in (
      (record { name = record { utf8 = all.0.name; short = omega (arith, split, small) }; value = record { utf8 = all.0.value; short = omega (arith, split, small) } }, more.0),
      omega (arith, split, few),
    )

frames_fit : (frames : List (List ℕ)) → AllByRecursion IsUtf8 frames → sum_by text_size frames < 2 ^ 32 → AllByRecursion IsText frames × (4 * length frames ≤ sum_by text_size frames)
frames_fit [] all small = (tt, omega arith)
frames_fit (f ∷ frames) all small =
    let split : sum_by text_size (f ∷ frames) ≡ text_size f + sum_by text_size frames = sum_by-cons text_size f frames in
    let more = frames_fit frames all.1 (omega (arith, split, small)) in
    let few = more.1 in (
      (record { utf8 = all.0; short = omega (arith, split, small) }, more.0),
      omega (arith, split, few),
    )

labels_fit : (pairs : List Pair) → All IsTextPair pairs → labels_size pairs < 2 ^ 32 → PairsFit pairs
labels_fit pairs all small =
    let found = pairs_fit pairs (recursion_from_All IsTextPair pairs all) (omega (arith, small)) in
    let few = found.1 in
    record { few = omega (arith, few, small); each = found.0 }

stack_fit : (frames : List (List ℕ)) → All IsUtf8 frames → stack_size frames < 2 ^ 32 → FramesFit frames
stack_fit frames all small =
    let found = frames_fit frames (recursion_from_All IsUtf8 frames all) (omega (arith, small)) in
    let few = found.1 in
    record { few = omega (arith, few, small); each = found.0 }

pub row_fits : (r : Row) → IsRow r → row_size r < 2 ^ 32 → RowFits r
row_fits r is small = record {
  name = record { utf8 = is.name; short = omega (arith, small) };
  sample_type = record { utf8 = is.sample_type; short = omega (arith, small) };
  sample_unit = record { utf8 = is.sample_unit; short = omega (arith, small) };
  period_type = record { utf8 = is.period_type; short = omega (arith, small) };
  period_unit = record { utf8 = is.period_unit; short = omega (arith, small) };
  labels = labels_fit r.labels.pairs is.labels (omega (arith, small));
  timestamp = is.timestamp;
  stack = stack_fit r.stack is.stack (omega (arith, small));
  pprof_labels = labels_fit r.pprof_labels.pairs is.pprof_labels (omega (arith, small));
  period = is.period;
  duration = is.duration;
  value = is.value;
}
