-- Images after one change more, and images that are put together of others.
use Rattle.std.proofs.Common.{◌≡◌, ℕ, ◌+◌, ◌≤◌, List, [], ◌∷◌, ◌++◌, length, take, ◌∙◌, inl, inr, ◌⊎◌, ⊎_elim, refl, sym, ap, subst, arith, length-append}
use Rattle.std.proofs.lemmas.List.{take-append-le}
use Rattle.std.proofs.lemmas.Bool.{cases_lt, cases_Bool, cond-true, cond-false}
use Rattle.std.proofs.Math.Seq.{take-length}
use Rattle.fd_device.specs.Disks.{Files, Elapses, NoneNew, Steps, Torn, Cut as CutTo, changed, written, same_file}
use Rattle.fd_device.specs.Changes.{apply, replay}
use Rattle.fd_device.specs.Images.{images_after, images_from, images_of, WasImage, Holds, HoldsSlots, Recording, began, recorded, Stays, Adds}
use Rattle.fd_device.specs.declared.changes.Change.{Change}
use Rattle.fd_device.specs.declared.changes.Change.TheVariants.{Write, Cut, Sync}
use Rattle.fd_device.specs.Slots.{lookup}
use Rattle.std.specs.Prelude.{OnOk, OnErr, Result, Ok, Err}
use Rattle.fd_device.specs.MemFiles.{now_of, base_of, lost_of, torn_of, files_of, bases, Restarts, RestartsUpto}
use Rattle.fd_device.specs.declared.files.FileId.{FileId}
use Rattle.fd_device.specs.declared.slots.Slot.{Slot}
use Rattle.fd_device.specs.declared.mem_file.MemFile.{MemFile}
use Rattle.fd_device.proofs.MemSlots.{restarts_is, restarts_same, bases_are}
use Rattle.fd_device.proofs.DiskSteps.{same_file-eq, same_file-refl, torn_stays, cut_stays}
use Rattle.fd_device.proofs.ChangeSteps.{noted_is, torn_part, cut_done, steps_changed}

images_from-push : (changes : List Change) (change : Change) (files : Files) (images : Files → Type 0) (image : Files)
    → images_from (changes ++ change ∷ []) files images image → images_after change (replay changes files) (images_from changes files images) image
images_from-push [] change files images image is = is
images_from-push (first ∷ changes) change files images image is = images_from-push changes change (apply first files) (images_after first files images) image is

images_from-more : (changes : List Change) (change : Change) (files : Files) (images : Files → Type 0) (image : Files)
    → images_after change (replay changes files) (images_from changes files images) image → images_from (changes ++ change ∷ []) files images image
images_from-more [] change files images image is = is
images_from-more (first ∷ changes) change files images image is = images_from-more changes change (apply first files) (images_after first files images) image is

-- the images after one change more are those
pub images_push : (base : Files) (changes later : List Change) (change : Change) (image : Files) → later ≡ changes ++ change ∷ [] → images_of base later image → images_after change (replay changes base) (images_of base changes) image
images_push base changes later change image is left = images_from-push changes change base (λ i. i ≡ base) image (subst (λ (l : List Change). images_of base l image) is left)

-- and those are the images after it
pub images_more : (base : Files) (changes later : List Change) (change : Change) (image : Files) → later ≡ changes ++ change ∷ [] → images_after change (replay changes base) (images_of base changes) image → images_of base later image
images_more base changes later change image is left = subst (λ (l : List Change). images_of base l image) (sym is) (images_from-more changes change base (λ i. i ≡ base) image left)

-- an image may have each file from another image
abbrev pub IsClosed : (Files → Type 0) → Type 0
IsClosed images = (image : Files) → ((f : FileId) → (a : Files) × images a × (image f ≡ a f)) → images image

closed_after : (change : Change) (files : Files) (images : Files → Type 0) → IsClosed images → IsClosed (images_after change files images)
closed_after (Write file at piece) files images closed image each =
    let before : Files = λ f. (each f).1.0 f in (
      before,
      closed before (λ f. ((each f).1.0, (each f).1.1, refl)),
      record {
        here = subst (λ (l : List ℕ). Torn at (length piece) (before file) l) (sym (each file).2) (each file).1.2.here;
        others = λ f other. (each f).2 ∙ (each f).1.2.others f other;
      },
    )
closed_after (Cut file size) files images closed image each =
    let before : Files = λ f. (each f).1.0 f in (
      before,
      closed before (λ f. ((each f).1.0, (each f).1.1, refl)),
      record {
        here = subst (λ (l : List ℕ). CutTo size (before file) l) (sym (each file).2) (each file).1.2.here;
        others = λ f other. (each f).2 ∙ (each f).1.2.others f other;
      },
    )
closed_after (Sync file) files images closed image each =
    (closed image (λ f. ((each f).0, (each f).1.0, (each f).2)), (each file).2 ∙ (each file).1.1)

closed_from : (changes : List Change) (files : Files) (images : Files → Type 0) → IsClosed images → IsClosed (images_from changes files images)
closed_from [] files images closed = closed
closed_from (change ∷ changes) files images closed = closed_from changes (apply change files) (images_after change files images) (closed_after change files images closed)

pub closed_of : (base : Files) (changes : List Change) → IsClosed (images_of base changes)
closed_of base changes = closed_from changes base (λ i. i ≡ base) (λ image each.
    let same : (f : FileId) → image f ≡ base f = λ f. (each f).2 ∙ ap (λ (g : Files). g f) (each f).1 in
    λ j f. same f j)

-- one file from another image
mixes : (base : Files) (changes : List Change) (file : FileId) (a b : Files) → images_of base changes a → images_of base changes b → images_of base changes (changed file (λ l. b file) a)
mixes base changes file a b is_a is_b = closed_of base changes (changed file (λ l. b file) a) each
  where
    each : (f : FileId) → (i : Files) × images_of base changes i × (changed file (λ l. b file) a f ≡ i f)
    each f = elim (cases_Bool (same_file f file)) [
      | inl same ↦ (b, is_b, cond-true (same_file f file) (b file) (a f) same ∙ ap b (sym (same_file-eq f file same)))
      | inr other ↦ (a, is_a, cond-false (same_file f file) (b file) (a f) other)
    ]

pub holds_same : (base now lost torn base' now' lost' torn' : Files) (changes later : List Change) → Holds base now lost torn changes → base' ≡ base → now' ≡ now → lost' ≡ lost → torn' ≡ torn → later ≡ changes
    → Holds base' now' lost' torn' later
holds_same base now lost torn base' now' lost' torn' changes later holds b n l t c =
    subst (λ (x : Files). Holds x now' lost' torn' later) (sym b)
    (subst (λ (x : Files). Holds base x lost' torn' later) (sym n)
    (subst (λ (x : Files). Holds base now x torn' later) (sym l)
    (subst (λ (x : Files). Holds base now lost x later) (sym t)
    (subst (λ (x : List Change). Holds base now lost torn x) (sym c) holds))))

pub holds_write : (base now lost torn base' now' lost' torn' : Files) (changes later : List Change) (file : FileId) (at : ℕ) (piece : List ℕ) → Holds base now lost torn changes → at ≤ length (now file)
    → base' ≡ base → now' ≡ changed file (written at piece) now → lost' ≡ lost → Steps file (Torn at (length piece)) torn torn' → later ≡ changes ++ Write file at piece ∷ []
    → Holds base' now' lost' torn' later
holds_write base now lost torn base' now' lost' torn' changes later file at piece holds fits b n l t c =
    holds_same base (changed file (written at piece) now) lost torn' base' now' lost' torn' later later (record {
      present = ap (λ (g : Files). changed file (written at piece) g) holds.present ∙ sym (noted_is base changes later (Write file at piece) c);
      whole = images_more base changes later (Write file at piece) (changed file (written at piece) now) c
          (now, holds.whole, steps_changed file (Torn at (length piece)) (written at piece) now (torn_part at (length piece) piece (now file) fits (omega arith)));
      lost_is = images_more base changes later (Write file at piece) lost c (lost, holds.lost_is, torn_stays file at (length piece) lost);
      torn_is = images_more base changes later (Write file at piece) torn' c (torn, holds.torn_is, t);
    }) b n l refl refl

pub holds_cut : (base now lost torn base' now' lost' torn' : Files) (changes later : List Change) (file : FileId) (size : ℕ) → Holds base now lost torn changes → size ≤ length (now file)
    → base' ≡ base → now' ≡ changed file (take size) now → lost' ≡ lost → Steps file (CutTo size) torn torn' → later ≡ changes ++ Cut file size ∷ []
    → Holds base' now' lost' torn' later
holds_cut base now lost torn base' now' lost' torn' changes later file size holds fits b n l t c =
    holds_same base (changed file (take size) now) lost torn' base' now' lost' torn' later later (record {
      present = ap (λ (g : Files). changed file (take size) g) holds.present ∙ sym (noted_is base changes later (Cut file size) c);
      whole = images_more base changes later (Cut file size) (changed file (take size) now) c
          (now, holds.whole, steps_changed file (CutTo size) (take size) now (cut_done size (now file) fits));
      lost_is = images_more base changes later (Cut file size) lost c (lost, holds.lost_is, cut_stays file size lost);
      torn_is = images_more base changes later (Cut file size) torn' c (torn, holds.torn_is, t);
    }) b n l refl refl

pub holds_sync : (base now lost torn base' now' lost' torn' : Files) (changes later : List Change) (file : FileId) → Holds base now lost torn changes
    → base' ≡ base → now' ≡ now → lost' ≡ changed file (λ l. now file) lost → torn' ≡ changed file (λ l. now file) torn → later ≡ changes ++ Sync file ∷ []
    → Holds base' now' lost' torn' later
holds_sync base now lost torn base' now' lost' torn' changes later file holds b n l t c =
    let at : now file ≡ replay changes base file = ap (λ (g : Files). g file) holds.present in
    holds_same base now (changed file (λ l. now file) lost) (changed file (λ l. now file) torn) base' now' lost' torn' later later (record {
      present = holds.present ∙ sym (noted_is base changes later (Sync file) c);
      whole = images_more base changes later (Sync file) now c (holds.whole, at);
      lost_is = images_more base changes later (Sync file) (changed file (λ l. now file) lost) c
          (mixes base changes file lost now holds.lost_is holds.whole, cond-true (same_file file file) (now file) (lost file) (same_file-refl file) ∙ at);
      torn_is = images_more base changes later (Sync file) (changed file (λ l. now file) torn) c
          (mixes base changes file torn now holds.torn_is holds.whole, cond-true (same_file file file) (now file) (torn file) (same_file-refl file) ∙ at);
    }) b n l t refl

-- time goes on by one change
time_push : (base : Files) (changes later : List Change) (change : Change) → later ≡ changes ++ change ∷ []
    → Elapses (length changes) (length later) (λ t image. WasImage base changes t image) (λ t image. WasImage base later t image) (images_of base later)
time_push base changes later change is = record {
  later = omega (arith, size);
  nothing_else = λ t image le was. early t image was;
  keeps = λ t image le was. record { k = was.k; late = was.late; early = omega (arith, size, was.early); is = subst (λ (l : List Change). images_of base l image) (sym (before was.k was.early)) was.is };
}
  where
    size : length later ≡ length changes + 1
    size = omega (arith, ap length is, length-append changes (change ∷ []))

    before : (k : ℕ) → k ≤ length changes → take k later ≡ take k changes
    before k le = ap (λ (l : List Change). take k l) is ∙ take-append-le k changes (change ∷ []) le

    early : (t : ℕ) (image : Files) → WasImage base later t image → WasImage base changes t image ⊎ images_of base later image
    early t image was = elim (cases_lt was.k (length later)) [
      | inl lt ↦ let le : was.k ≤ length changes = omega (arith, lt, size) in
          inl (record { k = was.k; late = was.late; early = le; is = subst (λ (l : List Change). images_of base l image) (before was.k le) was.is })
      | inr ge ↦ let last : was.k ≡ length later = omega (arith, ge, was.early) in
          let whole : images_of base (take (length later) later) image = subst (λ (k : ℕ). images_of base (take k later) image) last was.is in
          inr (subst (λ (l : List Change). images_of base l image) (take-length later) whole)
    ]

pub adds_seen : (change : Change) (old new : Recording) → Adds change old new → recorded new ≡ apply change (recorded old)
adds_seen change old new adds = ap (λ (b : Files). replay new.changes b) adds.base ∙ noted_is (began old) old.changes new.changes change adds.changes

pub adds_crash : (change : Change) (old new : Recording) → Adds change old new → (image : Files) → images_of (began new) new.changes image → images_after change (recorded old) (images_of (began old) old.changes) image
adds_crash change old new adds image left =
    images_push (began old) old.changes new.changes change image adds.changes (subst (λ (b : Files). images_of b new.changes image) adds.base left)

pub adds_time : (change : Change) (old new : Recording) → Adds change old new
    → Elapses (length old.changes) (length new.changes) (λ t image. WasImage (began old) old.changes t image) (λ t image. WasImage (began new) new.changes t image) (images_of (began new) new.changes)
adds_time change old new adds =
    subst (λ (b : Files). Elapses (length old.changes) (length new.changes) (λ t image. WasImage (began old) old.changes t image) (λ t image. WasImage b new.changes t image) (images_of b new.changes))
    (sym adds.base) (time_push (began old) old.changes new.changes change adds.changes)

pub stays_seen : (old new : Recording) → Stays old new → recorded new ≡ recorded old
stays_seen old new stays = ap (λ (b : Files). replay new.changes b) stays.base ∙ ap (λ (l : List Change). replay l (began old)) stays.changes

pub stays_crash : (old new : Recording) → Stays old new → NoneNew (images_of (began old) old.changes) (images_of (began new) new.changes)
stays_crash old new stays image left =
    subst (λ (l : List Change). images_of (began old) l image) stays.changes (subst (λ (b : Files). images_of b new.changes image) stays.base left)

pub stays_time : (old new : Recording) → Stays old new
    → Elapses (length old.changes) (length new.changes) (λ t image. WasImage (began old) old.changes t image) (λ t image. WasImage (began new) new.changes t image) (images_of (began new) new.changes)
stays_time old new stays =
    subst (λ (b : Files). Elapses (length old.changes) (length new.changes) (λ t image. WasImage (began old) old.changes t image) (λ t image. WasImage b new.changes t image) (images_of b new.changes)) (sym stays.base)
    (subst (λ (l : List Change). Elapses (length old.changes) (length l) (λ t image. WasImage (began old) old.changes t image) (λ t image. WasImage (began old) l t image) (images_of (began old) l)) (sym stays.changes)
    (record { later = omega arith; nothing_else = λ t image le was. inl was; keeps = λ t image le was. was }))

-- slots that began anew: what is there is an image, and nothing is pending
module _ (old new : List (Slot MemFile)) where
  same_as_now : (get : MemFile → List ℕ) → ((a b : MemFile) → Restarts a b → get b ≡ now_of b) → RestartsUpto (length old) old new → lookup get new ≡ lookup now_of new
  same_as_now get so all = λ j f. restarts_same get so old new f all j

  pub restarted_image : (changes : List Change) → HoldsSlots old changes → RestartsUpto (length old) old new → images_of (lookup base_of old) changes (lookup base_of new)
  restarted_image changes holds all =
      subst (λ (g : Files). images_of (lookup base_of old) changes g) (sym (same_as_now base_of (λ a b restarts. restarts.base) all))
      (closed_of (lookup base_of old) changes (lookup now_of new) each)
    where
      each : (f : FileId) → (i : Files) × images_of (lookup base_of old) changes i × (lookup now_of new f ≡ i f)
      each f = ⊎_elim (λ e. (lookup now_of old, holds.whole, e))
          (λ r. ⊎_elim (λ e. (lookup lost_of old, holds.lost_is, e)) (λ e. (lookup torn_of old, holds.torn_is, e)) r)
          (restarts_is old new f all)

  pub restarted_holds : RestartsUpto (length old) old new → HoldsSlots new []
  restarted_holds all =
      let base = same_as_now base_of (λ a b restarts. restarts.base) all in
      record {
        present = sym base;
        whole = sym base;
        lost_is = same_as_now lost_of (λ a b restarts. restarts.lost) all ∙ sym base;
        torn_is = same_as_now torn_of (λ a b restarts. restarts.torn) all ∙ sym base;
      }

-- what a read gives, by the list of what the files were
pub recorded_is : (slots : List (Slot MemFile)) (changes : List Change) → HoldsSlots slots changes → lookup now_of slots ≡ replay changes (files_of (bases slots))
recorded_is slots changes holds = holds.present ∙ ap (λ (g : Files). replay changes g) (sym (bases_are slots))

-- what holds after Ok and after Err
pub either_way : {A E : Type 0} (result : Result A E) (P : Type 0) → OnOk result P → OnErr result P → P
either_way (Ok x) P ok err = ok
either_way (Err e) P ok err = err
