-- What a sealed part in place of a run comes to, on plain data.
use Rattle.std.proofs.Common.{◌≡◌, ◌≢◌, ℕ, ◌+◌, ◌-◌, ◌<◌, ◌≤◌, List, [], ◌∷◌, ◌++◌, length, map, get_or, sym, refl, ap, ◌∙◌, subst, ⊎_elim, arith, IsPermutation, Result, Ok, Err, IfOk}
use Rattle.std.proofs.lemmas.Bool.{cases_lt}
use Rattle.fd_kinds.specs.Parts.{PartMeaning}
use Rattle.fd_shelf.specs.Books.{Book, rows_in}
use Rattle.fd_shelf.specs.Books.{Each as AllOf}
use Rattle.fd_shelf.specs.Numbers.{Keeps}
use Rattle.fd_shelf.specs.Replacement.{IsChanged, IsLeast}
use Rattle.fd_shelf.specs.Runs.{AreSealable}
use Rattle.fd_shelf.specs.Steps.{Placed, highest, level0, lowest, loose_upto, placed_in}
use Rattle.fd_compact.specs.Runs.{IsSealOf}
use Rattle.fd_compact.specs.declared.compaction.Compaction.{Compaction}
use Rattle.fd_compact.specs.declared.compaction.Compaction.TheVariants.{Compacted, Nothing, Overtaken, Changed}
use Rattle.fd_rule.specs.Kinds.TurnReturn.{active_block, first_loose}
use Rattle.fd_rule.specs.Kinds.FloorRaise.{with_floor}
use Rattle.fd_rule.specs.Lists.{AllUpto}
use Rattle.fd_rule.specs.View.{View, Given, Pinning}
use Rattle.fd_pins.specs.Scans.{IsScan, least}
use Rattle.fd_pool.specs.Lists.{IsRun, SeenRows}
use Rattle.fd_pool.specs.Swaps.{HasSwapped}
use Rattle.fd_pool.specs.Turns.{Turned}
use Rattle.fd_pooled.specs.Compactions.{Ends, FoundFew, HasCompacted, HasRun, HasSealed, Puts, run_length}
use Rattle.fd_pooled.specs.Steps.{Looks}
use Rattle.fd_pooled.proofs.Changes.{changed, more_blocks}
use Rattle.fd_pooled.proofs.Passing.{looks_kept, looks_scanned, looks_then}

pub if_ok_then : {A E : Type 0} {X Y : A → Type 0} (r : Result A E) → ((a : A) → X a → Y a) → IfOk r X → IfOk r Y
if_ok_then (Ok a) f x = f a x
if_ok_then (Err e) f x = tt

abbrev first_of : ℕ → List Placed → ℕ
first_of other [] = other
first_of other (p ∷ ps) = p.block

first_placed : (n : ℕ) (ps : List PartMeaning) → first_of n (map (placed_in n) ps) ≡ n
first_placed n [] = refl
first_placed n (p ∷ ps) = refl

-- the parts of a run are in the active block
pub first_block : {I : Type 0} (block : I → ℕ) (part : I → PartMeaning) (picked : List I) (x : I) (book : Book) (l : ℕ) → 0 < length picked → x ≡ get_or picked 0 x → map (λ i. placed_in (block i) (part i)) picked ≡ level0 book l → block x ≡ length book.closed
first_block block part [] x book l some is place = absurd (omega (arith, some))
first_block block part (y ∷ ys) x book l some is place = ap block is ∙ (ap (first_of (length book.closed)) place ∙ first_placed (length book.closed) (loose_upto book l))

some_long : {A : Type 0} (xs : List A) → 0 < length xs → xs ≢ []
some_long [] long = λ e. omega (arith, long)
some_long (x ∷ xs) long = λ e. cc

module _ (l : ℕ) (g : Given) (placed : List Placed) (parts : List PartMeaning) (v : View) (r : HasRun l g placed parts v) where
  long : length parts ≡ run_length g l
  long = ap length r.those ∙ r.run.count r.low

  pub few : (n : ℕ) (w : View) → n ≡ length parts → n < 2 → w ≡ v → FoundFew l g v n w
  few n w is few_parts becomes = record { few = few_parts; count = is ∙ long; becomes = becomes }

  module _ (two : 2 ≤ length parts) where
    some : loose_upto g.book l ≢ []
    some = some_long (loose_upto g.book l) (let e = ap length r.those in omega (arith, e, two))

    -- the run may be sealed, ..
    pub sealable : AreSealable parts
    sealable = subst AreSealable (sym r.those) (r.run.sealable some)

    pub first : lowest parts ≡ first_loose g
    first = ap lowest r.those ∙ r.run.first r.low some

    pub last : highest parts ≡ l
    last = ap highest r.those ∙ r.run.last r.low some

    -- .. and one part of its range and with its rows has the rows that the seat has seen
    pub seen : (part : PartMeaning) → IsSealOf parts part → SeenRows v.seen.history part
    seen part seals = r.run.rows some part (seals.lo ∙ ap lowest r.those) (seals.hi ∙ ap highest r.those) (subst (λ (ps : List PartMeaning). IsPermutation (rows_in ps) part.rows) r.those seals.rows)

    sealed : (part : PartMeaning) (h : Given) (w : View) → IsSealOf parts part → Turned v h w → HasSealed l g v part h w
    sealed part h w seals turned = let e = long in record {
      some = omega (arith, e, two);
      seals = subst (λ (ps : List PartMeaning). IsSealOf ps part) r.those seals;
      lo = seals.lo ∙ first;
      hi = seals.hi ∙ last;
      seen = seen part seals;
      turned = turned;
    }

    keeps : (h : Given) → AllOf (λ book. Keeps book h.book) v.books → Keeps g.book h.book
    keeps h known = (subst (λ (books : List Book). AllOf (λ book. Keeps book h.book) books) r.book known).0

    first_upto : first_loose g ≤ l
    first_upto = let e = long in omega (arith, e, two)

    module _ (block lo hi rows : ℕ) (part : PartMeaning) (here : block ≡ active_block g) (lo_is : lo ≡ lowest parts) (hi_is : hi ≡ highest parts) (rows_are : rows ≡ length part.rows) (seals : IsSealOf parts part) where
      pub ends : (done : Compaction) (w : View) → Puts block lo hi rows part v done w → Ends l g v done w
      ends (Compacted a b c) w (a_is, b_is, c_is, put) = record {
        part = part;
        h = put.h;
        sealed = sealed part put.h w seals put.turned;
        first = a_is ∙ (lo_is ∙ first);
        last = b_is ∙ (hi_is ∙ last);
        count = c_is ∙ rows_are;
        stands = subst (λ (x : ℕ × ℕ × ℕ). HasSwapped x.0 x.1 x.2 part put.h) (λ i. (here i, sym a_is i, sym b_is i)) put.stands;
      }
      ends (Overtaken active) w put = let more = more_blocks g.book put.h.book (keeps put.h put.known) in let other = put.why.0 in let is = put.why.1 in record {
        part = part;
        h = put.h;
        sealed = sealed part put.h w seals put.turned;
        active = is;
        above = ⊎_elim (λ (x : active_block g < active). x) (λ (x : active ≤ active_block g). absurd (other (omega (arith, x, more, is, here)))) (cases_lt (active_block g) active);
      }
      ends (Changed at) w put = let same : active_block put.h ≡ active_block g = sym put.why.0 ∙ here in
          let least : IsLeast (IsChanged (first_loose g) l put.h.book.active) at = subst (λ (x : ℕ × ℕ). IsLeast (IsChanged x.0 x.1 put.h.book.active) at) (λ i. ((lo_is ∙ first) i, (hi_is ∙ last) i)) put.why.1 in
          let t = changed g.book put.h.book g.mark put.h.mark r.run.order put.order (keeps put.h put.known) same l r.low first_upto at least in record {
            part = part;
            h = put.h;
            sealed = sealed part put.h w seals put.turned;
            same = same;
            first = t.0;
            later = t.1;
          }
      ends (Nothing n) w put = absurd put

least_low : (n : ℕ) (ms : List ℕ) → least n ms ≤ n
least_low n [] = omega arith
least_low n (m ∷ ms) = let r = least_low n ms in omega (arith, r)

last_upto : (m : ℕ) (xs : List ℕ) (x : ℕ) → AllUpto m (xs ++ x ∷ []) → x ≤ m
last_upto m [] x all = all.0
last_upto m (y ∷ xs) x all = last_upto m xs x all.1

module _ (seats : ℕ) (old scanned lifted : View) (l : ℕ) (scan : IsScan seats old l scanned) (raised : lifted ≡ with_floor l scanned) (g : Given) (listed : View) (turned : Turned lifted g listed) where
  -- the limit of a scan is at most the mark of a later turn
  low : AllUpto g.mark lifted.seen.marks → l ≤ g.mark
  low marks = let seen : lifted.seen.marks ≡ old.seen.marks ++ scan.mark ∷ [] = ap (λ (v : View). v.seen.marks) raised ∙ ap (λ (v : View). v.seen.marks) scan.becomes in
      let under = last_upto g.mark old.seen.marks scan.mark (subst (AllUpto g.mark) seen marks) in let is = scan.is_least in let at_most = least_low scan.mark scan.pins in omega (arith, under, is, at_most)

  pub has_run : (placed : List Placed) (parts : List PartMeaning) → placed ≡ level0 g.book l → parts ≡ loose_upto g.book l → IsRun g l listed.seen.history → AllUpto g.mark lifted.seen.marks → HasRun l g placed parts listed
  has_run placed parts place those run marks = record { low = low marks; place = place; those = those; run = run; others = turned.others; book = turned.book }

  -- the floor is at least the limit
  pub floor : l ≤ listed.pinning.raised
  floor = let same = ap (λ (p : Pinning). p.raised) turned.kept.pinning in let is = ap (λ (v : View). v.pinning.raised) raised in omega (arith, same, is)

  -- nothing but marks was loaded
  pub looks_listed : Looks old listed
  looks_listed = looks_then old lifted listed (subst (λ (v : View). Looks old v) (sym raised) (looks_scanned seats old l scanned scan)) (looks_kept lifted listed turned.kept)

  pub compacted : (done : Compaction) (new : View) → l ≤ g.mark → Ends l g listed done new → HasCompacted seats old done new
  compacted done new under ends = record { l = l; g = g; listed = listed; lists = record { scanned = scanned; scan = scan; turned = subst (λ (v : View). Turned v g listed) raised turned; low = under }; ends = ends }
